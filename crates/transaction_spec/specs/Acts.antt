-- The items of one transaction with the clock chip, request W-209: what each does to port B's bits 0 to 2, and the transactions.
use Rattle.std.specs.Prelude.{ℕ, ◌+◌, ◌*◌, Bool, true, false, List, [], ◌∷◌, ◌++◌}
use Rattle.units.specs.Units.{for_ticks}
use Rattle.clock_spec.specs.Command.{bit_number}
use Rattle.clock_spec.specs.Patterns.{bits_high_first}
use Rattle.item_spec.specs.declared.Item.{Item}
use Rattle.item_spec.specs.declared.Item.TheVariants.{ReadVia, WriteVia}
use Rattle.transaction_spec.specs.declared.Act.{Act}
use Rattle.transaction_spec.specs.declared.Act.TheVariants.{Port, Side, Look}

-- Port B's output byte and its direction byte, where q and r are their bits 3 to 7.
abbrev pub out_at : ℕ → Bool → Bool → Bool → ℕ
out_at q e c b = 8 * q + (4 * bit_number e + (2 * bit_number c + bit_number b))

abbrev pub dir_at : ℕ → Bool → ℕ
dir_at r x = 8 * r + (4 + (2 + bit_number x))

-- "Each wait 0 VIA ticks."
abbrev pub item_of : ℕ → ℕ → Act → Item
item_of q r (Port e c b) = WriteVia (for_ticks 0) 0 (out_at q e c b)
item_of q r (Side x) = WriteVia (for_ticks 0) 2 (dir_at r x)
item_of q r Look = ReadVia (for_ticks 0) 0

-- Two items for each bit.
abbrev pub sends : List Bool → List Act
sends [] = []
sends (b ∷ bs) = Port false false b ∷ Port false true b ∷ sends bs

-- Three items for each bit asked for.
abbrev pub asks : List Act → List Act
asks more = Port false false false ∷ Look ∷ Port false true false ∷ more

-- Enable goes up or stays up, whatever the directions were; then the three lines are outputs.
abbrev pub opening : List Act
opening = Port true false false ∷ Side true ∷ []

-- Enable goes down; the command's first byte, the high bit first.
abbrev pub called : ℕ → List Act
called c = Port false false false ∷ sends (bits_high_first 8 c)

-- The second byte of an extended command.
abbrev pub second_sent : Bool → ℕ → List Act
second_sent true e = sends (bits_high_first 8 e)
second_sent false e = []

abbrev pub closing : List Act
closing = Port true true false ∷ []

abbrev pub eight : List Act
eight = asks (asks (asks (asks (asks (asks (asks (asks [])))))))

-- After the command: a read makes the data line an input and asks for eight bits, a write sends its byte; then enable goes up.
abbrev pub data_acts : Bool → ℕ → List Act
data_acts true d = Side false ∷ (eight ++ closing)
data_acts false d = sends (bits_high_first 8 d) ++ closing

-- A whole transaction: whether it reads, whether its command has two bytes, these bytes, the byte to write.
abbrev pub acts_by : Bool → Bool → ℕ → ℕ → ℕ → List Act
acts_by z l c e d = opening ++ (called c ++ (second_sent l e ++ data_acts z d))

-- ---- as items and as bytes

abbrev pub items : ℕ → ℕ → List Act → List Item
items q r [] = []
items q r (a ∷ rest) = item_of q r a ∷ items q r rest

-- WR of a register whose address has this second byte, and RD of register 0: $EFE1FE, $EFE5FE.
abbrev pub wr : ℕ → ℕ → List ℕ
wr middle v = 9 ∷ 0 ∷ 87 ∷ 82 ∷ 0 ∷ 0 ∷ 254 ∷ middle ∷ 239 ∷ 0 ∷ v ∷ []

abbrev pub record_of : ℕ → ℕ → Act → List ℕ
record_of q r (Port e c b) = wr 225 (out_at q e c b)
record_of q r (Side x) = wr 229 (dir_at r x)
record_of q r Look = 8 ∷ 0 ∷ 82 ∷ 68 ∷ 0 ∷ 0 ∷ 254 ∷ 225 ∷ 239 ∷ 0 ∷ []

abbrev pub bytes_of : ℕ → ℕ → List Act → List ℕ
bytes_of q r [] = []
bytes_of q r (a ∷ rest) = record_of q r a ++ bytes_of q r rest
