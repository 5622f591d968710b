-- Request W-209: what can be asked, its command byte, its items as bytes.
use Rattle.std.specs.Prelude.{ℕ, ◌+◌, ◌-◌, ◌*◌, ◌/◌, ◌%◌, Bool, true, false, cond, List, Option, Some, None, ltb, leb}
use Rattle.clock_spec.specs.Command.{cells_of, bit_number}
use Rattle.clock_spec.specs.declared.Chip.{Chip}
use Rattle.clock_spec.specs.declared.Target.{Target}
use Rattle.clock_spec.specs.declared.Target.TheVariants.{Seconds, Test, Protect, Cell}
use Rattle.machine_spec.specs.declared.Machine.{Machine}
use Rattle.transaction_spec.specs.declared.Act.{Act}
use Rattle.transaction_spec.specs.declared.Ask.{Ask}
use Rattle.transaction_spec.specs.declared.Ask.TheVariants.{WriteCell, WriteSeconds, WriteProtect, ReadCell, ReadSeconds}
use Rattle.transaction_spec.specs.Acts.{acts_by, bytes_of}

unfoldable pub target_of : Ask → Target
target_of (WriteCell i d) = Cell i
target_of (WriteSeconds k d) = Seconds k
target_of (WriteProtect d) = Protect
target_of (ReadCell i) = Cell i
target_of (ReadSeconds k) = Seconds k

unfoldable pub reads_of : Ask → Bool
reads_of (WriteCell i d) = false
reads_of (WriteSeconds k d) = false
reads_of (WriteProtect d) = false
reads_of (ReadCell i) = true
reads_of (ReadSeconds k) = true

unfoldable pub byte_of : Ask → ℕ
byte_of (WriteCell i d) = d
byte_of (WriteSeconds k d) = d
byte_of (WriteProtect d) = d
byte_of (ReadCell i) = 0
byte_of (ReadSeconds k) = 0

-- The byte to write, none of a read.
unfoldable pub written_by : Ask → Option ℕ
written_by a = cond (reads_of a) None (Some (byte_of a))

-- What the chip has: seconds bytes 0 to 3, and its cells.
unfoldable pub has_of : Chip → Ask → Bool
has_of k (WriteCell i d) = ltb i (cells_of k)
has_of k (WriteSeconds n d) = ltb n 4
has_of k (WriteProtect d) = true
has_of k (ReadCell i) = ltb i (cells_of k)
has_of k (ReadSeconds n) = ltb n 4

-- A seconds byte that a chip has: all that a command byte asks of its number.
unfoldable pub place_in_range : Ask → Bool
place_in_range (WriteCell i d) = true
place_in_range (WriteSeconds k d) = ltb k 4
place_in_range (WriteProtect d) = true
place_in_range (ReadCell i) = true
place_in_range (ReadSeconds k) = ltb k 4

-- z1aaaa01 and z010aa01, without z; W-206: "z0111abc followed by 0defgh00" for the cells that only the later chip has.
unfoldable pub cell_byte : ℕ → ℕ
cell_byte i = cond (ltb i 16) (65 + 4 * i) (cond (ltb i 20) (33 + 4 * (i - 16)) (56 + i / 32))

-- z000kk01, 00110101 and 00110001, without z.
abbrev pub plain_byte : Target → ℕ
plain_byte (Seconds k) = 1 + 4 * k
plain_byte Test = 49
plain_byte Protect = 53
plain_byte (Cell i) = cell_byte i

-- "z=1 for read."
abbrev pub command_for : Bool → Target → ℕ
command_for z t = plain_byte t + 128 * bit_number z

unfoldable pub command_of : Ask → ℕ
command_of a = command_for (reads_of a) (target_of a)

-- Cells 0 to 19 have a command of one byte on both chips.
abbrev pub is_extended : Target → Bool
is_extended (Seconds k) = false
is_extended Test = false
is_extended Protect = false
is_extended (Cell i) = leb 20 i

abbrev pub second_byte : Target → ℕ
second_byte (Seconds k) = 0
second_byte Test = 0
second_byte Protect = 0
second_byte (Cell i) = 4 * (i % 32)

unfoldable pub extended_of : Ask → Bool
extended_of a = is_extended (target_of a)

unfoldable pub second_byte_of : Ask → ℕ
second_byte_of a = second_byte (target_of a)

-- The second byte, where the command has one.
unfoldable pub second_of : Ask → Option ℕ
second_of a = cond (extended_of a) (Some (second_byte_of a)) None

unfoldable pub acts_of : Ask → List Act
acts_of a = acts_by (reads_of a) (extended_of a) (command_of a) (second_byte_of a) (byte_of a)

-- Bits 3 to 7 of port B's output and direction bytes are the state's.
unfoldable pub transaction_of : Machine → Ask → List ℕ
transaction_of m a = bytes_of (m.via.ports.outb / 8) (m.via.ports.dirb / 8) (acts_of a)

-- Its bytes, its items: they hang on whether it reads and on whether its command has two bytes.
abbrev pub size_by : Bool → Bool → ℕ
size_by z l = cond z (cond l 663 487) (cond l 572 396)

abbrev pub count_by : Bool → Bool → ℕ
count_by z l = cond z (cond l 61 45) (cond l 52 36)

unfoldable pub size_of : Ask → ℕ
size_of a = size_by (reads_of a) (extended_of a)

unfoldable pub count_of : Ask → ℕ
count_of a = count_by (reads_of a) (extended_of a)
