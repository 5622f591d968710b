-- The commands by their bit patterns, as documents 01 and 02 write them.
use Rattle.std.specs.Prelude.{Bool, true, false, cond, not, ◌&&◌, List, [], ◌∷◌, ◌++◌, ℕ, zero, suc, ◌+◌, ◌*◌, ◌/◌, ◌%◌, ◌^◌, eqb}
use Rattle.clock_spec.specs.Command.{either, bit_number}
use Rattle.clock_spec.specs.declared.Chip.{Chip}
use Rattle.clock_spec.specs.declared.Chip.TheVariants.{First, Later}
use Rattle.clock_spec.specs.declared.Target.TheVariants.{Seconds, Test, Protect, Cell}
use Rattle.clock_spec.specs.declared.Command.{Command}
use Rattle.clock_spec.specs.declared.Command.TheVariants.{Write, Read, Extended, Illegal}

-- A place of a pattern: 0, 1, z ("z=1 for read"), or a digit of a cell's number.
pub data Mark : Type 0 where
  O : Mark
  I : Mark
  Z : Mark
  A : Mark

-- A pattern, and the command that z and the number of its digits make.
pub record Row : Type 0 where
  pub marks : List Mark
  pub asks : Bool → ℕ → Command

abbrev pub row : (Bool → ℕ → Command) → List Mark → Row
row f m = record { marks = m; asks = f }

-- "z0000001, z0000101, z0001001, z0001101 seconds bytes 0 (lowest) to 3; 00110001 test; 00110101 write-protect; z010aa01 cell 16+aa; z1aaaa01 cell aaaa."
abbrev pub rows : List Row
rows =
    row (λ z n. either z (Seconds 0)) (Z ∷ O ∷ O ∷ O ∷ O ∷ O ∷ O ∷ I ∷ [])
    ∷ row (λ z n. either z (Seconds 1)) (Z ∷ O ∷ O ∷ O ∷ O ∷ I ∷ O ∷ I ∷ [])
    ∷ row (λ z n. either z (Seconds 2)) (Z ∷ O ∷ O ∷ O ∷ I ∷ O ∷ O ∷ I ∷ [])
    ∷ row (λ z n. either z (Seconds 3)) (Z ∷ O ∷ O ∷ O ∷ I ∷ I ∷ O ∷ I ∷ [])
    ∷ row (λ z n. either z Test) (O ∷ O ∷ I ∷ I ∷ O ∷ O ∷ O ∷ I ∷ [])
    ∷ row (λ z n. either z Protect) (O ∷ O ∷ I ∷ I ∷ O ∷ I ∷ O ∷ I ∷ [])
    ∷ row (λ z n. either z (Cell (16 + n))) (Z ∷ O ∷ I ∷ O ∷ A ∷ A ∷ O ∷ I ∷ [])
    ∷ row (λ z n. either z (Cell n)) (Z ∷ I ∷ A ∷ A ∷ A ∷ A ∷ O ∷ I ∷ [])
    ∷ []

-- W-206: "The later one adds z0111abc followed by 0defgh00 for cell abcdefgh": the first byte, and the second.
abbrev pub extended_row : Row
extended_row = row (λ z n. Extended z n) (Z ∷ O ∷ I ∷ I ∷ I ∷ A ∷ A ∷ A ∷ [])

abbrev pub second_marks : List Mark
second_marks = O ∷ A ∷ A ∷ A ∷ A ∷ A ∷ O ∷ O ∷ []

abbrev pub rows_of : Chip → List Row
rows_of First = rows
rows_of Later = rows ++ (extended_row ∷ [])

-- The n low bits of a number, the highest first.
abbrev pub bits_high_first : ℕ → ℕ → List Bool
bits_high_first zero c = []
bits_high_first (suc n) c = eqb (c / 2 ^ n % 2) 1 ∷ bits_high_first n c

-- Whether a bit may stand at a place.
abbrev pub may : Mark → Bool → Bool
may O b = not b
may I b = b
may Z b = true
may A b = true

abbrev pub fits : List Mark → List Bool → Bool
fits [] bs = true
fits (m ∷ ms) [] = false
fits (m ∷ ms) (b ∷ bs) = may m b && fits ms bs

-- The bit at z, if the pattern has one.
abbrev pub read_bit : List Mark → List Bool → Bool
read_bit [] bs = false
read_bit (m ∷ ms) [] = false
read_bit (Z ∷ ms) (b ∷ bs) = b
read_bit (O ∷ ms) (b ∷ bs) = read_bit ms bs
read_bit (I ∷ ms) (b ∷ bs) = read_bit ms bs
read_bit (A ∷ ms) (b ∷ bs) = read_bit ms bs

-- The number that the digits make, v from those before.
abbrev pub digits : ℕ → List Mark → List Bool → ℕ
digits v [] bs = v
digits v (m ∷ ms) [] = v
digits v (A ∷ ms) (b ∷ bs) = digits (2 * v + bit_number b) ms bs
digits v (O ∷ ms) (b ∷ bs) = digits v ms bs
digits v (I ∷ ms) (b ∷ bs) = digits v ms bs
digits v (Z ∷ ms) (b ∷ bs) = digits v ms bs

-- The command of the row that the bits fit.
abbrev pub among : List Row → List Bool → Command
among [] bs = Illegal
among (r ∷ rs) bs = cond (fits r.marks bs) (r.asks (read_bit r.marks bs) (digits 0 r.marks bs)) (among rs bs)

-- What a command byte asks of a chip.
unfoldable pub meant : Chip → ℕ → Command
meant k c = among (rows_of k) (bits_high_first 8 c)

-- What a second byte makes of the first one's z and abc: its digits go on where abc ends.
unfoldable pub second_meant : Bool → ℕ → ℕ → Command
second_meant z a d = cond (fits second_marks (bits_high_first 8 d)) (either z (Cell (digits a second_marks (bits_high_first 8 d)))) Illegal

-- The command that a first byte and a second one make: "a second byte of another form is ignored".
abbrev pub extend : Command → ℕ → Command
extend (Write t) d = Illegal
extend (Read t) d = Illegal
extend (Extended z a) d = second_meant z a d
extend Illegal d = Illegal
