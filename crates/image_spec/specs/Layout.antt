-- The layout of a state's image: request W-201, "one record of kind ST, its layout written in docs/"; W-206: or of kind SX.
use Rattle.std.specs.Prelude.{ℕ, ◌+◌, ◌-◌, ◌*◌, ◌/◌, ◌%◌, Bool, true, false, cond, ◌&&◌, List, [], ◌∷◌, ◌++◌, get_or, take, drop, eqb}
use mir.Val.{bool_byte}
use Rattle.clock_spec.specs.Command.{cells_of}
use Rattle.clock_spec.specs.declared.Chip.{Chip}
use Rattle.clock_spec.specs.declared.Chip.TheVariants.{First, Later}

-- ---- the length of each part

-- "a length (2 bytes, counting what follows it), a kind (2 bytes)"
abbrev pub head_length : ℕ
head_length = 4

abbrev pub via_length : ℕ
via_length = 20

abbrev pub phase_length : ℕ
phase_length = 4

-- protect, test and seconds
abbrev pub registers_length : ℕ
registers_length = 6

-- the cells that every chip has
abbrev pub cells_length : ℕ
cells_length = cells_of First

abbrev pub lines_length : ℕ
lines_length = 8

abbrev pub inputs_length : ℕ
inputs_length = 7

abbrev pub sense_length : ℕ
sense_length = 32

abbrev pub drive_length : ℕ
drive_length = 9

abbrev pub strobe_length : ℕ
strobe_length = 5

-- ---- where each part begins, and the length of the whole

abbrev pub via_at : ℕ
via_at = head_length

abbrev pub phase_at : ℕ
phase_at = via_at + via_length

abbrev pub registers_at : ℕ
registers_at = phase_at + phase_length

abbrev pub cells_at : ℕ
cells_at = registers_at + registers_length

abbrev pub lines_at : ℕ
lines_at = cells_at + cells_length

abbrev pub inputs_at : ℕ
inputs_at = lines_at + lines_length

abbrev pub sense_at : ℕ
sense_at = inputs_at + inputs_length

abbrev pub internal_at : ℕ
internal_at = sense_at + sense_length

abbrev pub external_at : ℕ
external_at = internal_at + drive_length

abbrev pub strobe_at : ℕ
strobe_at = external_at + drive_length

-- W-206: after what both kinds have, an image of kind SX has the later chip's other cells and a second command byte.
abbrev pub tail_at : ℕ
tail_at = strobe_at + strobe_length

abbrev pub more_cells : ℕ
more_cells = cells_of Later - cells_of First

abbrev pub tail_length : Chip → ℕ
tail_length First = 0
tail_length Later = more_cells + 1

abbrev pub image_length : Chip → ℕ
image_length k = tail_at + tail_length k

-- The n bytes from `at` on.
abbrev pub part : ℕ → ℕ → List ℕ → List ℕ
part at n s = take n (drop at s)

-- ---- numbers and flags in bytes

-- "Numbers are little-endian": two bytes of a number, and four.
abbrev pub bytes16 : ℕ → List ℕ
bytes16 n = n % 256 ∷ n / 256 % 256 ∷ []

abbrev pub bytes32 : ℕ → List ℕ
bytes32 n = n % 256 ∷ n / 256 % 256 ∷ n / 65536 % 256 ∷ n / 16777216 % 256 ∷ []

-- A flag is 0 or 1.
abbrev pub flag_byte : Bool → ℕ
flag_byte b = bool_byte b

-- The byte at i; what stands in an image is below 256.
abbrev pub byte_at : List ℕ → ℕ → ℕ
byte_at s i = get_or s i 0 % 256

abbrev pub number16 : List ℕ → ℕ → ℕ
number16 s i = byte_at s i + byte_at s (i + 1) * 256

abbrev pub number32 : List ℕ → ℕ → ℕ
number32 s i = byte_at s i + byte_at s (i + 1) * 256 + byte_at s (i + 2) * 65536 + byte_at s (i + 3) * 16777216

abbrev pub flag_at : List ℕ → ℕ → Bool
flag_at s i = eqb (get_or s i 0) 1

-- ---- the head

-- "Its images are of kind SX, those with 20 cells of kind ST": the kind's second letter, T 84 or X 88.
abbrev pub kind_letter : Chip → ℕ
kind_letter First = 84
kind_letter Later = 88

-- S is 83.
abbrev pub kind_bytes : Chip → List ℕ
kind_bytes k = 83 ∷ kind_letter k ∷ []

-- "A record is a length (2 bytes, counting what follows it), a kind (2 bytes), a body."
unfoldable pub head_bytes : Chip → List ℕ
head_bytes k = bytes16 (image_length k - 2) ++ kind_bytes k

-- The chip by an image's kind.
abbrev pub chip_of : List ℕ → Chip
chip_of s = cond (eqb (get_or s 3 0) (kind_letter Later)) Later First

-- ---- the same bytes

unfoldable pub same_bytes : List ℕ → List ℕ → Bool
same_bytes [] [] = true
same_bytes [] (y ∷ ys) = false
same_bytes (x ∷ xs) [] = false
same_bytes (x ∷ xs) (y ∷ ys) = eqb x y && same_bytes xs ys

-- Whether these are the very bytes of the chip's head.
abbrev pub head_exact : Chip → List ℕ → Bool
head_exact k b = same_bytes (head_bytes k) b
