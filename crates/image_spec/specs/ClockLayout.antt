-- The clock's parts of an image: the half-made command, the registers and the cells; their layout, and how they are read.
use Rattle.std.specs.Prelude.{ℕ, ◌+◌, ◌<◌, ◌≡◌, Bool, cond, ◌&&◌, List, [], ◌∷◌, ◌++◌, length, get_or, take, drop, replicate, eqb}
use Rattle.octets.specs.Octets.{put_at}
use Rattle.clock_spec.specs.Command.{cells_of}
use Rattle.clock_spec.specs.declared.Chip.{Chip}
use Rattle.clock_spec.specs.declared.Chip.TheVariants.{First}
use Rattle.clock_spec.specs.declared.Bytes.{Bytes}
use Rattle.clock_spec.specs.declared.Bytes.TheVariants.{Nothing, One, Two}
use Rattle.clock_spec.specs.declared.Phase.{Phase}
use Rattle.clock_spec.specs.declared.Phase.TheVariants.{Idle, Listening, Sending, Ignoring}
use Rattle.clock_spec.specs.declared.Store.{Store}
use Rattle.clock.specs.declared.Clock.{Clock}
use Rattle.image_spec.specs.Layout.{more_cells, tail_length, bytes32, flag_byte, number32, flag_at, same_bytes}

-- The half-made command: which phase, the first command byte, bits taken or falls, their value or the byte sent. "Room not in use holds 0."
unfoldable pub phase_bytes : Phase → List ℕ
phase_bytes Idle = 0 ∷ 0 ∷ 0 ∷ 0 ∷ []
phase_bytes (Listening Nothing n v) = 1 ∷ 0 ∷ n ∷ v ∷ []
phase_bytes (Listening (One c) n v) = 2 ∷ c ∷ n ∷ v ∷ []
phase_bytes (Listening (Two c d) n v) = 5 ∷ c ∷ n ∷ v ∷ []
phase_bytes (Sending y n) = 3 ∷ 0 ∷ n ∷ y ∷ []
phase_bytes Ignoring = 4 ∷ 0 ∷ 0 ∷ 0 ∷ []

-- Its second command byte.
abbrev pub second_in : Bytes → ℕ
second_in Nothing = 0
second_in (One c) = 0
second_in (Two c d) = d

unfoldable pub second_byte : Phase → ℕ
second_byte Idle = 0
second_byte (Listening bs n v) = second_in bs
second_byte (Sending y n) = 0
second_byte Ignoring = 0

-- By the phase's number, the command bytes, the count and the value.
unfoldable pub phase_by : ℕ → ℕ → ℕ → ℕ → ℕ → Phase
phase_by k c d n v =
    cond (eqb k 0) Idle
    (cond (eqb k 1) (Listening Nothing n v)
    (cond (eqb k 2) (Listening (One c) n v)
    (cond (eqb k 3) (Sending v n)
    (cond (eqb k 5) (Listening (Two c d) n v)
    Ignoring))))

abbrev pub phase_of : List ℕ → ℕ → Phase
phase_of b d = phase_by (get_or b 0 0) (get_or b 1 0) d (get_or b 2 0) (get_or b 3 0)

-- W-206: what an image of kind SX has more: the cells that the first chip does not have, and the second command byte.
abbrev pub tail_room : Phase → List ℕ → List ℕ
tail_room p cells = drop (cells_of First) cells ++ (second_byte p ∷ [])

-- So much of it as the kind has.
unfoldable pub tail_bytes : Chip → Phase → List ℕ → List ℕ
tail_bytes k p cells = take (tail_length k) (tail_room p cells)

-- The same as it is read: what an image does not have is 0.
unfoldable pub tail_of : List ℕ → List ℕ
tail_of t = put_at (replicate (more_cells + 1) 0) 0 t

-- Protect, test and seconds.
abbrev pub register_layout : Store → List ℕ
register_layout s = flag_byte s.protect ∷ s.test ∷ bytes32 s.seconds

-- The same, opened only where a proof asks for it.
unfoldable pub register_bytes : Store → List ℕ
register_bytes s = register_layout s

-- The registers as they are read, and the cells as they stand.
abbrev pub store_fields : Chip → List ℕ → List ℕ → Store
store_fields k b cells =
    record {
      chip = k;
      cells = cells;
      seconds = number32 b 2;
      protect = flag_at b 0;
      test = get_or b 1 0;
    }

-- The same, opened only where a proof asks for it.
unfoldable pub store_of : Chip → List ℕ → List ℕ → Store
store_of k b cells = store_fields k b cells

-- The cells that every chip has, and the others.
abbrev pub cells_read : List ℕ → List ℕ → List ℕ
cells_read first t = first ++ take more_cells (tail_of t)

-- The second command byte as it is read.
abbrev pub second_of : List ℕ → ℕ
second_of t = get_or (tail_of t) more_cells 0

-- The clock of its parts.
unfoldable pub clock_of : Chip → List ℕ → List ℕ → List ℕ → List ℕ → Clock
clock_of k p b first t = record { phase = phase_of p (second_of t); store = store_of k b (cells_read first t) }

-- Whether these are the very bytes of the clock that they stand for: of its half-made command, with the second command byte, and of its registers. Cells
-- stand as they are read, and the registers' bytes go by neither them nor the chip.
abbrev pub phase_exact : List ℕ → ℕ → Bool
phase_exact p d = same_bytes (phase_bytes (phase_of p d)) p && eqb (second_byte (phase_of p d)) d

abbrev pub registers_exact : List ℕ → Bool
registers_exact b = same_bytes (register_bytes (store_of First b [])) b

abbrev pub clock_exact : List ℕ → List ℕ → List ℕ → Bool
clock_exact p b t = phase_exact p (second_of t) && registers_exact b

-- What the struct's type says of its numbers and cells.
abbrev pub StoreTyped : Store → Type 0
StoreTyped s = (s.seconds < 4294967296) × (length s.cells ≡ 256)
