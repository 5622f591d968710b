-- The parts of an image as values: what their types say of them, and that what was written is read again.
use Rattle.std.specs.Prelude.{ℕ, ◌<◌, ◌≡◌, List, [], ◌∷◌, ◌++◌, get_or, refl}
use Rattle.clock_spec.specs.declared.Chip.{Chip}
use Rattle.clock_spec.specs.declared.Chip.TheVariants.{First, Later}
use Rattle.clock_spec.specs.declared.Bytes.TheVariants.{Nothing, One, Two}
use Rattle.clock_spec.specs.declared.Phase.{Phase}
use Rattle.clock_spec.specs.declared.Phase.TheVariants.{Idle, Listening, Sending, Ignoring}
use Rattle.disk_lines.specs.declared.DiskLines.{DiskLines}
use Rattle.disk_spec.specs.declared.Drive.{Drive}
use Rattle.disk_spec.specs.declared.Strobe.{Strobe}
use Rattle.image_spec.specs.Layout.{bytes32, flag_byte, number32, flag_at, head_bytes, chip_of}
use Rattle.image_spec.specs.ClockLayout.{phase_bytes, second_byte, phase_by, phase_of}
use Rattle.image_spec.proofs.Numbers.{flag-back, back32}
use Rattle.image_layout.specs.declared.clock_layout.Registers.{Registers}

-- ---- what the types say

abbrev pub AnyChip : Chip → Type 0
AnyChip k = Unit {0}

abbrev pub AnyPhase : Phase → Type 0
AnyPhase p = Unit {0}

abbrev pub AnyBytes : List ℕ → Type 0
AnyBytes b = Unit {0}

abbrev pub LinesFit : DiskLines → Type 0
LinesFit d = d.lines < 256

abbrev pub DriveFits : Drive → Type 0
DriveFits d = d.pending < 65536

abbrev pub StrobeFits : Strobe → Type 0
StrobeFits s = s.ticks < 4294967296

abbrev pub RegistersFit : Registers → Type 0
RegistersFit r = r.seconds < 4294967296

-- ---- bytes as they are

abbrev pub any_bytes : List ℕ → List ℕ
any_bytes b = b

pub bytes_back : (b : List ℕ) → AnyBytes b → any_bytes (any_bytes b) ≡ b
bytes_back b t = refl

-- ---- the head

pub chip_back : (k : Chip) → AnyChip k → chip_of (head_bytes k) ≡ k
unfolding head_bytes
chip_back First t = refl
chip_back Later t = refl

-- ---- the half-made command: the four bytes of its place, and the second command byte

abbrev pub phase_layout : Phase → List ℕ
phase_layout p = phase_bytes p ++ (second_byte p ∷ [])

abbrev pub phase_read : List ℕ → Phase
phase_read b = phase_of b (get_or b 4 0)

pub phase_back : (p : Phase) → AnyPhase p → phase_read (phase_layout p) ≡ p
unfolding phase_by phase_bytes second_byte
phase_back Idle t = refl
phase_back (Listening Nothing n v) t = refl
phase_back (Listening (One c) n v) t = refl
phase_back (Listening (Two c d) n v) t = refl
phase_back (Sending y n) t = refl
phase_back Ignoring t = refl

-- ---- the registers

abbrev pub registers_layout : Registers → List ℕ
registers_layout r = flag_byte r.protect ∷ r.test ∷ bytes32 r.seconds

abbrev pub registers_read : List ℕ → Registers
registers_read b = record { protect = flag_at b 0; test = get_or b 1 0; seconds = number32 b 2 }

pub registers_back : (r : Registers) → RegistersFit r → registers_read (registers_layout r) ≡ r
registers_back r t = simp (back32 r.seconds t, flag-back)
