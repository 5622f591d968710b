-- The drives' parts of an image: each drive and the strobe; their layout, and how they are read.
use Rattle.std.specs.Prelude.{ℕ, ◌<◌, Bool, ◌&&◌, List, [], ◌∷◌, ◌++◌, get_or}
use Rattle.disk_spec.specs.declared.Drive.{Drive}
use Rattle.disk_spec.specs.declared.Strobe.{Strobe}
use Rattle.disk_spec.specs.declared.Drives.{Drives}
use Rattle.image_spec.specs.Layout.{bytes16, bytes32, flag_byte, number16, number32, flag_at, same_bytes}

-- W-203: a drive's track, direction, disk, locked, double-sided, motor, VIA ticks left of a pending step, and that step's own direction.
abbrev pub drive_layout : Drive → List ℕ
drive_layout d =
    (d.track ∷ flag_byte d.direction ∷ flag_byte d.disk ∷ flag_byte d.locked ∷ flag_byte d.sides ∷ flag_byte d.motor ∷ [])
    ++ bytes16 d.pending
    ++ (flag_byte d.heading ∷ [])

-- The same, opened only where a proof asks for it.
unfoldable pub drive_bytes : Drive → List ℕ
drive_bytes d = drive_layout d

-- How they are read.
abbrev pub drive_fields : List ℕ → Drive
drive_fields b =
    record {
      track = get_or b 0 0;
      direction = flag_at b 1;
      disk = flag_at b 2;
      locked = flag_at b 3;
      sides = flag_at b 4;
      motor = flag_at b 5;
      pending = number16 b 6;
      heading = flag_at b 8;
    }

-- The same, opened only where a proof asks for it.
unfoldable pub drive_of : List ℕ → Drive
drive_of b = drive_fields b

-- The strobe's VIA ticks, and whether all held still.
abbrev pub strobe_layout : Strobe → List ℕ
strobe_layout s = bytes32 s.ticks ++ (flag_byte s.steady ∷ [])

-- The same, opened only where a proof asks for it.
unfoldable pub strobe_bytes : Strobe → List ℕ
strobe_bytes s = strobe_layout s

-- How they are read.
abbrev pub strobe_fields : List ℕ → Strobe
strobe_fields b = record { ticks = number32 b 0; steady = flag_at b 4 }

-- The same, opened only where a proof asks for it.
unfoldable pub strobe_of : List ℕ → Strobe
strobe_of b = strobe_fields b

-- The drives of their three parts.
abbrev pub drives_of : List ℕ → List ℕ → List ℕ → Drives
drives_of a b c = record { internal = drive_of a; external = drive_of b; strobe = strobe_of c }

-- Whether these are the very bytes of the drives that they stand for.
abbrev pub drive_exact : List ℕ → Bool
drive_exact b = same_bytes (drive_bytes (drive_of b)) b

abbrev pub strobe_exact : List ℕ → Bool
strobe_exact b = same_bytes (strobe_bytes (strobe_of b)) b

abbrev pub drives_exact : List ℕ → List ℕ → List ℕ → Bool
drives_exact a b c = drive_exact a && drive_exact b && strobe_exact c

-- What the struct's type says of its numbers.
abbrev pub DrivesTyped : Drives → Type 0
DrivesTyped d = (d.internal.pending < 65536) × (d.external.pending < 65536) × (d.strobe.ticks < 4294967296)
