-- The drives' parts: as long as the layout says, and read back what was written.
use Prim.Native.Nat.{ℕ, ◌<◌}
use mathlib.Core.Path.{◌≡◌, refl}
use mathlib.Core.List.{List}
use lib.ListN.{length}
use Rattle.disk_spec.specs.declared.Drive.{Drive}
use Rattle.disk_spec.specs.declared.Strobe.{Strobe}
use Rattle.disk_spec.specs.declared.Drives.{Drives}
use Rattle.image_spec.specs.Layout.{drive_length, strobe_length}
use Rattle.image_spec.proofs.Numbers.{flag-back, back16, back32, width16, width32}
use Rattle.image_spec.specs.DriveLayout.{drive_bytes, drive_of, strobe_bytes, strobe_of, drives_of, DrivesTyped}

pub drive-long : (d : Drive) → length (drive_bytes d) ≡ drive_length
unfolding drive_bytes
drive-long d = refl

pub drive-back : (d : Drive) → d.pending < 65536 → drive_of (drive_bytes d) ≡ d
unfolding drive_bytes drive_of
drive-back d h = simp (back16 d.pending h, flag-back)

pub strobe-long : (s : Strobe) → length (strobe_bytes s) ≡ strobe_length
unfolding strobe_bytes
strobe-long s = refl

pub strobe-back : (s : Strobe) → s.ticks < 4294967296 → strobe_of (strobe_bytes s) ≡ s
unfolding strobe_bytes strobe_of
strobe-back s h = simp (back32 s.ticks h, flag-back)

pub drives-back : (d : Drives) → DrivesTyped d → drives_of (drive_bytes d.internal) (drive_bytes d.external) (strobe_bytes d.strobe) ≡ d
drives-back d t = simp (drive-back d.internal t.0, drive-back d.external t.1, strobe-back d.strobe t.2)

pub drives-typed : (a b c : List ℕ) → DrivesTyped (drives_of a b c)
unfolding drive_of strobe_of
drives-typed a b c = (width16 a 6, width16 b 6, width32 c 0)
