-- The image of a state: request W-201, "one record of kind ST, its layout written in docs/, one image for each accepted state"; W-206: of kind SX for
-- the later chip.
use Rattle.std.specs.Prelude.{ℕ, ◌<◌, ◌≡◌, Bool, false, cond, ◌&&◌, List, ◌++◌, length, take, eqb, ltb}
use Rattle.image_spec.specs.Layout.{head_length, via_length, phase_length, registers_length, cells_length, lines_length, inputs_length, sense_length, drive_length, strobe_length}
use Rattle.image_spec.specs.Layout.{via_at, phase_at, registers_at, cells_at, lines_at, inputs_at, sense_at, internal_at, external_at, strobe_at, tail_at, tail_length, part, head_bytes, head_exact, chip_of, same_bytes}
pub use Rattle.image_spec.specs.Layout.{image_length}
use Rattle.image_spec.specs.ViaLayout.{via_bytes, via_of, via_exact, ViaTyped}
use Rattle.image_spec.specs.ClockLayout.{phase_bytes, register_bytes, tail_bytes, clock_of, clock_exact}
use Rattle.image_spec.specs.DriveLayout.{drive_bytes, strobe_bytes, drives_of, drives_exact, DrivesTyped}
use Rattle.disk_lines.specs.Lines.{line_levels, lines_of}
use Rattle.machine_spec.specs.declared.Machine.{Machine}
use Rattle.machine_spec.specs.Machine.{accepted_of}

-- The parts in their order.
unfoldable pub image_of : Machine → List ℕ
image_of m =
    head_bytes m.clock.store.chip
    ++ via_bytes m.via
    ++ phase_bytes m.clock.phase
    ++ register_bytes m.clock.store
    ++ take cells_length m.clock.store.cells
    ++ line_levels m.disk
    ++ m.inputs
    ++ m.sense
    ++ drive_bytes m.drives.internal
    ++ drive_bytes m.drives.external
    ++ strobe_bytes m.drives.strobe
    ++ tail_bytes m.clock.store.chip m.clock.phase m.clock.store.cells

-- The state of an image.
unfoldable pub machine_of : List ℕ → Machine
machine_of s =
    record {
      via = via_of (part via_at via_length s);
      clock = clock_of (chip_of s) (part phase_at phase_length s) (part registers_at registers_length s) (part cells_at cells_length s) (part tail_at (tail_length (chip_of s)) s);
      disk = lines_of (part lines_at lines_length s);
      inputs = part inputs_at inputs_length s;
      sense = part sense_at sense_length s;
      drives = drives_of (part internal_at drive_length s) (part external_at drive_length s) (part strobe_at strobe_length s);
    }

-- Whether these are the very bytes of the disk lines that they stand for.
abbrev pub lines_exact : List ℕ → Bool
lines_exact b = same_bytes (line_levels (lines_of b)) b

-- The same of every part of an image that need not be so: the cells, the IN lines and the sense levels stand as they are read.
abbrev pub parts_exact : List ℕ → Bool
parts_exact s =
    head_exact (chip_of s) (part 0 head_length s)
    && via_exact (part via_at via_length s)
    && clock_exact (part phase_at phase_length s) (part registers_at registers_length s) (part tail_at (tail_length (chip_of s)) s)
    && lines_exact (part lines_at lines_length s)
    && drives_exact (part internal_at drive_length s) (part external_at drive_length s) (part strobe_at strobe_length s)

-- The length of its kind, and the very bytes of the state that it stands for.
unfoldable pub exact_image : List ℕ → Bool
exact_image s =
    cond (ltb (length s) tail_at) false
    (cond (eqb (length s) (image_length (chip_of s))) (same_bytes (image_of (machine_of s)) s) false)

-- "An image that no accepted state has gets refusal 7": such bytes, and their state accepted.
unfoldable pub valid_image : List ℕ → Bool
valid_image s = exact_image s && accepted_of (machine_of s)

-- What the struct's type says of a machine's arrays and numbers, so far as an image rests on it.
pub record Typed (m : Machine) : Type 0 where
  pub via : ViaTyped m.via
  pub seconds : m.clock.store.seconds < 4294967296
  pub cells : length m.clock.store.cells ≡ 256
  pub lines : m.disk.lines < 256
  pub inputs : length m.inputs ≡ inputs_length
  pub sense : length m.sense ≡ sense_length
  pub drives : DrivesTyped m.drives
