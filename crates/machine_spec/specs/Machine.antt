-- The machine's state by document 01 and request W-203: what an item leaves, its lines, the fresh machine, and which states are accepted.
use Rattle.std.specs.Prelude.{ℕ, ◌≡◌, Bool, true, ◌&&◌, List, [], ◌∷◌, replicate}
use Rattle.levels.specs.Levels.{all_levels}
use Rattle.via.specs.declared.Via.{Via}
use Rattle.via.specs.Via.{fresh_via, accepted_via}
use Rattle.clock_spec.specs.declared.Chip.{Chip}
use Rattle.clock_spec.specs.declared.Wires.{Wires}
use Rattle.clock.specs.declared.Clock.{Clock}
use Rattle.clock_spec.specs.Store.{unused_clear}
use Rattle.clock_spec.specs.Phase.{shown_level, accepted_phase}
use Rattle.clock.specs.Step.{fresh_clock}
use Rattle.machine_spec.specs.Pins.{wires_of, sel_of}
use Rattle.disk_spec.specs.Watched.{watched_of}
use Rattle.disk_lines.specs.declared.DiskLines.{DiskLines}
use Rattle.disk_lines.specs.Lines.{lines_off}
use Rattle.disk_spec.specs.declared.Watched.{Watched}
use Rattle.disk_spec.specs.declared.Drives.{Drives}
use Rattle.disk_spec.specs.Drives.{fresh_drives, accepted_drives}
use Rattle.machine_spec.specs.declared.Machine.{Machine}
use Rattle.machine_spec.specs.declared.Did.{Did}

-- ---- the state, field by field

abbrev pub with_via : Machine → Via → Machine
with_via m x = record { via = x; clock = m.clock; disk = m.disk; inputs = m.inputs; sense = m.sense; drives = m.drives }

abbrev pub with_clock : Machine → Clock → Machine
with_clock m x = record { via = m.via; clock = x; disk = m.disk; inputs = m.inputs; sense = m.sense; drives = m.drives }

abbrev pub with_disk : Machine → DiskLines → Machine
with_disk m x = record { via = m.via; clock = m.clock; disk = x; inputs = m.inputs; sense = m.sense; drives = m.drives }

abbrev pub with_inputs : Machine → List ℕ → Machine
with_inputs m x = record { via = m.via; clock = m.clock; disk = m.disk; inputs = x; sense = m.sense; drives = m.drives }

abbrev pub with_sense : Machine → List ℕ → Machine
with_sense m x = record { via = m.via; clock = m.clock; disk = m.disk; inputs = m.inputs; sense = x; drives = m.drives }

abbrev pub with_drives : Machine → Drives → Machine
with_drives m x = record { via = m.via; clock = m.clock; disk = m.disk; inputs = m.inputs; sense = m.sense; drives = x }

-- ---- what an item leaves

-- Of an item that reads nothing: "value read (0 unless RD)".
abbrev pub no_value : Machine → Did
no_value m = record { machine = m; value = 0 }

-- ---- the fresh machine

-- "Fresh: all zero, timers disarmed, no load due, IN lines and sense levels 1, chip idle, protect clear." W-205: IN lines 5 and 6 "both 0 when fresh".
abbrev pub fresh_machine : Chip → Machine
fresh_machine k =
    record {
      via = fresh_via;
      clock = fresh_clock k;
      disk = lines_off;
      inputs = 1 ∷ 1 ∷ 1 ∷ 1 ∷ 1 ∷ 0 ∷ 0 ∷ [];
      sense = replicate 32 1;
      drives = fresh_drives;
    }

-- ---- the lines

abbrev pub wires : Machine → Wires
wires m = wires_of m.via.ports (shown_level m.clock.phase)

-- The levels that the drives' strobe goes by.
abbrev pub strobe_levels : Machine → Watched
strobe_levels m = watched_of m.disk (sel_of m.via.ports)

-- ---- accepted states

-- "Every line level is 0 or 1." The disk lines are kept as a byte, whose every value is one of their states.
abbrev pub Levels : Machine → Type 0
Levels m = (all_levels m.inputs ≡ true) × (all_levels m.sense ≡ true)

-- "Every line level is 0 or 1, the chip is idle exactly while enable is 1, .. room not in use holds 0"; W-203: both drives and the strobe
-- within their ranges; W-206: the cells that the chip does not have hold 0.
unfoldable pub accepted_of : Machine → Bool
accepted_of m =
    (((all_levels m.inputs && all_levels m.sense) && accepted_via m.via)
    && (accepted_phase m.clock.store.chip m.clock.phase (wires m).enable && unused_clear m.clock.store))
    && accepted_drives (strobe_levels m) m.drives
