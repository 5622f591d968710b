-- Every action keeps the ranges of an accepted state.
use Prim.Native.Nat.{◌+◌, ◌*◌}
use mathlib.Core.Path.{◌≡◌}
use mathlib.Core.Bool.{true}
use native.Mathlib.Omega.{arith}
use lib.Dec.{eqb}
use Rattle.levels.proofs.Laws.{set-levels}
use Rattle.via.specs.Via.{accepted_via}
use Rattle.via.proofs.Accepted.{fresh-accepted, reset-accepted, raised-accepted}
use Rattle.via.proofs.AccessAccepted.{written-accepted, read-accepted, pulse-accepted}
use Rattle.clock_spec.specs.Phase.{shown_level}
use Rattle.machine_spec.specs.Wiring.{inputs_of}
use Rattle.disk_spec.specs.declared.Watched.{Watched}
use Rattle.disk_spec.specs.Drives.{accepted_drives}
use Rattle.disk_spec.proofs.DrivesLaws.{placed-accepted, drives_powered-accepted}
use Rattle.item_spec.specs.Items.{ItemInRange}
use Rattle.item_spec.specs.declared.Item.{Item}
use Rattle.item_spec.specs.declared.Item.TheVariants.{ReadVia, ReadIwm, WriteVia, WriteIwm, Blank, Second, Line, Sense, Reset, Power, Disk, Pulse}
use Rattle.machine_spec.specs.declared.Machine.{Machine}
use Rattle.machine_spec.specs.Machine.{Levels}
use Rattle.machine_spec.specs.Accesses.{via_read, iwm_read, keyboard_pulse}
use Rattle.machine_spec.specs.Action.{acted_of}

-- What an action leaves of the levels and of the VIA.
pub record Kept (m : Machine) : Type 0 where
  pub levels : Levels m
  pub via : accepted_via m.via ≡ true

pub act-keeps : (m : Machine) (i : Item) → ItemInRange i → Kept m → Kept (acted_of m i).machine
unfolding acted_of via_read iwm_read keyboard_pulse
act-keeps m (ReadVia w r) h k = record { levels = k.levels; via = read-accepted r (inputs_of (shown_level m.clock.phase) m.inputs) m.via k.via }
act-keeps m (ReadIwm w l) h k = record { levels = k.levels; via = k.via }
act-keeps m (WriteVia w r v) h k = record { levels = k.levels; via = written-accepted r v m.via k.via }
act-keeps m (WriteIwm w l v) h k = record { levels = k.levels; via = k.via }
act-keeps m (Blank w) h k = record { levels = k.levels; via = raised-accepted 2 m.via (omega arith) k.via }
act-keeps m (Second w) h k = record { levels = k.levels; via = raised-accepted 1 m.via (omega arith) k.via }
act-keeps m (Line w l v) h k = record { levels = (set-levels m.inputs l v k.levels.0 h.1, k.levels.1); via = k.via }
act-keeps m (Sense w d r v) h k =
    record { levels = (k.levels.0, set-levels m.sense (16 * d + r) v k.levels.1 h.2); via = k.via }
act-keeps m (Reset w) h k = record { levels = k.levels; via = reset-accepted m.via }
act-keeps m (Power w s) h k = record { levels = k.levels; via = fresh-accepted }
act-keeps m (Disk w d i l b) h k = record { levels = k.levels; via = k.via }
act-keeps m (Pulse w l) h k = record { levels = k.levels; via = pulse-accepted l m.via k.via }

-- And of the drives, with the levels before the item: the strobe looks at the levels afterwards.
pub act-keeps-drives : (m : Machine) (i : Item) (v : Watched) → accepted_drives v m.drives ≡ true → accepted_drives v (acted_of m i).machine.drives ≡ true
unfolding acted_of via_read iwm_read keyboard_pulse
act-keeps-drives m (ReadVia w r) v h = h
act-keeps-drives m (ReadIwm w k) v h = h
act-keeps-drives m (WriteVia w r x) v h = h
act-keeps-drives m (WriteIwm w k x) v h = h
act-keeps-drives m (Blank w) v h = h
act-keeps-drives m (Second w) v h = h
act-keeps-drives m (Line w l x) v h = h
act-keeps-drives m (Sense w d r x) v h = h
act-keeps-drives m (Reset w) v h = h
act-keeps-drives m (Power w s) v h = drives_powered-accepted v m.drives h
act-keeps-drives m (Disk w d i l b) v h = placed-accepted (eqb d 1) (eqb i 1) (eqb l 1) (eqb b 1) v m.drives h
act-keeps-drives m (Pulse w l) v h = h
