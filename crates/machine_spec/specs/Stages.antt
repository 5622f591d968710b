-- What stands around an item's action, by document 01: "only then does its wait pass, and only then its action"; then the clock compares its wires, and by
-- request W-203 the drives' strobe its levels. And the refusals that look at the state.
use Rattle.std.specs.Prelude.{ℕ, cond, eqb, Option, Some, None}
use Rattle.via.specs.Via.{ticks}
use Rattle.clock_spec.specs.declared.Wires.{Wires}
use Rattle.clock.specs.Step.{step_wires}
use Rattle.disk_spec.specs.declared.Watched.{Watched}
use Rattle.disk_spec.specs.Drives.{drives_ticks, place_refused, drives_after}
use Rattle.refusal.specs.declared.Refusal.{Refusal}
use Rattle.refusal.specs.declared.Refusal.TheVariants.{DiskMismatch}
use Rattle.item_spec.specs.declared.Item.{Item}
use Rattle.item_spec.specs.declared.Item.TheVariants.{ReadVia, ReadIwm, WriteVia, WriteIwm, Blank, Second, Line, Sense, Reset, Power, Disk, Pulse}
use Rattle.machine_spec.specs.declared.Machine.{Machine}
use Rattle.machine_spec.specs.Machine.{with_via, with_clock, with_drives, wires, strobe_levels}

-- A refusal that looks at the state, as it stands before the wait, if there is one. Document 01's numbers look at the bytes alone.
-- W-203: "Inserting where a disk is, or removing where none is, gets refusal 8".
unfoldable pub refuses_of : Machine → Item → Option Refusal
refuses_of m (ReadVia w r) = None
refuses_of m (ReadIwm w k) = None
refuses_of m (WriteVia w r v) = None
refuses_of m (WriteIwm w k v) = None
refuses_of m (Blank w) = None
refuses_of m (Second w) = None
refuses_of m (Line w l v) = None
refuses_of m (Sense w d r v) = None
refuses_of m (Reset w) = None
refuses_of m (Power w s) = None
refuses_of m (Disk w d i l b) = cond (place_refused (eqb d 1) (eqb i 1) m.drives) (Some DiskMismatch) None
refuses_of m (Pulse w l) = None

-- "Every item's body begins with a wait in VIA ticks": their number.
unfoldable pub item_wait : Item → ℕ
item_wait (ReadVia w r) = w.0
item_wait (ReadIwm w k) = w.0
item_wait (WriteVia w r v) = w.0
item_wait (WriteIwm w k v) = w.0
item_wait (Blank w) = w.0
item_wait (Second w) = w.0
item_wait (Line w l v) = w.0
item_wait (Sense w d r v) = w.0
item_wait (Reset w) = w.0
item_wait (Power w s) = w.0
item_wait (Disk w d i l b) = w.0
item_wait (Pulse w l) = w.0

-- The item's wait passes, in the VIA and in the drives.
abbrev pub after_wait : ℕ → Machine → Machine
after_wait n m = with_drives (with_via m (ticks n m.via)) (drives_ticks n m.drives)

-- "Compare the levels of enable, data-clock and data before and after each item."
abbrev pub after_wires : Wires → Machine → Machine
after_wires w m = with_clock m (step_wires m.clock w (wires m))

-- W-203: the drives see the levels before the item and after it; "a write acts when LSTRB drops".
abbrev pub after_strobe : Watched → Machine → Machine
after_strobe w m = with_drives m (drives_after w (strobe_levels m) m.drives)
