-- What an item's action leaves of the clock.
use Prim.Native.Nat.{ℕ}
use mathlib.Core.Path.{◌≡◌, refl, ap₂}
use mathlib.Core.Bool.{Bool}
use mathlib.Core.List.{List}
use lib.ListN.{drop}
use Rattle.levels.specs.Levels.{all_below}
use Rattle.clock_spec.specs.Command.{cells_of}
use Rattle.clock_spec.specs.Store.{unused_clear}
use Rattle.clock_spec.specs.Phase.{accepted_phase}
use Rattle.clock_spec.specs.declared.Chip.{Chip}
use Rattle.clock_spec.specs.declared.Phase.{Phase}
use Rattle.item_spec.specs.declared.Item.{Item}
use Rattle.item_spec.specs.declared.Item.TheVariants.{ReadVia, ReadIwm, WriteVia, WriteIwm, Blank, Second, Line, Sense, Reset, Power, Disk, Pulse}
use Rattle.machine_spec.specs.declared.Machine.{Machine}
use Rattle.machine_spec.specs.Accesses.{via_read, iwm_read, keyboard_pulse}
use Rattle.machine_spec.specs.Action.{acted_of}

-- An action moves no phase: the clock sees its wires afterwards.
pub acted-phase : (m : Machine) (i : Item) → (acted_of m i).machine.clock.phase ≡ m.clock.phase
unfolding acted_of via_read iwm_read keyboard_pulse
acted-phase m (ReadVia w r) = refl
acted-phase m (ReadIwm w k) = refl
acted-phase m (WriteVia w r v) = refl
acted-phase m (WriteIwm w k v) = refl
acted-phase m (Blank w) = refl
acted-phase m (Second w) = refl
acted-phase m (Line w l v) = refl
acted-phase m (Sense w d r v) = refl
acted-phase m (Reset w) = refl
acted-phase m (Power w s) = refl
acted-phase m (Disk w d i l b) = refl
acted-phase m (Pulse w l) = refl

-- No action changes which clock chip it is, nor the cells; "RS and PW keep all cells and the size" (W-206).
pub acted-cells : (m : Machine) (i : Item) → ((acted_of m i).machine.clock.store.chip ≡ m.clock.store.chip) × ((acted_of m i).machine.clock.store.cells ≡ m.clock.store.cells)
unfolding acted_of via_read iwm_read keyboard_pulse
acted-cells m (ReadVia w r) = (refl, refl)
acted-cells m (ReadIwm w k) = (refl, refl)
acted-cells m (WriteVia w r v) = (refl, refl)
acted-cells m (WriteIwm w k v) = (refl, refl)
acted-cells m (Blank w) = (refl, refl)
acted-cells m (Second w) = (refl, refl)
acted-cells m (Line w l v) = (refl, refl)
acted-cells m (Sense w d r v) = (refl, refl)
acted-cells m (Reset w) = (refl, refl)
acted-cells m (Power w s) = (refl, refl)
acted-cells m (Disk w d i l b) = (refl, refl)
acted-cells m (Pulse w l) = (refl, refl)

-- So the clock's phase goes with enable after it where it did before, and the cells not in use stay clear.
pub acted-accepted : (m : Machine) (i : Item) (e : Bool)
    → accepted_phase (acted_of m i).machine.clock.store.chip (acted_of m i).machine.clock.phase e ≡ accepted_phase m.clock.store.chip m.clock.phase e
acted-accepted m i e = ap₂ (λ (k : Chip) (p : Phase). accepted_phase k p e) (acted-cells m i).0 (acted-phase m i)

pub acted-unused : (m : Machine) (i : Item) → unused_clear (acted_of m i).machine.clock.store ≡ unused_clear m.clock.store
unfolding unused_clear
acted-unused m i = ap₂ (λ (k : Chip) (l : List ℕ). all_below 1 (drop (cells_of k) l)) (acted-cells m i).0 (acted-cells m i).1
