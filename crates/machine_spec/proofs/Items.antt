-- What single items promise their users.
use Prim.Native.Nat.{ℕ, ◌≤◌, ◌<◌, ◌%◌}
use mathlib.Core.Path.{◌≡◌, refl, ap}
use mathlib.Core.Bool.{Bool, true, false, true≢false}
use mathlib.Core.List.{List}
use native.Mathlib.Omega.{arith}
use lib.ListN.{get_or, set}
use lib.Seq.{get_or-set_other}
use Rattle.units.specs.declared.WaitTicks.{WaitTicks}
use Rattle.via.specs.declared.Inputs.{Inputs}
use Rattle.via.specs.Via.{ticks, raised_of}
use Rattle.via.specs.Registers.{register_read}
use Rattle.clock_spec.specs.Phase.{shown_level}
use Rattle.machine_spec.specs.Pins.{sel_of}
use Rattle.machine_spec.specs.Wiring.{inputs_of}
use Rattle.disk_lines.specs.Lines.{after_access, sense_at}
use Rattle.disk_spec.specs.Sense.{is_drive_sense, sense_shown}
use Rattle.disk_spec.specs.Drives.{drives_shown}
use Rattle.item_spec.specs.declared.Item.{Item}
use Rattle.item_spec.specs.declared.Item.TheVariants.{ReadVia, ReadIwm, WriteVia, WriteIwm, Blank, Second, Line, Sense, Reset, Power, Disk, Pulse}
use Rattle.machine_spec.specs.declared.Machine.{Machine}
use Rattle.machine_spec.specs.Machine.{with_inputs, with_sense}
use Rattle.machine_spec.specs.Accesses.{via_read, iwm_read}
use Rattle.machine_spec.specs.Action.{acted_of}
use Rattle.machine_spec.specs.Stages.{item_wait}
use Rattle.machine_spec.specs.Step.{step_of}

-- ---- the value

-- An RD, or a KC: W-210 gives its answer a value too.
abbrev pub reads : Item → Bool
reads (ReadVia w r) = true
reads (ReadIwm w k) = true
reads (WriteVia w r v) = false
reads (WriteIwm w k v) = false
reads (Blank w) = false
reads (Second w) = false
reads (Line w l v) = false
reads (Sense w d r v) = false
reads (Reset w) = false
reads (Power w s) = false
reads (Disk w d i l b) = false
reads (Pulse w l) = true

-- "value read (0 unless RD)", and unless KC shifts out.
pub unread : (m : Machine) (i : Item) → reads i ≡ false → (step_of m i).value ≡ 0
unfolding step_of acted_of
unread m (ReadVia w r) h = absurd (true≢false h)
unread m (ReadIwm w k) h = absurd (true≢false h)
unread m (WriteVia w r v) h = refl
unread m (WriteIwm w k v) h = refl
unread m (Blank w) h = refl
unread m (Second w) h = refl
unread m (Line w l v) h = refl
unread m (Sense w d r v) h = refl
unread m (Reset w) h = refl
unread m (Power w s) h = refl
unread m (Disk w d i l b) h = refl
unread m (Pulse w l) h = absurd (true≢false h)

-- ---- what a read sees

-- "PB3 to PB6 the IN lines 0 to 3 .., PA7 IN line 4": no VIA register shows IN line 5 or 6. Of the read itself, its wait having passed.
unseen : (line : Bool) (l : List ℕ) (k v : ℕ) → 5 ≤ k → inputs_of line (set l k v) ≡ inputs_of line l
unfolding inputs_of
unseen line l k v h = simp (other 0 (omega arith), other 1 (omega arith), other 2 (omega arith), other 3 (omega arith), other 4 (omega arith))
  where
    other : (j : ℕ) → j < k → get_or (set l k v) j 0 ≡ get_or l j 0
    other j p = get_or-set_other l k j v 0 (λ (q : j ≡ k). omega arith)

pub serial-unseen : (r k v : ℕ) (m : Machine) → 5 ≤ k → (via_read r (with_inputs m (set m.inputs k v))).value ≡ (via_read r m).value
unfolding via_read
serial-unseen r k v m h = ap (λ (x : Inputs). (register_read r x m.via).value) (unseen (shown_level m.clock.phase) m.inputs k v h)

-- W-203: "Sense registers 0 to 5, 12 and 15 .. now come from the drive": what SN set does not count. Of the read itself too.
pub drive-sensed : (k : ℕ) (m : Machine) (s : List ℕ) → is_drive_sense (sense_at (after_access k m.disk) (sel_of m.via.ports) % 16) ≡ true
    → (iwm_read k (with_sense m s)).value ≡ (iwm_read k m).value
unfolding iwm_read drives_shown sense_shown
drive-sensed k m s h = simp h

-- ---- flags

-- "VB sets flag 1, SE flag 0"; W-204: "SE still sets flag 0" while the test byte stops the seconds. `raised-bit`
-- (registers) says which flags that leaves set.
pub blank-flag : (m : Machine) (w : WaitTicks) → (step_of m (Blank w)).machine.via ≡ raised_of 2 (ticks w.0 m.via)
unfolding step_of acted_of item_wait
blank-flag m w = refl

pub second-flag : (m : Machine) (w : WaitTicks) → (step_of m (Second w)).machine.via ≡ raised_of 1 (ticks w.0 m.via)
unfolding step_of acted_of item_wait
second-flag m w = refl

-- ---- reset and power

-- RS: "IN and sense levels stay"; PW leaves them too; W-205: lines 5 and 6 are "kept over RS and PW".
pub reset-levels : (m : Machine) (w : WaitTicks) → ((step_of m (Reset w)).machine.inputs ≡ m.inputs) × ((step_of m (Reset w)).machine.sense ≡ m.sense)
unfolding step_of acted_of
reset-levels m w = (refl, refl)

pub power-levels : (m : Machine) (w : WaitTicks) (s : ℕ) → ((step_of m (Power w s)).machine.inputs ≡ m.inputs) × ((step_of m (Power w s)).machine.sense ≡ m.sense)
unfolding step_of acted_of
power-levels m w s = (refl, refl)
