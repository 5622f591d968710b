-- What the looks of the clock and the strobe leave of any machine whose phase is accepted: the phase stays so, and a second look of the strobe changes nothing.
use mathlib.Core.Path.{◌≡◌, refl, sym, ap, ◌∙◌}
use mathlib.Core.Bool.{Bool, true, false, ◌&&◌, beq, false≢true}
use Rattle.levels.proofs.Laws.{both}
use Rattle.clock_spec.specs.Phase.{accepted_phase, shown_level}
use Rattle.clock.specs.Step.{step_wires}
use Rattle.clock.proofs.Keep.{keeps-step}
use Rattle.disk_spec.specs.declared.Drives.{Drives}
use Rattle.disk_spec.specs.declared.Strobe.{Strobe}
use Rattle.disk_spec.specs.declared.Watched.{Watched}
use Rattle.disk_spec.specs.Watched.{held_still, unspoilt}
use Rattle.disk_spec.specs.Strobe.{no_strobe, after_by, strobe_after}
use Rattle.disk_spec.specs.Drives.{with_strobe, drives_written, drives_after}
use Rattle.disk_spec.proofs.Pulses.{level-writes-nothing}
use Rattle.item_spec.specs.declared.Item.{Item}
use Rattle.machine_spec.specs.declared.Machine.{Machine}
use Rattle.machine_spec.specs.Machine.{wires}
use Rattle.machine_spec.specs.Pins.{wires_of}
use Rattle.machine_spec.specs.Action.{acted_of}
use Rattle.machine_spec.proofs.Action.{acted-accepted}
use Rattle.machine_spec.specs.Stages.{item_wait, after_wait}
use Rattle.machine_spec.specs.Step.{step_of}
use Rattle.machine_write.specs.Values.{PhaseAccepted}

-- ---- the phase

-- Enable does not hang on what the chip shows.
enable-same : (m : Machine) (a b : Bool) → (wires_of m.via.ports a).enable ≡ (wires_of m.via.ports b).enable
unfolding wires_of
enable-same m a b = refl

-- Every item keeps the phase accepted, whatever else the machine holds.
pub phase-keeps : (m : Machine) (i : Item) → PhaseAccepted m → PhaseAccepted (step_of m i).machine
unfolding step_of
phase-keeps m i h =
    let w = after_wait (item_wait i) m in
    let d = (acted_of w i).machine in
    let n = step_wires d.clock (wires m) (wires d) in
    ap (accepted_phase n.store.chip n.phase) (enable-same d (shown_level n.phase) (shown_level d.clock.phase))
    ∙ keeps-step d.clock (wires m) (wires d) (acted-accepted w i (wires m).enable ∙ h)

-- ---- the strobe

-- With LSTRB off before and after, no strobe is left of any.
pub dark : (before after : Watched) (d : Drives) → before.lstrb ≡ false → after.lstrb ≡ false → drives_after before after d ≡ with_strobe d no_strobe
unfolding drives_after strobe_after
dark before after d p q =
    ap (λ (b : Bool). with_strobe (drives_written b after d) (strobe_after before after d.strobe)) (level-writes-nothing before after d.strobe (p ∙ sym q))
    ∙ ap (λ (on : Bool). with_strobe d (after_by on before.lstrb (unspoilt before after) after.enable d.strobe)) q

same : (a : Bool) → beq a a ≡ true
same true = refl
same false = refl

and-true : (a : Bool) → (a && true) ≡ a
and-true true = refl
and-true false = refl

-- Levels that stay spoil a strobe only where ENABLE is off.
stays : (w : Watched) → unspoilt w w ≡ w.enable
unfolding unspoilt held_still
stays w = simp (same w.ca0, same w.ca1, same w.ca2, same w.sel, same w.select, and-true w.enable)

again : (on was fine enable : Bool) (s : Strobe) → (fine ≡ true → enable ≡ true) → after_by on on enable enable (after_by on was fine enable s) ≡ after_by on was fine enable s
again false was fine enable s h = refl
again true false fine true s h = refl
again true false fine false s h = refl
again true true true true s h = refl
again true true true false s h = absurd (false≢true (h refl))
again true true false true s h = refl
again true true false false s h = refl

enabled : (v w : Watched) → unspoilt v w ≡ true → w.enable ≡ true
unfolding unspoilt
enabled v w h = (both w.enable (held_still v w) h).0

-- A look at levels that stay changes nothing after a look at them.
pub settled : (before after : Watched) (d : Drives) → drives_after after after (drives_after before after d) ≡ drives_after before after d
unfolding drives_after strobe_after
settled v w d =
    let n = drives_after v w d in
    ap (λ (b : Bool). with_strobe (drives_written b w n) (strobe_after w w n.strobe)) (level-writes-nothing w w n.strobe refl)
    ∙ ap (λ (fine : Bool). with_strobe n (after_by w.lstrb w.lstrb fine w.enable n.strobe)) (stays w)
    ∙ ap (with_strobe n) (again w.lstrb v.lstrb (unspoilt v w) w.enable d.strobe (enabled v w))

-- So a look at them before a look changes nothing either.
pub looked-still : (v w : Watched) (d : Drives) → v ≡ w → drives_after w w (drives_after v v d) ≡ drives_after w w d
looked-still v w d e = ap (λ (x : Watched). drives_after w w (drives_after x x d)) e ∙ settled w w d

pub looked-dark : (v w : Watched) (d : Drives) → v.lstrb ≡ false → w.lstrb ≡ false → drives_after w w (drives_after v v d) ≡ drives_after w w d
looked-dark v w d p q = ap (drives_after w w) (dark v v d p p) ∙ dark w w (with_strobe d no_strobe) q q ∙ sym (dark w w d q q)
