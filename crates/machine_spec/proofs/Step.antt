-- What the clock and the strobe meet after an item's action, and what they leave where no line has moved; which items move no line; the VIA's own level.
use Prim.Native.Nat.{ℕ, ◌<◌}
use native.Mathlib.Omega.{arith}
use mathlib.Core.Path.{◌≡◌, refl, ap, ap₂, ◌∙◌}
use mathlib.Core.Bool.{Bool, true, false, cond}
use mathlib.Core.List.{List, [], ◌∷◌}
use types.Run.{OneOf, miss}
use denote.Enum.Declared.{tag_of}
use Rattle.units.specs.declared.WaitTicks.{WaitTicks}
use Rattle.via.specs.declared.Ports.{Ports}
use Rattle.via.specs.declared.Via.{Via}
use Rattle.via.specs.Via.{raised_of, asking, level_of}
use Rattle.via.specs.Registers.{register_read}
use Rattle.via.proofs.AccessKept.{pulse-ports}
use Rattle.clock_spec.specs.declared.Wires.{Wires}
use Rattle.clock.specs.declared.Clock.{Clock}
use Rattle.clock_spec.specs.Phase.{accepted_phase, shown_level}
use Rattle.disk_spec.specs.Watched.{watched_of}
use Rattle.disk_spec.proofs.DrivesLaws.{drives_ticks-accepted}
use Rattle.item_spec.specs.declared.Item.{Item}
use Rattle.item_spec.specs.declared.Item.TheVariants.{ReadVia, ReadIwm, WriteVia, WriteIwm, Blank, Second, Line, Sense, Reset, Power, Disk, Pulse}
use Rattle.item_spec.specs.contracts.Item.{the_type}
use Rattle.machine_spec.specs.declared.Machine.{Machine}
use Rattle.machine_spec.specs.Pins.{wires_of, sel_of}
use Rattle.machine_spec.specs.Machine.{wires, strobe_levels, accepted_of}
use Rattle.machine_spec.proofs.MachineLaws.{parts}
use Rattle.machine_spec.specs.declared.Did.{Did}
use Rattle.machine_spec.specs.Accesses.{via_read, keyboard_pulse}
use Rattle.machine_spec.specs.Action.{acted_of}
use Rattle.machine_spec.proofs.Action.{acted-accepted}
use Rattle.machine_spec.proofs.ActionKeeps.{act-keeps-drives}
use Rattle.machine_spec.specs.Stages.{item_wait, after_wait}
use Rattle.machine_spec.proofs.Stages.{waited-wires, waited-watched, unmoved}
use Rattle.machine_spec.specs.Step.{step_of}

-- The clock meets the wires after an action in a phase that goes with the wires before the item.
pub met : (m m₁ : Machine) (i : Item) (d : Did) (w : Wires) → d ≡ acted_of m₁ i → m₁.clock ≡ m.clock → w ≡ wires m → accepted_of m ≡ true
    → accepted_phase d.machine.clock.store.chip d.machine.clock.phase w.enable ≡ true
met m m₁ i d w p q e a =
    ap (λ (x : Did). accepted_phase x.machine.clock.store.chip x.machine.clock.phase w.enable) p
    ∙ acted-accepted m₁ i w.enable
    ∙ ap₂ (λ (c : Clock) (x : Wires). accepted_phase c.store.chip c.phase x.enable) q e
    ∙ (parts m a).phase

-- An action that moves no line, whatever the machine.
abbrev pub Quiet : Item → Type 0
Quiet i = (m : Machine) → (wires (acted_of m i).machine ≡ wires m) × (strobe_levels (acted_of m i).machine ≡ strobe_levels m)

pub pulse-quiet : (w : WaitTicks) (level : ℕ) → Quiet (Pulse w level)
unfolding acted_of keyboard_pulse
pulse-quiet w level m =
    let e = pulse-ports level m.via in
    (ap (λ (p : Ports). wires_of p (shown_level m.clock.phase)) e, ap (λ (p : Ports). watched_of m.disk (sel_of p)) e)

abbrev quiet-kinds : List ℕ
quiet-kinds = 0 ∷ 4 ∷ 5 ∷ 6 ∷ 7 ∷ 10 ∷ 11 ∷ []

pub kinds-quiet : (i : Item) → OneOf quiet-kinds (tag_of the_type i) → Quiet i
unfolding acted_of via_read register_read raised_of
kinds-quiet (ReadVia w r) h m = (refl, refl)
kinds-quiet (ReadIwm w k) h m = absurd (miss quiet-kinds 1 tt h)
kinds-quiet (WriteVia w r v) h m = absurd (miss quiet-kinds 2 tt h)
kinds-quiet (WriteIwm w k v) h m = absurd (miss quiet-kinds 3 tt h)
kinds-quiet (Blank w) h m = (refl, refl)
kinds-quiet (Second w) h m = (refl, refl)
kinds-quiet (Line w l v) h m = (refl, refl)
kinds-quiet (Sense w d r v) h m = (refl, refl)
kinds-quiet (Reset w) h m = absurd (miss quiet-kinds 8 tt h)
kinds-quiet (Power w s) h m = absurd (miss quiet-kinds 9 tt h)
kinds-quiet (Disk w d i l b) h m = (refl, refl)
kinds-quiet (Pulse w l) h m = pulse-quiet w l m

-- An item whose action moves no line is its wait and its action.
pub quiet_step : (m : Machine) (i : Item) → accepted_of m ≡ true → Quiet i → step_of m i ≡ acted_of (after_wait (item_wait i) m) i
unfolding step_of
quiet_step m i a q =
    let n = item_wait i in
    let d = acted_of (after_wait n m) i in
    ap (λ (x : Machine). record { machine = x; value = d.value })
    (unmoved d.machine (wires m) (strobe_levels m) ((q (after_wait n m)).0 ∙ waited-wires n m) ((q (after_wait n m)).1 ∙ waited-watched n m)
    (met m (after_wait n m) i d (wires m) refl refl refl a)
    (act-keeps-drives (after_wait n m) i (strobe_levels m) (drives_ticks-accepted n (strobe_levels m) m.drives (parts m a).drives)))

-- The VIA's own level is 0 or 1.
pub via-level : (v : Via) → level_of v < 2
unfolding level_of
via-level v = go (asking v)
  where
    go : (t : Bool) → cond t 1 0 < 2
    go true = omega arith
    go false = omega arith
