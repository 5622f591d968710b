-- Every item keeps an accepted state accepted.
use mathlib.Core.Path.{◌≡◌, refl, ap, ◌∙◌}
use mathlib.Core.Bool.{Bool, true}
use Rattle.via.proofs.Accepted.{ticks-accepted}
use Rattle.clock_spec.specs.Phase.{accepted_phase, shown_level}
use Rattle.clock.specs.Step.{step_wires}
use Rattle.clock.proofs.Keep.{keeps-step, step-chip, step-unused}
use Rattle.machine_spec.specs.Pins.{wires_of}
use Rattle.disk_spec.proofs.DrivesLaws.{drives_ticks-accepted, drives_after-accepted}
use Rattle.item_spec.specs.Items.{ItemInRange}
use Rattle.item_spec.specs.declared.Item.{Item}
use Rattle.machine_spec.specs.declared.Machine.{Machine}
use Rattle.machine_spec.specs.Machine.{wires, strobe_levels, accepted_of}
use Rattle.machine_spec.proofs.MachineLaws.{parts, whole}
use Rattle.machine_spec.specs.Action.{acted_of}
use Rattle.machine_spec.proofs.Action.{acted-cells, acted-accepted, acted-unused}
use Rattle.machine_spec.proofs.ActionKeeps.{act-keeps, act-keeps-drives}
use Rattle.machine_spec.specs.Stages.{item_wait, after_wait}
use Rattle.machine_spec.specs.Step.{step_of}

-- Enable does not hang on what the chip shows.
enable-same : (m : Machine) (a b : Bool) → (wires_of m.via.ports a).enable ≡ (wires_of m.via.ports b).enable
unfolding wires_of
enable-same m a b = refl

pub step_keeps : (m : Machine) (i : Item) → ItemInRange i → accepted_of m ≡ true → accepted_of (step_of m i).machine ≡ true
unfolding step_of
step_keeps m i h a =
    let p = parts m a in
    let w = after_wait (item_wait i) m in
    let k = act-keeps w i h (record { levels = p.levels; via = ticks-accepted (item_wait i) m.via p.via }) in
    let d = (acted_of w i).machine in
    let n = step_wires d.clock (wires m) (wires d) in
    whole (step_of m i).machine
    (record {
      levels = k.levels;
      via = k.via;
      phase = ap (accepted_phase n.store.chip n.phase) (enable-same d (shown_level n.phase) (shown_level d.clock.phase))
          ∙ keeps-step d.clock (wires m) (wires d) (acted-accepted w i (wires m).enable ∙ p.phase);
      unused = step-unused d.clock (wires m) (wires d) ∙ acted-unused w i ∙ p.unused;
      drives = drives_after-accepted (strobe_levels m) (strobe_levels d) d.drives
          (act-keeps-drives w i (strobe_levels m) (drives_ticks-accepted (item_wait i) (strobe_levels m) m.drives p.drives));
    })

-- W-206: the chip is "chosen at the start".
pub size-kept : (m : Machine) (i : Item) → (step_of m i).machine.clock.store.chip ≡ m.clock.store.chip
unfolding step_of
size-kept m i =
    let w = after_wait (item_wait i) m in
    step-chip (acted_of w i).machine.clock (wires m) (wires (acted_of w i).machine) ∙ (acted-cells w i).0
