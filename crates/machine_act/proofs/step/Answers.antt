use Rattle.std.proofs.Common.{ℕ, ◌≡◌, ◌∙◌, refl, sym, ap}
use Rattle.item_spec.specs.declared.Item.{Item}
use Rattle.machine_spec.specs.declared.Machine.{Machine}
use Rattle.machine_spec.specs.declared.Did.{Did}
use Rattle.machine_spec.specs.Machine.{with_clock, strobe_levels}
use Rattle.machine_spec.specs.Action.{acted_of}
use Rattle.machine_act.specs.Idle.{idled_by}
use Rattle.machine_spec.specs.Stages.{item_wait, after_wait}
use Rattle.machine_spec.specs.Step.{step_of, after_items}
use Rattle.machine_write.specs.Values.{writes_of, step_with}
use Rattle.machine_write.proofs.Apart.{unwritten-step}
use Rattle.machine_act.proofs.Steps as steps
use Rattle.machine_act.proofs.step.Goals as goal

pub write-requires : goal.write-requires
write-requires g c =
    let m = c.args.machine.now in
    steps.phased m c.wait.new.machine c.args.item (c.wait.ensures ∙ ap (λ (n : ℕ). after_wait n m) c.wait_of.ensures) c.requires.phase

pub returns-in-WriteVia-clause-value : goal.returns-in-WriteVia-clause-value
returns-in-WriteVia-clause-value g c =
    let m = c.args.machine.now in
    let w = c.in-WriteVia in
    steps.written-value m w.wait w.register w.value c.args.values.now ∙ ap (λ (i : Item). (step_with m i c.args.values.now).value) (sym w.is)

pub returns-in-WriteVia-clause-machine_after : goal.returns-in-WriteVia-clause-machine_after
unfolding item_wait
returns-in-WriteVia-clause-machine_after g c =
    let m = c.args.machine.now in
    let w = c.in-WriteVia in
    let vs = c.args.values.now in
    let ticks : c.wait_of.result.0 ≡ w.wait.0 = c.wait_of.ensures ∙ ap item_wait w.is in
    c.write.ensures ∙ ap (λ (n : Machine). after_items n (writes_of w.register vs)) (c.wait.ensures ∙ ap (λ (n : ℕ). after_wait n m) ticks)
    ∙ steps.written m w.wait w.register w.value vs c.requires.some_values
    ∙ ap (λ (i : Item). (step_with m i vs).machine) (sym w.is)

pub act-value-requires : goal.act-value-requires
act-value-requires g c =
    let m = c.args.machine.now in
    let at = c.wait.ensures ∙ ap (λ (n : ℕ). after_wait n m) c.wait_of.ensures in
    record { in_range = c.requires.in_range; levels = steps.levelled m c.wait.new.machine c.args.item at c.requires.levels }

pub returns : goal.returns
returns g c =
    let m = c.args.machine.now in
    let i = c.args.item in
    let vs = c.args.values.now in
    let at = c.wait.ensures ∙ ap (λ (n : ℕ). after_wait n m) c.wait_of.ensures in
    let y = with_clock c.act-value.new.machine c.idle_where_undriven.new.clock in
    let a : y ≡ with_clock (acted_of c.wait.new.machine c.args.item).machine (idled_by c.args.item (acted_of c.wait.new.machine c.args.item).machine.clock) =
    ap (with_clock c.act-value.new.machine) c.idle_where_undriven.ensures ∙ ap (λ (n : Machine). with_clock n (idled_by c.args.item n.clock)) c.act-value.ensures.machine_after in
    let one : step_with m i vs ≡ step_of m i =
    unwritten-step m i vs (steps.kinds-unwritten i c.in_default.not-WriteVia) c.requires.phase c.requires.in_range c.requires.some_values in
    let done : record { machine = c.strobe.new.machine; value = c.act-value.result } ≡ step_with m i vs =
    steps.stepped m c.wait.new.machine i at c.requires.phase c.in_default.not-WriteVia (strobe_levels c.wait.new.machine) refl y a c.strobe.ensures c.act-value.ensures.value ∙ sym one in
    record { value = ap (λ (d : Did). d.value) done; machine_after = ap (λ (d : Did). d.machine) done }
