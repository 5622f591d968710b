-- A record carried out leaves its turn's machine and answer; one refused leaves the machine.
use Rattle.std.proofs.Common.{List, ℕ, ◌≡◌, ◌∙◌, Ok, Result, refl, sym, ap}
use Rattle.std.proofs.lemmas.Result.{err_from_is_err_and}
use Rattle.refusal.specs.declared.Refusal.{Refusal}
use Rattle.item_spec.specs.declared.Shown.{Shown}
use Rattle.item_decode.specs.Values.{values_in}
use Rattle.machine_spec.specs.Machine.{accepted_of}
use Rattle.machine_spec.specs.Step.{answer_of}
use Rattle.machine_spec.proofs.MachineLaws.{parts}
use Rattle.machine_write.specs.Values.{step_with}
use Rattle.run_spec.specs.declared.Turn.{Turn}
use Rattle.run_spec.specs.Turn.{turn_of}
use Rattle.run_spec.proofs.Keeps.{turn-keeps}
use Rattle.run_record.specs.Judged.{turn_judged}
use Rattle.run_record.proofs.Turns.{values-are}
use Rattle.run_record.proofs.turn.Goals as goal

pub returns-in_err-item-clause-answer : goal.returns-in_err-item-clause-answer
unfolding turn_judged
returns-in_err-item-clause-answer g c =
    let p = err_from_is_err_and c.from_residual.result c.from_residual.ensures.1 in
    rw (p.1, p.2) (sym (ap (λ (t : Turn). t.answer) (c.in_err-item.ensures.turn c.args.machine.now refl)))

pub returns-in_err-item-clause-machine_after : goal.returns-in_err-item-clause-machine_after
unfolding turn_judged
returns-in_err-item-clause-machine_after g c = sym (ap (λ (t : Turn). t.machine) (c.in_err-item.ensures.turn c.args.machine.now refl))

pub step-value-requires-clause-levels : goal.step-value-requires-clause-levels
step-value-requires-clause-levels g c = (parts c.args.machine.now c.requires.accepted).levels

pub step-value-requires-clause-phase : goal.step-value-requires-clause-phase
step-value-requires-clause-phase g c = (parts c.args.machine.now c.requires.accepted).phase

pub answer-requires : goal.answer-requires
unfolding turn_judged
answer-requires g c =
    let m = c.args.machine.now in
    let s = c.args.bytes.now in
    let i = c.in_ok-item.item in
    let reached : c.step-value.new.machine ≡ (turn_of m s).machine =
    c.step-value.ensures.machine_after ∙ ap (λ (x : List ℕ). (step_with m i x).machine) (values-are s c.first_value.result c.first_value.ensures)
    ∙ sym (ap (λ (t : Turn). t.machine) (c.in_ok-item.ensures.turn m refl)) in
    (parts c.step-value.new.machine (ap accepted_of reached ∙ turn-keeps m s c.requires.accepted)).levels.0

pub returns-clause-answer : goal.returns-clause-answer
unfolding turn_judged
returns-clause-answer g c =
    let m = c.args.machine.now in
    let s = c.args.bytes.now in
    let i = c.in_ok-item.item in
    let did : record { machine = c.step-value.new.machine; value = c.step-value.result } ≡ step_with m i (values_in s) =
    simp (c.step-value.ensures.machine_after, c.step-value.ensures.value) (ap (step_with m i) (values-are s c.first_value.result c.first_value.ensures)) in
    let ok : Shown → Result Shown Refusal = λ x. Ok x in
    ap ok (c.answer.ensures.shown ∙ ap answer_of did) ∙ sym (ap (λ (t : Turn). t.answer) (c.in_ok-item.ensures.turn m refl))

pub returns-clause-machine_after : goal.returns-clause-machine_after
unfolding turn_judged
returns-clause-machine_after g c =
    let m = c.args.machine.now in
    let s = c.args.bytes.now in
    c.step-value.ensures.machine_after ∙ ap (λ (x : List ℕ). (step_with m c.in_ok-item.item x).machine) (values-are s c.first_value.result c.first_value.ensures)
    ∙ sym (ap (λ (t : Turn). t.machine) (c.in_ok-item.ensures.turn m refl))
