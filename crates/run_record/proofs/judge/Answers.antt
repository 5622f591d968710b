-- The turn of the bytes is that of the decoded item, as the state judges it.
use Rattle.std.proofs.Common.{Ok, Err, sym, ap, subst, ◌∙◌}
use Rattle.std.proofs.lemmas.Result.{err_from_is_err_and}
use Rattle.item_decode.specs.Values.{values_in}
use Rattle.run_record.specs.Judged.{turn_judged, JudgedInRange}
use Rattle.run_record.proofs.Turns.{turn_unless_with, decoded-turn, judged-range}
use Rattle.run_record.proofs.judge.Goals as goal

pub returns-in_err-item-clause-turn : goal.returns-in_err-item-clause-turn
unfolding turn_judged
returns-in_err-item-clause-turn c m e =
    let p = err_from_is_err_and c.from_residual.result c.from_residual.ensures.1 in
    rw (p.1, p.2) (decoded-turn m c.args.bytes.now c.requires (Err c.in_err-item.field-0.0) c.in_err-item.ensures)

pub returns-in-Some-clause-turn : goal.returns-in-Some-clause-turn
unfolding turn_judged
returns-in-Some-clause-turn c m e =
    let s = c.args.bytes.now in
    decoded-turn m s c.requires (Ok c.in_ok-item.item) c.in_ok-item.ensures ∙ ap (turn_unless_with m (values_in s) c.in_ok-item.item) (sym (c.in-Some.ensures m e))

pub returns-in-None-clause-turn : goal.returns-in-None-clause-turn
unfolding turn_judged
returns-in-None-clause-turn c m e =
    let s = c.args.bytes.now in
    decoded-turn m s c.requires (Ok c.in_ok-item.item) c.in_ok-item.ensures ∙ ap (turn_unless_with m (values_in s) c.in_ok-item.item) (sym (c.in-None.ensures m e))

pub returns-in-None-clause-judged_in_range : goal.returns-in-None-clause-judged_in_range
returns-in-None-clause-judged_in_range c =
    subst (JudgedInRange (values_in c.args.bytes.now)) (sym c.in_ok-item.ensures) (judged-range c.args.bytes.now c.requires)
