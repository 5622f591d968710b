use Rattle.std.proofs.Common.{refl, ap, ◌∙◌}
use Rattle.std.proofs.lemmas.Result.{err_from_is_err_and}
use Rattle.sheet_spec.specs.Records.{is_broken}
use Rattle.sheet_record.proofs.Given.{given-row, given-broken}
use Rattle.sheet_compact.proofs.check.Goals as goal

pub loop-record-init : goal.loop-record-init
loop-record-init c = record {
  can = tt;
  finite = tt;
  whole = rw (c.into_iter-record-iterator.ensures.into_iter_gives, c.new-record-items.ensures.sheet, c.new-record-items.ensures.front) refl;
}

pub returns-in_err-record-clause-err : goal.returns-in_err-record-clause-err
unfolding is_broken
returns-in_err-record-clause-err c =
    let p = err_from_is_err_and c.from_residual.result c.from_residual.ensures.1 in
    let g = given-broken c.loop-record.record-iterator c.next.new.self c.in-Some.record c.in_err-record.field-0.0 c.in_err-record.was c.in-Some.ensures.steps in
    rw (p.1, p.2) (c.loop-record.invariant.whole ∙ ap is_broken g.0, g.2)

pub loop-record-preserved : goal.loop-record-preserved
unfolding is_broken
loop-record-preserved c =
    let g = given-row c.loop-record.record-iterator c.next.new.self c.in-Some.record c.in_ok-record.field-0 c.in_ok-record.was c.in-Some.ensures.steps in
    record { can = tt; finite = tt; whole = c.loop-record.invariant.whole ∙ ap is_broken g.0 }

pub returns-clause-ok : goal.returns-clause-ok
unfolding is_broken
returns-clause-ok c = c.loop-record.invariant.whole ∙ ap is_broken c.in-None.ensures.steps.0
