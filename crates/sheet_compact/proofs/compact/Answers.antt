use Rattle.std.proofs.lemmas.Result.{err_from_is_err_and}
use Rattle.sheet_compact.proofs.Leaves.{one, six, done}
use Rattle.sheet_compact.proofs.compact.Goals as goal

pub returns-in_err-check-clause-value : goal.returns-in_err-check-clause-value
returns-in_err-check-clause-value c =
    let p = err_from_is_err_and c.from_residual.result c.from_residual.ensures.1 in
    rw (p.1, p.2, c.in_err-check.ensures.err.1) (one c.args.sheet.now c.args.out.now c.in_err-check.ensures.err.0).0

pub returns-in_err-check-clause-out_after : goal.returns-in_err-check-clause-out_after
returns-in_err-check-clause-out_after c = (one c.args.sheet.now c.args.out.now c.in_err-check.ensures.err.0).1

pub returns-then-out-size-clause-value : goal.returns-then-out-size-clause-value
returns-then-out-size-clause-value c = (six c.args.sheet.now c.args.out.now c.in_ok-check.ensures.ok c.measure-size.result c.measure-size.ensures c.if-out-size.true).0

pub returns-then-out-size-clause-out_after : goal.returns-then-out-size-clause-out_after
returns-then-out-size-clause-out_after c = (six c.args.sheet.now c.args.out.now c.in_ok-check.ensures.ok c.measure-size.result c.measure-size.ensures c.if-out-size.true).1

pub returns-clause-value : goal.returns-clause-value
returns-clause-value c = (done c.args.sheet.now c.args.out.now c.in_ok-check.ensures.ok c.measure-size.result c.measure-size.ensures c.if-out-size.false c.write.new.out c.write.ensures).0

pub returns-clause-out_after : goal.returns-clause-out_after
returns-clause-out_after c = (done c.args.sheet.now c.args.out.now c.in_ok-check.ensures.ok c.measure-size.result c.measure-size.ensures c.if-out-size.false c.write.new.out c.write.ensures).1
