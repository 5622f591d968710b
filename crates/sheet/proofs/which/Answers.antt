use Rattle.std.proofs.Common.{None, Some, Ok, Err, sym, ap, ◌∙◌}
use Rattle.std.proofs.lemmas.Result.{err_from_is_err_and}
use Rattle.sheet_spec.proofs.Found.{place-source}
use Rattle.sheet.proofs.which.Goals as goal

pub returns-in_err-place : goal.returns-in_err-place
returns-in_err-place c =
    let p = err_from_is_err_and c.from_residual.result c.from_residual.ensures.1 in
    rw (p.1, p.2) (place-source c.args.bench.now c.args.house.now c.args.setting (Err c.in_err-place.field-0.0) c.in_err-place.ensures)

pub returns-in_default : goal.returns-in_default
returns-in_default c = place-source c.args.bench.now c.args.house.now c.args.setting (Ok None) (ap Ok (sym c.in_default.is) ∙ c.in_ok-place.ensures)

pub returns : goal.returns
returns c = place-source c.args.bench.now c.args.house.now c.args.setting (Ok (Some c.in-Some.place)) (ap Ok (sym c.in-Some.is) ∙ c.in_ok-place.ensures)
