use Rattle.std.proofs.Common.{None, Some, Ok, Err, refl, sym, ap, ◌∙◌}
use Rattle.std.proofs.lemmas.Result.{err_from_is_err_and}
use Rattle.sheet_spec.specs.Lookup.{place_by}
use Rattle.sheet_spec.proofs.Found.{place-from}
use Rattle.sheet.proofs.place.Goals as goal

pub returns-in_err-in_bench : goal.returns-in_err-in_bench
unfolding place_by
returns-in_err-in_bench c =
    let p = err_from_is_err_and c.from_residual.result c.from_residual.ensures.1 in
    rw (p.1, p.2) (place-from c.args.bench.now c.args.house.now c.args.setting (Err c.in_err-in_bench.field-0.0) _ c.in_err-in_bench.ensures refl)

pub returns-in_err-in_house : goal.returns-in_err-in_house
unfolding place_by
returns-in_err-in_house c =
    let p = err_from_is_err_and c.from_residual-in_err-in_house.result c.from_residual-in_err-in_house.ensures.1 in
    rw (p.1, p.2) (place-from c.args.bench.now c.args.house.now c.args.setting (Ok c.in_ok-in_bench.in_bench) (Err c.in_err-in_house.field-0.0) c.in_ok-in_bench.ensures c.in_err-in_house.ensures)

pub returns-in-Some-default : goal.returns-in-Some-default
unfolding place_by
returns-in-Some-default c =
    place-from c.args.bench.now c.args.house.now c.args.setting (Ok (Some c.in-Some-default.field-0-0)) (Ok c.in_ok-in_house.in_house) (ap Ok (sym c.in-Some-default.is-0) ∙ c.in_ok-in_bench.ensures) c.in_ok-in_house.ensures

pub returns-in-None-Some : goal.returns-in-None-Some
unfolding place_by
returns-in-None-Some c =
    place-from c.args.bench.now c.args.house.now c.args.setting (Ok None) (Ok (Some c.in-None-Some.field-0-1)) (ap Ok (sym c.in-None-Some.is-0) ∙ c.in_ok-in_bench.ensures) (ap Ok (sym c.in-None-Some.is-1) ∙ c.in_ok-in_house.ensures)

pub returns-in-None-None : goal.returns-in-None-None
unfolding place_by
returns-in-None-None c =
    place-from c.args.bench.now c.args.house.now c.args.setting (Ok None) (Ok None) (ap Ok (sym c.in-None-None.is-0) ∙ c.in_ok-in_bench.ensures) (ap Ok (sym c.in-None-None.is-1) ∙ c.in_ok-in_house.ensures)
