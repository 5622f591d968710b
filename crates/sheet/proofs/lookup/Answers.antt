use Rattle.std.proofs.Common.{None, Ok, Err, refl, sym, ap, ◌∙◌, rules}
use Rattle.sheet_spec.specs.declared.Source.TheVariants.{Bench, House}
use Rattle.sheet_spec.proofs.Found.{place-part, place-unset, place-refused}
use Rattle.sheet.proofs.lookup.Goals as goal

pub overflow_add-result : goal.overflow_add-result
overflow_add-result c =
    let h = place-part c.args.bench.now c.args.house.now c.args.setting c.in-Ok-Some.place (ap Ok (sym c.in-Ok-Some.field-0-is) ∙ c.in-Ok-Some.ensures) Bench c.args.bench.now c.in-Bench.is refl refl in search rules

pub slice_bounds-result-end : goal.slice_bounds-result-end
slice_bounds-result-end c = (place-part c.args.bench.now c.args.house.now c.args.setting c.in-Ok-Some.place (ap Ok (sym c.in-Ok-Some.field-0-is) ∙ c.in-Ok-Some.ensures) Bench c.args.bench.now c.in-Bench.is refl refl).0

pub overflow_add-result-in-House : goal.overflow_add-result-in-House
overflow_add-result-in-House c =
    let h = place-part c.args.bench.now c.args.house.now c.args.setting c.in-Ok-Some.place (ap Ok (sym c.in-Ok-Some.field-0-is) ∙ c.in-Ok-Some.ensures) House c.args.house.now c.in-House.is refl refl in search rules

pub slice_bounds-result-end-in-House : goal.slice_bounds-result-end-in-House
slice_bounds-result-end-in-House c = (place-part c.args.bench.now c.args.house.now c.args.setting c.in-Ok-Some.place (ap Ok (sym c.in-Ok-Some.field-0-is) ∙ c.in-Ok-Some.ensures) House c.args.house.now c.in-House.is refl refl).0

pub returns-in-Bench : goal.returns-in-Bench
returns-in-Bench c = (place-part c.args.bench.now c.args.house.now c.args.setting c.in-Ok-Some.place (ap Ok (sym c.in-Ok-Some.field-0-is) ∙ c.in-Ok-Some.ensures) Bench c.args.bench.now c.in-Bench.is refl refl).1

pub returns-in-House : goal.returns-in-House
returns-in-House c = (place-part c.args.bench.now c.args.house.now c.args.setting c.in-Ok-Some.place (ap Ok (sym c.in-Ok-Some.field-0-is) ∙ c.in-Ok-Some.ensures) House c.args.house.now c.in-House.is refl refl).1

pub returns-in-Ok-None : goal.returns-in-Ok-None
returns-in-Ok-None c = place-unset c.args.bench.now c.args.house.now c.args.setting (ap Ok (sym c.in-Ok-None.field-0-is) ∙ c.in-Ok-None.ensures)

pub returns-in-Err : goal.returns-in-Err
returns-in-Err c = place-refused c.args.bench.now c.args.house.now c.args.setting c.in-Err.field-0 c.in-Err.ensures
