use Rattle.std.proofs.Common.{None, Some, Ok, Err, sym, ap, ◌∙◌}
use Rattle.sheet_spec.specs.Lookup.{refusal_of, sheet_number, start_number, size_number}
use Rattle.sheet_entry.proofs.Numbers.{refusal-number, sheet-number, start-number, size-number}
use Rattle.sheet_entry.proofs.get.Goals as goal

pub returns-in-Ok-Some-clause-value : goal.returns-in-Ok-Some-clause-value
unfolding refusal_of
returns-in-Ok-Some-clause-value c = refusal-number c.args.bench.now c.args.house.now c.args.setting (Ok (Some c.in-Ok-Some.place)) (ap Ok (sym c.in-Ok-Some.field-0-is) ∙ c.in-Ok-Some.ensures)

pub returns-in-Ok-Some-clause-sheet_after : goal.returns-in-Ok-Some-clause-sheet_after
unfolding sheet_number
returns-in-Ok-Some-clause-sheet_after c = c.from.ensures ∙ sheet-number c.args.bench.now c.args.house.now c.args.setting (Ok (Some c.in-Ok-Some.place)) (ap Ok (sym c.in-Ok-Some.field-0-is) ∙ c.in-Ok-Some.ensures)

pub returns-in-Ok-Some-clause-start_after : goal.returns-in-Ok-Some-clause-start_after
unfolding start_number
returns-in-Ok-Some-clause-start_after c = start-number c.args.bench.now c.args.house.now c.args.setting (Ok (Some c.in-Ok-Some.place)) (ap Ok (sym c.in-Ok-Some.field-0-is) ∙ c.in-Ok-Some.ensures)

pub returns-in-Ok-Some-clause-size_after : goal.returns-in-Ok-Some-clause-size_after
unfolding size_number
returns-in-Ok-Some-clause-size_after c = size-number c.args.bench.now c.args.house.now c.args.setting (Ok (Some c.in-Ok-Some.place)) (ap Ok (sym c.in-Ok-Some.field-0-is) ∙ c.in-Ok-Some.ensures)

pub returns-in-Ok-None-clause-value : goal.returns-in-Ok-None-clause-value
unfolding refusal_of
returns-in-Ok-None-clause-value c = refusal-number c.args.bench.now c.args.house.now c.args.setting (Ok None) (ap Ok (sym c.in-Ok-None.field-0-is) ∙ c.in-Ok-None.ensures)

pub returns-in-Ok-None-clause-sheet_after : goal.returns-in-Ok-None-clause-sheet_after
unfolding sheet_number
returns-in-Ok-None-clause-sheet_after c = sheet-number c.args.bench.now c.args.house.now c.args.setting (Ok None) (ap Ok (sym c.in-Ok-None.field-0-is) ∙ c.in-Ok-None.ensures)

pub returns-in-Ok-None-clause-start_after : goal.returns-in-Ok-None-clause-start_after
unfolding start_number
returns-in-Ok-None-clause-start_after c = start-number c.args.bench.now c.args.house.now c.args.setting (Ok None) (ap Ok (sym c.in-Ok-None.field-0-is) ∙ c.in-Ok-None.ensures)

pub returns-in-Ok-None-clause-size_after : goal.returns-in-Ok-None-clause-size_after
unfolding size_number
returns-in-Ok-None-clause-size_after c = size-number c.args.bench.now c.args.house.now c.args.setting (Ok None) (ap Ok (sym c.in-Ok-None.field-0-is) ∙ c.in-Ok-None.ensures)

pub returns-in-Err-clause-value : goal.returns-in-Err-clause-value
unfolding refusal_of
returns-in-Err-clause-value c = c.from-in-Err.ensures ∙ refusal-number c.args.bench.now c.args.house.now c.args.setting (Err c.in-Err.refusal) c.in-Err.ensures

pub returns-in-Err-clause-sheet_after : goal.returns-in-Err-clause-sheet_after
unfolding sheet_number
returns-in-Err-clause-sheet_after c = sheet-number c.args.bench.now c.args.house.now c.args.setting (Err c.in-Err.refusal) c.in-Err.ensures

pub returns-in-Err-clause-start_after : goal.returns-in-Err-clause-start_after
unfolding start_number
returns-in-Err-clause-start_after c = start-number c.args.bench.now c.args.house.now c.args.setting (Err c.in-Err.refusal) c.in-Err.ensures

pub returns-in-Err-clause-size_after : goal.returns-in-Err-clause-size_after
unfolding size_number
returns-in-Err-clause-size_after c = size-number c.args.bench.now c.args.house.now c.args.setting (Err c.in-Err.refusal) c.in-Err.ensures
