use Rattle.std.proofs.Common.{arith, sym, ◌∙◌}
use Rattle.capture_spec.proofs.Records.{retired-long, line0-long}
use Rattle.capture_record.proofs.next.Goals as goal

pub bounds-row-6 : goal.bounds-row-6
bounds-row-6 c = omega (arith, retired-long c.args.row.now (sym c.is_retired.ensures ∙ c.if-is_retired.true))

pub bounds-row-7 : goal.bounds-row-7
bounds-row-7 c = omega (arith, retired-long c.args.row.now (sym c.is_retired.ensures ∙ c.if-is_retired.true))

pub bounds-row-8 : goal.bounds-row-8
bounds-row-8 c = omega (arith, retired-long c.args.row.now (sym c.is_retired.ensures ∙ c.if-is_retired.true))

pub bounds-row-7-then-is_line0 : goal.bounds-row-7-then-is_line0
bounds-row-7-then-is_line0 c = omega (arith, (line0-long c.args.row.now (sym c.is_line0.ensures ∙ c.if-is_line0.true)).0)
