use Rattle.std.proofs.Common.{sym, ◌∙◌}
use Rattle.capture_part.proofs.Cases.{counted, not-counted, other-not-counted}
use Rattle.capture_part.proofs.lone.Goals as goal

pub returns-then-changes : goal.returns-then-changes
returns-then-changes c = not-counted c.args.levels c.in-Some.sense.now c.args.row.now c.in-Some.ensures (sym c.changes.ensures ∙ c.if-changes.true)

pub returns-else-changes : goal.returns-else-changes
returns-else-changes c = counted c.args.levels c.in-Some.sense.now c.args.row.now c.in-Some.ensures (sym c.changes.ensures ∙ c.if-changes.false)

pub returns-in-None : goal.returns-in-None
returns-in-None c = other-not-counted c.args.levels c.args.row.now c.in-None.ensures
