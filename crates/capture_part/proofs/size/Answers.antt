use Rattle.std.proofs.Common.{length, sym, ap, ◌∙◌}
use Rattle.capture_part.proofs.Cases.{eighteen, eight, other}
use Rattle.capture_part.proofs.size.Goals as goal

pub returns-then-changes : goal.returns-then-changes
returns-then-changes c = eighteen c.args.levels c.in-Some.sense.now c.args.row.now c.in-Some.ensures (sym c.changes.ensures ∙ c.if-changes.true)

pub returns-else-changes : goal.returns-else-changes
returns-else-changes c = eight c.args.levels c.in-Some.sense.now c.args.row.now c.in-Some.ensures (sym c.changes.ensures ∙ c.if-changes.false)

pub returns-in-None : goal.returns-in-None
returns-in-None c = sym (ap length (other c.args.levels c.args.row.now c.in-None.ensures))
