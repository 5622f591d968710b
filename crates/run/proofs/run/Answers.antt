-- A state that is not accepted: nothing is read or written.
use Rattle.std.proofs.Common.{sym, ◌∙◌, refl}
use Rattle.run.proofs.Loop.{unaccepted}
use Rattle.run.proofs.run.Goals as goal

pub returns-else-accepted-clause-value : goal.returns-else-accepted-clause-value
returns-else-accepted-clause-value g c = (unaccepted c.args.list.now c.args.answers.now c.args.machine.now (sym c.accepted.ensures ∙ c.if-accepted.false) refl).0

pub returns-else-accepted-clause-machine_after : goal.returns-else-accepted-clause-machine_after
returns-else-accepted-clause-machine_after g c = (unaccepted c.args.list.now c.args.answers.now c.args.machine.now (sym c.accepted.ensures ∙ c.if-accepted.false) refl).1

pub returns-else-accepted-clause-answers_after : goal.returns-else-accepted-clause-answers_after
returns-else-accepted-clause-answers_after g c = (unaccepted c.args.list.now c.args.answers.now c.args.machine.now (sym c.accepted.ensures ∙ c.if-accepted.false) refl).2
