-- The run's contract at the fresh machine, and demand 3 of the machine reached.
use Rattle.std.proofs.Common.{◌∙◌, sym, ap, subst, length}
use Rattle.machine_spec.specs.declared.Machine.{Machine}
use Rattle.machine_spec.specs.Machine.{fresh_machine}
use Rattle.run_spec.specs.Outcome.{run_of}
use Rattle.demand3.specs.Runs.{Run3}
use Rattle.demand3.proofs.Runs.{run3-fresh}
use Rattle.run_fresh.proofs.run_fresh.Goals as goal

pub returns-clause-run3 : goal.returns-clause-run3
returns-clause-run3 c =
    let list = c.args.list.now in
    let n = length c.args.answers.now in
    let reached = c.run-ran.ensures.machine_after ∙ ap (λ (m : Machine). (run_of m list n).machine) c.fresh-machine.ensures in
    subst (λ (m : Machine). Run3 (fresh_machine c.args.chip) list n m) (sym reached) (run3-fresh c.args.chip list n)
