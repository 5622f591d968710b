use Rattle.std.proofs.Common.{sym, ap, ◌∙◌}
use Rattle.std.proofs.lemmas.Bool.{not-false}
use Rattle.clock_spec.specs.declared.Wires.{Wires}
use Rattle.transaction_spec.proofs.Laws.{has-place}
use Rattle.transaction_writer.proofs.Leaves.{fits, all}
use Rattle.transaction_writer.proofs.write_transaction.Goals as goal

pub plan_of-requires : goal.plan_of-requires
plan_of-requires c = has-place _ _ (sym c.is_on.ensures ∙ c.if-not-is_on.false)

pub write-requires : goal.write-requires
write-requires c = fits c.args.machine.now c.args.ask _ _ _ _ c.plan_of.ensures c.count.ensures c.size-size.ensures c.if-out-size.false

pub returns-clause-out_after : goal.returns-clause-out_after
returns-clause-out_after c =
    all c.args.machine.now c.args.ask c.args.out.now (sym c.accepted.ensures ∙ c.if-not-accepted.false) (sym c.is_on.ensures ∙ c.if-not-is_on.false)
    (sym (ap (λ (w : Wires). w.enable) c.wires.ensures) ∙ not-false _ c.if-not-wires.false) _ c.size-size.ensures c.if-out-size.false _ _ _ c.plan_of.ensures c.count.ensures c.write.ensures
