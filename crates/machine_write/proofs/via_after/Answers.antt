use Rattle.std.proofs.Common.{sym, ◌∙◌}
use Rattle.machine_write.proofs.Values.{via-next, via-end}
use Rattle.machine_write.proofs.via_after.Goals as goal

pub loop-value-preserved : goal.loop-value-preserved
loop-value-preserved c = via-next c.args.register c.args.values.now c.loop-value.value-index c.loop-value.after c.loop-value-test.true c.write-after.ensures ∙ c.loop-value.invariant

pub returns : goal.returns
returns c = sym (via-end c.args.register c.args.values.now c.loop-value.value-index c.loop-value.after c.loop-value-test.false) ∙ c.loop-value.invariant
