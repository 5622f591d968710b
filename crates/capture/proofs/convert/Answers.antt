use Rattle.std.proofs.Common.{length}
use Rattle.capture.proofs.Passes.{six, output-kept, output-written}
use Rattle.capture.proofs.convert.Goals as goal

pub returns-in_default-clause-value : goal.returns-in_default-clause-value
returns-in_default-clause-value c = six c.args.list.now (length c.args.out.now) c.in_default.ensures

pub returns-in_default-clause-out_after : goal.returns-in_default-clause-out_after
returns-in_default-clause-out_after c = output-kept c.args.list.now c.args.out.now c.in_default.ensures

pub write-requires : goal.write-requires
write-requires c = c.in-Some.ensures.0

pub returns-clause-value : goal.returns-clause-value
returns-clause-value c = c.in-Some.ensures.1

pub returns-clause-out_after : goal.returns-clause-out_after
returns-clause-out_after c = output-written c.args.list.now c.args.out.now c.write.new.out c.in-Some.ensures.0 c.write.ensures
