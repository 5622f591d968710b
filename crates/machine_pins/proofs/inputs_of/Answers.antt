use Rattle.std.proofs.Common.{arith}
use Rattle.levels.proofs.Laws.{level-at}
use Rattle.machine_pins.proofs.inputs_of.Goals as goal

pub middle-between-requires : goal.middle-between-requires
middle-between-requires c = (level-at _ _ c.requires, level-at _ _ c.requires, level-at _ _ c.requires, level-at _ _ c.requires)

pub overflow_mul-result : goal.overflow_mul-result
overflow_mul-result c = omega (arith, level-at c.args.lines.now 4 c.requires)

pub overflow_add-result-5 : goal.overflow_add-result-5
overflow_add-result-5 c = omega (arith, level-at c.args.lines.now 4 c.requires)
