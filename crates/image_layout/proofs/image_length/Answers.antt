use Rattle.std.proofs.Common.{arith}
use Rattle.image_spec.proofs.ClockBack.{tail-most}
use Rattle.image_layout.proofs.image_length.Goals as goal

pub overflow_add-result : goal.overflow_add-result
overflow_add-result c = omega (arith, c.tail_length.ensures, tail-most c.args.chip)
