use Rattle.std.proofs.Common.{arith}
use Rattle.disk_lines.proofs.Laws.{bit_in}
use Rattle.disk_lines.proofs.with_level.Goals as goal

pub overflow_add-result : goal.overflow_add-result
overflow_add-result c =
    let f = bit_in c.args.i c.args.lines c.args.level c.requires.0 (omega (arith, c.ranges.lines)) c.requires.1 in
    rw (f.0, f.1) (omega (arith, f.3))
