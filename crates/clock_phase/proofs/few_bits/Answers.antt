use Rattle.std.proofs.Common.{◌∙◌}
use borrow.Author.Tests.{lt-ltb}
use Rattle.clock_spec.proofs.PhaseRange.{below-shift}
use Rattle.clock_phase.proofs.few_bits.Goals as goal

pub returns-then-count-lt8 : goal.returns-then-count-lt8
returns-then-count-lt8 c = below-shift c.args.count c.args.bits ∙ simp (lt-ltb _ _ c.if-count-lt8.true)
