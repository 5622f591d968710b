use Rattle.std.proofs.Common.{◌∙◌, sym, ap}
use borrow.Author.Tests.{ltb-true}
use Rattle.clock_spec.specs.Phase.{counts}
use Rattle.clock_spec.proofs.PhaseRange.{accepted-counts}
use Rattle.clock.proofs.Clock.look.Goals as goal

pub shift-self-requires : goal.shift-self-requires
shift-self-requires g c = ltb-true _ _ (sym (ap counts c.in-Fall-Sending.is-1) ∙ accepted-counts _ _ _ c.requires)

pub take-requires : goal.take-requires
take-requires g c = sym (ap counts c.in-Rise-Listening.is-1) ∙ accepted-counts _ _ _ c.requires
