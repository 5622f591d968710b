use Rattle.std.proofs.Common.{◌≡◌, ap, ◌∙◌}
use mathlib.Core.Bool.{and-true}
use Rattle.machine_spec.specs.Machine.{accepted_of}
use Rattle.machine.proofs.accepted_cleared.Goals as goal

pub returns : goal.returns
unfolding accepted_of
returns c =
    simp (c.accepted-drives.ensures, c.strobe_levels.ensures.levels, c.accepted_phase-clock.ensures, c.accepted-via.ensures, c.all_levels-sense.ensures, c.all_levels-inputs.ensures, c.wires-enable.ensures, c.requires, and-true)
