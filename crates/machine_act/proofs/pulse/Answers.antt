use Rattle.std.proofs.Common.{ap, ◌∙◌}
use Rattle.via.specs.declared.Access.{Access}
use Rattle.via.specs.Setters.{with_sr, with_flags, with_pulses}
use Rattle.machine_spec.specs.Machine.{with_via}
use Rattle.machine_spec.specs.Accesses.{keyboard_pulse}
use Rattle.machine_act.proofs.Shifts.{pulse-shift}
use Rattle.machine_act.proofs.pulse.Goals as goal

pub returns-clause-machine_after : goal.returns-clause-machine_after
unfolding keyboard_pulse
returns-clause-machine_after c =
    let m = c.args.machine.now in
    ap (λ (a : Access). with_via m (with_pulses (with_flags (with_sr m.via a.via.sr) a.via.flags) a.via.pulses)) c.pulse-after.ensures
    ∙ ap (with_via m) (pulse-shift c.args.level m.via)
