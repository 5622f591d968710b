use Rattle.std.proofs.Common.{ℕ, sym, ap, ◌∙◌}
use Rattle.disk_spec.specs.Strobe.{strobe_ticks, with_ticks}
use Rattle.disk_spec.proofs.StrobeTicks.{capped, unsteady, full}
use Rattle.disk_strobe.proofs.wait.Goals as goal
use Rattle.disk_strobe.proofs.wait.Goals.{else-strobe-via-then-strobe+else-strobe-lt-EJECT_TICKS, else-strobe-via-else-strobe}

pub returns-then-strobe-lt-EJECT_TICKS : goal.returns-then-strobe-lt-EJECT_TICKS
returns-then-strobe-lt-EJECT_TICKS c =
    let s = c.args.strobe in
    ap (with_ticks s) c.min.ensures
    ∙ sym (capped c.ticks-ticks.result s c.if-strobe.true c.if-strobe-lt-EJECT_TICKS.true)
    ∙ ap (λ (n : ℕ). strobe_ticks n s) c.ticks-ticks.ensures

pub returns-else-strobe : goal.returns-else-strobe
returns-else-strobe c =
    let s = c.args.strobe in
    elim c.else-strobe.branch [
      | else-strobe-via-then-strobe+else-strobe-lt-EJECT_TICKS w ↦ sym (full c.args.wait.0 s w.if-strobe-lt-EJECT_TICKS.false)
      | else-strobe-via-else-strobe w ↦ sym (unsteady c.args.wait.0 s w.if-strobe.false)
    ]
