use Rattle.std.proofs.Common.{ℕ, false, sym, ap, ◌∙◌}
use Rattle.disk_spec.specs.Drive.{with_step, with_track, drive_ticks}
use Rattle.disk_spec.proofs.DriveTicks.{idle, early, late}
use Rattle.disk_drive.proofs.wait.Goals as goal

pub returns-then-drive-eq0 : goal.returns-then-drive-eq0
returns-then-drive-eq0 c = sym (idle c.args.wait.0 c.args.drive c.if-drive-eq0.true)

pub returns-then-ticks-drive : goal.returns-then-ticks-drive
returns-then-ticks-drive c =
    let d = c.args.drive in
    sym (early c.ticks-ticks.result d c.if-ticks-drive.true) ∙ ap (λ (n : ℕ). drive_ticks n d) c.ticks-ticks.ensures

pub returns-else-ticks-drive : goal.returns-else-ticks-drive
returns-else-ticks-drive c =
    let d = c.args.drive in
    ap (λ x. with_step (with_track d x) 0 false) c.neighbour_of.ensures
    ∙ sym (late c.ticks-ticks.result d c.if-drive-eq0.false c.if-ticks-drive.false)
    ∙ ap (λ (n : ℕ). drive_ticks n d) c.ticks-ticks.ensures
