use Rattle.std.proofs.Common.{◌≡◌, ◌∙◌, sym, ap}
use Rattle.via.specs.Via.{ticks}
use Rattle.disk_spec.specs.declared.Drives.{Drives}
use Rattle.disk_spec.specs.Drives.{drives_ticks}
use Rattle.disk_spec.proofs.DrivesLaws.{idle-drives}
use Rattle.machine_spec.specs.Machine.{with_via, with_drives}
use Rattle.machine_act.proofs.wait.Goals as goal
use Rattle.machine_act.proofs.wait.Goals.{then-only_counts, else-only_counts}

-- Time changes nothing of drives that are not busy.
pub returns-else-busy : goal.returns-else-busy
returns-else-busy c =
    let m = c.args.machine.now in
    let n = c.args.wait.0 in
    let counted : c.if-only_counts.machine ≡ with_via m (ticks n m.via) =
    elim c.if-only_counts.branch [
      | then-only_counts w ↦ w.machine-is ∙ ap (with_via m) w.count-machine.ensures
      | else-only_counts w ↦ w.machine-is ∙ ap (with_via m) w.wait-machine.ensures
    ] in
    let idle : drives_ticks n m.drives ≡ m.drives = idle-drives n m.drives (sym (ap (λ x. Rattle.disk_spec.specs.Drives.drives_busy x.drives) counted) ∙ sym c.busy.ensures ∙ c.if-busy.false) in
    counted ∙ ap (λ (d : Drives). with_drives (with_via m (ticks n m.via)) d) (sym idle)
