use Rattle.std.proofs.Common.{◌≡◌, Bool, true, false, not, ◌||◌, refl, ap}
use Rattle.disk_spec.specs.declared.Watched.{Watched}
use Rattle.disk_spec.specs.declared.Strobe.{Strobe}
use Rattle.disk_spec.specs.Strobe.{no_strobe, strobe_after, strobe_writes}
use Rattle.levels.proofs.Laws.{no}
use Rattle.disk_spec.specs.declared.Drives.{Drives}
use Rattle.disk_spec.specs.Drives.{with_strobe, drives_after}
use Rattle.disk_drives.proofs.look.Goals as goal

-- LSTRB off before and after: no write, and no strobe.
unstrobed : (v w : Watched) (d : Drives) {s : Strobe} → not (v.lstrb || w.lstrb) ≡ true → s ≡ no_strobe → with_strobe d s ≡ drives_after v w d
unfolding drives_after strobe_after strobe_writes
unstrobed v w d {s} h e = go v.lstrb w.lstrb refl refl h
  where
    go : (a b : Bool) → v.lstrb ≡ a → w.lstrb ≡ b → not (a || b) ≡ true → with_strobe d s ≡ drives_after v w d
    go true b p q k = no k
    go false true p q k = no k
    go false false p q k = simp (p, q, e)

pub returns-then-not-before-after : goal.returns-then-not-before-after
returns-then-not-before-after c =
    let a = c.args in
    unstrobed a.before a.after a.drives.now (ap not c.if-not-before-after.true) c.off-drives.ensures

pub returns-then-writes : goal.returns-then-writes
unfolding drives_after
returns-then-writes c =
    simp (← c.writes.ensures, c.if-writes.true, c.write.ensures, c.after-strobe.ensures)

pub returns-else-writes : goal.returns-else-writes
unfolding drives_after
returns-else-writes c = simp (← c.writes.ensures, c.if-writes.false, c.after-strobe.ensures)
