-- The level shown is a level: an own one, or a sense register's.
use Rattle.levels.proofs.Laws.{level-at}
use Rattle.disk_spec.proofs.DrivesLaws.{shown-below}
use Rattle.machine_act.proofs.read_iwm.Goals as goal

pub read-requires : goal.read-requires
read-requires c = rw c.shown-shown.ensures (shown-below _ _ _ (level-at _ _ c.requires.levels))
