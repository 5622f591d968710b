use Rattle.levels.proofs.Laws.{level-at}
use Rattle.machine_spec.proofs.Step.{via-level}
use Rattle.machine_answer.proofs.answer.Goals as goal

pub interrupt_level-requires : goal.interrupt_level-requires
interrupt_level-requires c = (rw c.level.ensures (via-level _), level-at _ _ c.requires, level-at _ _ c.requires)
