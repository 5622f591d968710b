-- With LSTRB off before and after, no strobe is left.
use Rattle.std.proofs.Common.{Bool, ◌||◌, sym, ◌∙◌}
use mathlib.Core.Path.{ap₂}
use Rattle.machine_write.proofs.Writes.{unstrobed}
use Rattle.machine_write.proofs.strobe.Goals as goal

pub returns-else-was-is : goal.returns-else-was-is
returns-else-was-is c =
    unstrobed c.args.disk c.args.ports c.args.machine.now (sym (ap₂ (λ (x y : Bool). x || y) c.is_on-was.ensures c.is_on-is.ensures) ∙ c.if-was-is.false) c.off-machine.ensures
