use Rattle.std.proofs.Common.{sym, ◌∙◌}
use Rattle.via_timer.proofs.Closed.{load}
use Rattle.via_timer.proofs.Counter.run.Goals as goal

pub returns-then-self : goal.returns-then-self
returns-then-self c =
    let a = c.args in
    c.fall.ensures ∙ sym (load a.free a.latch a.self a.n c.if-self.true c.if-n-eq0.false)
