use Rattle.std.proofs.Common.{◌≡◌, ◌+◌, ◌-◌, ◌%◌, sym, arith}
use Rattle.via_timer.proofs.Closed.{turning}
use Rattle.via_timer.proofs.Counter.turned.Goals as goal

pub returns-else-turn-eq0 : goal.returns-else-turn-eq0
returns-else-turn-eq0 c =
    let a = c.args in
    let z = c.if-turn-eq0.false in
    let fell : (a.latch + (65536 - (a.turn - 1))) % 65536 ≡ a.latch - (a.turn - 1) = omega (arith, z) in
    rw fell (sym (turning a.latch a.turn a.self.armed a.self.fired z c.requires))
