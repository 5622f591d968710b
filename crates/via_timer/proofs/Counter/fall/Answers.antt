use Rattle.std.proofs.Common.{◌≡◌, ◌+◌, ◌-◌, ◌%◌, sym, ◌∙◌, arith}
use Rattle.via_timer.proofs.Closed.{early, once, since}
use Rattle.via_timer.proofs.Counter.fall.Goals as goal

pub returns-then-n-self : goal.returns-then-n-self
returns-then-n-self c =
    let a = c.args in
    let s = a.self in
    let fell : (s.value + (65536 - a.n)) % 65536 ≡ s.value - a.n = omega arith in
    rw fell (sym (early a.free a.latch s.value a.n s.armed s.fired c.if-n-self.true))

pub returns-then-free : goal.returns-then-free
returns-then-free c =
    let a = c.args in
    let turned = rw (c.from-since.ensures, c.from.ensures) at c.turned.ensures in
    rw c.if-free.true (turned ∙ sym (since a.latch a.self.armed a.self.fired a.self.value a.n c.if-n-self.false))

pub returns-else-free : goal.returns-else-free
returns-else-free c =
    let a = c.args in
    let s = a.self in
    let fell : (s.value + (65536 - a.n)) % 65536 ≡ 65535 - (a.n - s.value - 1) = omega arith in
    rw (fell, c.if-free.false) (sym (once a.latch s.value a.n s.armed s.fired c.if-n-self.false (omega arith)))
