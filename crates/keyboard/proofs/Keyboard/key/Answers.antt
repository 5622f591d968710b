use Rattle.std.proofs.Common.{◌≤◌, true, false, ap, sym, ◌∙◌, rules, arith}
use borrow.Author.Tests.{eq-eqb, ne_eqb}
use Rattle.keyboard.specs.Steps.{Stepped, key_of}
use Rattle.keyboard.proofs.Codes.{parts, added}
use Rattle.keyboard.proofs.Checked.{passed, accepted, key-case}
use Rattle.keyboard.proofs.Keyboard.key.Goals as goal

pub bounds-self-self : goal.bounds-self-self
bounds-self-self c =
    let f : c.args.self.now.held ≤ 8 = (parts c.args.self.now (accepted c.args.self.now c.in_ok-check.ensures)).few in
    omega arith

pub overflow_add-self : goal.overflow_add-self
overflow_add-self c =
    let f : c.args.self.now.held ≤ 8 = (parts c.args.self.now (accepted c.args.self.now c.in_ok-check.ensures)).few in
    omega arith

pub returns-clause-after : goal.returns-clause-after
unfolding key_of
returns-clause-after c =
    let k = c.args.self.now in
    let a = accepted k c.in_ok-check.ensures in
    let f : k.held ≤ 8 = (parts k a).few in
    added k c.args.code (search rules) a (omega arith)
    ∙ sym (ap (λ (s : Stepped). s.keyboard) (passed k _ a ∙ key-case k c.args.code true false (eq-eqb _ _ (omega arith)) (ne_eqb _ _ c.if-self-eq-CAPACITY.false)))
