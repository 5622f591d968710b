use Rattle.std.proofs.Common.{◌≡◌, Bool, true, false, cond, not, ◌&&◌, Option, Some, None, Ok, ap, refl, sym, ◌∙◌}
use Rattle.std.specs.Prelude.{eqb, leb}
use Rattle.std.specs.Bool.{then_some}
use borrow.Author.Tests.{eq-eqb, ne_eqb}
use Rattle.keyboard.specs.declared.Reply.{Reply}
use Rattle.keyboard.specs.declared.Reply.TheVariants.{Null}
use Rattle.keyboard.specs.State.{with_left}
use Rattle.keyboard.specs.Numbers.{Response}
use Rattle.keyboard.specs.Steps.{Stepped}
use Rattle.keyboard.proofs.Checked.{accepted}
use Rattle.keyboard.proofs.Ticks.{wait-is}
use Rattle.keyboard.proofs.Keyboard.wait.Goals as goal
use Rattle.keyboard.proofs.Keyboard.wait.Goals.{then-self-ne0, else-self-ne0}

pub returns-clause-after : goal.returns-clause-after
returns-clause-after c =
    let k = c.args.self.now in
    ap (with_left k) c.saturating_sub-self.ensures ∙ sym (ap (λ (s : Stepped). s.keyboard) (wait-is c.args.ticks k (accepted k c.in_ok-check.ensures)))

says : (b : Bool) → ◌≡◌ {A = Response} (Ok (then_some b Null)) (cond b (Ok (Some Null)) (Ok None))
says true = refl
says false = refl

pub returns-clause-said : goal.returns-clause-said
returns-clause-said c =
    let k = c.args.self.now in
    let ends : c.if-self-ne0.ends ≡ (not (eqb k.left 0) && leb k.left c.args.ticks) =
    elim c.if-self-ne0.branch [
      | then-self-ne0 w ↦ w.ends-is ∙ simp (ne_eqb k.left 0 w.if-self-ne0.true)
      | else-self-ne0 w ↦ w.ends-is ∙ simp (eq-eqb k.left 0 w.if-self-ne0.false)
    ] in
    ap (λ (o : Option Reply). Ok o) (c.then_some.ensures ∙ ap (λ (b : Bool). then_some b Null) ends)
    ∙ says (not (eqb k.left 0) && leb k.left c.args.ticks)
    ∙ sym (ap (λ (s : Stepped). s.response) (wait-is c.args.ticks k (accepted k c.in_ok-check.ensures)))
