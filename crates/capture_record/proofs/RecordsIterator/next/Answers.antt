use Rattle.std.proofs.Common.{ℕ, ◌≢◌, ◌<◌, ◌-◌, [], refl, sym, ◌∙◌, arith, length, drop, take, length-drop}
use borrow.Author.Tests.{eqb-true, eqb-false}
use Rattle.std.proofs.lemmas.List.{length-take-le}
use Rattle.item_spec.proofs.RecordLaws.{whole-fits}
use Rattle.capture_spec.proofs.Walk.{capture-end, capture-cut, capture-next, rest_of}
use Rattle.capture_record.proofs.RecordsIterator.next.Goals as goal

pub returns-then-is_empty-clause-steps : goal.returns-then-is_empty-clause-steps
returns-then-is_empty-clause-steps c =
    let e = capture-end c.args.self.now.left.now (omega (arith, eqb-true _ _ (sym c.is_empty.ensures ∙ c.if-is_empty.true))) in (e, e)

pub returns-in_default-clause-steps : goal.returns-in_default-clause-steps
returns-in_default-clause-steps c =
    let n : length c.args.self.now.left.now ≢ 0 = eqb-false _ _ (sym c.is_empty.ensures ∙ c.if-is_empty.false) in (
      capture-cut c.args.self.now.left.now (omega arith) (sym c.in_default.ensures),
      capture-end [] (omega arith),
      refl,
    )

pub slice_bounds-row-end : goal.slice_bounds-row-end
slice_bounds-row-end c = sym (length-take-le c.in-Some.size c.args.self.now.left.now (whole-fits c.args.self.now.left.now c.in-Some.size (sym c.in-Some.ensures)).1)

pub slice_bounds-self-count : goal.slice_bounds-self-count
slice_bounds-self-count c = (whole-fits c.args.self.now.left.now c.in-Some.size (sym c.in-Some.ensures)).1

pub slice_bounds-self-start : goal.slice_bounds-self-start
slice_bounds-self-start c = let f = whole-fits c.args.self.now.left.now c.in-Some.size (sym c.in-Some.ensures) in omega arith

pub returns-clause-steps : goal.returns-clause-steps
returns-clause-steps c = capture-next c.args.self.now.left.now c.in-Some.size (sym c.in-Some.ensures)

pub returns-clause-goes : goal.returns-clause-goes
returns-clause-goes c =
    let f = whole-fits c.args.self.now.left.now c.in-Some.size (sym c.in-Some.ensures) in
    let l : length (take (length c.args.self.now.left.now - c.in-Some.size) (drop c.in-Some.size c.args.self.now.left.now)) < length c.args.self.now.left.now =
    rw rest_of (omega (arith, length-drop c.in-Some.size c.args.self.now.left.now)) in
    record { on = λ _. (tt, tt, l); keeps = tt; rests = λ _. tt }
