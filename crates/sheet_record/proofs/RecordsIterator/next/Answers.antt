use Rattle.std.proofs.Common.{refl, sym, arith, length}
use Rattle.sheet_record.proofs.Steps.{at-end, at-broken, taken, fits, at-row}
use Rattle.sheet_record.proofs.RecordsIterator.next.Goals as goal

pub returns-then-self-clause-steps : goal.returns-then-self-clause-steps
returns-then-self-clause-steps c = let e = at-end c.args.self.now.sheet.now c.args.self.now.at c.if-self.true in (e, e)

pub returns-in_default-clause-steps : goal.returns-in_default-clause-steps
returns-in_default-clause-steps c =
    let inside = c.args.self.now.inside in (
      at-broken c.args.self.now.sheet.now c.args.self.now.at (omega (arith, c.if-self.false)) c.in_default.ensures.value,
      at-end c.args.self.now.sheet.now (length c.args.self.now.sheet.now) refl,
      refl,
    )

pub invariant_of-self-2 : goal.invariant_of-self-2
invariant_of-self-2 c = record { inside = fits c.args.self.now.sheet.now c.args.self.now.at c.in-Some.bytes.now c.in-Some.ensures.value }

pub invariant_of-result : goal.invariant_of-result
invariant_of-result c = record { long = (taken c.args.self.now.sheet.now c.args.self.now.at c.in-Some.bytes.now c.in-Some.ensures.value).least }

pub returns-clause-steps : goal.returns-clause-steps
returns-clause-steps c = (
  at-row c.args.self.now.sheet.now c.args.self.now.at c.in-Some.bytes.now c.in-Some.ensures.value,
  refl,
  refl,
  refl,
  (taken c.args.self.now.sheet.now c.args.self.now.at c.in-Some.bytes.now c.in-Some.ensures.value).front,
)
