use Rattle.std.proofs.Common.{ℕ, List, Bor, sym, ap, arith, ◌∙◌, length}
use Rattle.sheet_record.proofs.Given.{given-row, given-broken}
use Rattle.sheet_compact.proofs.Leaves.{pass-first, pass-end, pass-broken, pass-yes, pass-no}
use Rattle.sheet_compact.proofs.measure.Goals as goal

pub loop-record-init : goal.loop-record-init
loop-record-init c = record {
  can = tt;
  finite = tt;
  same = ap (λ w. w.sheet.now) c.into_iter-record-iterator.ensures.into_iter_gives ∙ c.new-record-items.ensures.sheet;
  pass = rw (c.into_iter-record-iterator.ensures.into_iter_gives, c.new-record-items.ensures.sheet, c.new-record-items.ensures.front) (pass-first c.args.sheet.now);
}

pub returns-in_default : goal.returns-in_default
returns-in_default c =
    let g = given-broken c.loop-record.record-iterator c.next.new.self c.in-Some.record c.in_default.field-0 c.in_default.is c.in-Some.ensures.steps in
    pass-broken c.args.sheet.now c.loop-record.record-iterator.at c.loop-record.size (rw g.0 at c.loop-record.invariant.pass)

pub overflow_add-size : goal.overflow_add-size
overflow_add-size c =
    let g = given-row c.loop-record.record-iterator c.next.new.self c.in-Some.record c.in-Ok.record c.in-Ok.is c.in-Some.ensures.steps in
    omega (arith, c.loop-record.invariant.pass.fits, g.2, c.next.new.self.inside, ap (λ (b : Bor (List ℕ)). length b.now) g.1, ap length c.loop-record.invariant.same)

pub loop-record-preserved-then-counts : goal.loop-record-preserved-then-counts
loop-record-preserved-then-counts c =
    let g = given-row c.loop-record.record-iterator c.next.new.self c.in-Some.record c.in-Ok.record c.in-Ok.is c.in-Some.ensures.steps in
    record {
      can = tt;
      finite = tt;
      same = ap (λ (b : Bor (List ℕ)). b.now) g.1 ∙ c.loop-record.invariant.same;
      pass = pass-yes c.args.sheet.now c.loop-record.record-iterator c.next.new.self c.in-Ok.record g c.loop-record.size c.loop-record.invariant.pass c.args.starts.now c.requires c.counts.ensures.setting
          (sym c.counts.ensures.counts ∙ c.if-counts.true);
    }

pub loop-record-preserved : goal.loop-record-preserved
loop-record-preserved c =
    let g = given-row c.loop-record.record-iterator c.next.new.self c.in-Some.record c.in-Ok.record c.in-Ok.is c.in-Some.ensures.steps in
    record {
      can = tt;
      finite = tt;
      same = ap (λ (b : Bor (List ℕ)). b.now) g.1 ∙ c.loop-record.invariant.same;
      pass = pass-no c.args.sheet.now c.loop-record.record-iterator c.next.new.self c.in-Ok.record g c.loop-record.size c.loop-record.invariant.pass c.args.starts.now c.requires c.counts.ensures.setting
          (sym c.counts.ensures.counts ∙ c.if-counts.false);
    }

pub returns : goal.returns
returns c = pass-end c.args.sheet.now c.loop-record.record-iterator.at c.loop-record.size (rw c.in-None.ensures.steps.0 at c.loop-record.invariant.pass)
