use Rattle.std.proofs.Common.{length, refl, ap, arith, length-append, length-drop}
use Rattle.std.proofs.lemmas.List.{take_rest}
use Rattle.transaction_plan.specs.Plan.{part_at, parts}
use Rattle.transaction_plan.proofs.Laws.{parts-fit, one_more, put_on}
use Rattle.transaction_plan.proofs.Plan.write.Goals as goal

pub loop-k-init : goal.loop-k-init
unfolding parts
loop-k-init c = record { here = refl; is = refl }

pub put-at-requires : goal.put-at-requires
put-at-requires c =
    let l = c.loop-k in
    let p = c.args.self in
    rw (take_rest l.out l.at) (omega (arith, l.invariant.here, c.requires, parts-fit p l.k c.args.count c.loop-k-test.true, l.auto.out, length-drop l.at l.out))

pub loop-k-preserved : goal.loop-k-preserved
loop-k-preserved c =
    let l = c.loop-k in
    let p = c.args.self in
    record {
      here = omega (arith, l.invariant.here, c.put-at.ensures.size, ap length (one_more p l.k), length-append (parts p l.k) (part_at p l.k));
      is = rw (one_more p l.k) (put_on (parts p l.k) (part_at p l.k) c.args.out.now l.out c.put-at.new.out l.at c.put-at.result l.invariant.here c.put-at.ensures.size l.invariant.is l.auto.out c.put-at.ensures.written);
    }
