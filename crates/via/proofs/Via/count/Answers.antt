use Rattle.std.proofs.Common.{◌≡◌, ℕ, true, sym, ap, subst, ◌∙◌}
use Rattle.via.specs.declared.Via.{Via}
use Rattle.via.specs.Via.{only_counts, ticks}
use Rattle.via.proofs.Waits.{counting, counted, Counting}
use Rattle.via.proofs.Via.count.Goals as goal

-- What the wait's ticks are is true of their number.
counting-by : (v : Via) (n w : ℕ) → n ≡ w → only_counts w v ≡ true → Counting n v
counting-by v n w e h = counting n v (subst (λ k. only_counts k v ≡ true) (sym e) h)

pub overflow_sub-self : goal.overflow_sub-self
overflow_sub-self c = (counting-by _ _ _ c.ticks-n.ensures c.requires).first

pub overflow_sub-self-2 : goal.overflow_sub-self-2
overflow_sub-self-2 c = (counting-by _ _ _ c.ticks-n.ensures c.requires).second

pub returns : goal.returns
returns c =
    let v = c.args.self in
    counted c.ticks-n.result v (counting-by _ _ _ c.ticks-n.ensures c.requires) ∙ ap (λ (n : ℕ). ticks n v) c.ticks-n.ensures
