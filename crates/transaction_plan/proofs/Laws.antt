-- Parts one after the other in lent memory.
use Rattle.std.proofs.Common.{ℕ, zero, suc, ◌≡◌, ◌+◌, ◌-◌, ◌≤◌, ◌<◌, Bool, true, false, List, [], ◌++◌, length, take, drop, refl, sym, ap, ap₂, ◌∙◌, add-one, arith, length-append, length-drop, append_assoc, append-nil}
use Rattle.std.proofs.lemmas.List.{take_rest}
use Rattle.std.proofs.Math.ListN.{drop_of_length-le}
use borrow.Rule.Slice.PartMut.{mid_of, post_of, put_mid}
use lib.Dec.{ltb}
use borrow.Author.Tests.{ltb-true, ltb-false}
use lib.Seq.{take_at, drop_at, drop-drop}
use Rattle.transaction_plan.specs.declared.Plan.{Plan}
use Rattle.transaction_plan.specs.Plan.{part_at, parts}

pub parts-fit : (s : Plan) (k n : ℕ) → k < n → length (parts s k) + length (part_at s k) ≤ length (parts s n)
unfolding parts
parts-fit s k zero h = absurd (omega arith)
parts-fit s k (suc n) h = go (λ (i : k < n). parts-fit s k n i) (ltb k n) refl
  where
    go : (k < n → length (parts s k) + length (part_at s k) ≤ length (parts s n)) → (t : Bool) → ltb k n ≡ t → length (parts s k) + length (part_at s k) ≤ length (parts s n ++ part_at s n)
    go f true e = omega (arith, f (ltb-true _ _ e), length-append (parts s n) (part_at s n))
    go f false e =
        let g : n ≤ k = ltb-false _ _ e in
        let d : k ≡ n = omega arith in
        rw (d, length-append) (omega arith)

pub one_more : (s : Plan) (k : ℕ) → parts s (k + 1) ≡ parts s k ++ part_at s k
unfolding parts
one_more s k = rw add-one refl

-- After a write to `o[at..]`: x is what lies before it, y what is put there.
module _ (x y o₀ o n : List ℕ) (at m : ℕ) (l : at ≡ length x) (k : m ≡ length y) (e : o ≡ x ++ drop at o₀) (g : length o ≡ length o₀) where
  rest : mid_of at (length o - at) o ≡ drop at o₀
  rest = take_rest o at ∙ ap (drop at) e ∙ drop_at x (drop at o₀) at (sym l)

  pub put_on : n ≡ y ++ drop (length y) (mid_of at (length o - at) o) → put_mid at (length o - at) o n ≡ (x ++ y) ++ drop (at + m) o₀
  put_on h =
      let T : take at o ≡ x = ap (take at) e ∙ take_at x (drop at o₀) at (sym l) in
      let P : post_of at (length o - at) o ≡ [] = drop_of_length-le (drop at o) {i = length o - at} (omega (arith, length-drop at o)) in
      let N : n ≡ y ++ drop (at + m) o₀ = h ∙ ap₂ (λ i z. y ++ drop i z) (sym k) rest ∙ ap (λ z. y ++ z) (drop-drop m at o₀) in
      rw (T, P, N) (simp (append_assoc, append-nil))
