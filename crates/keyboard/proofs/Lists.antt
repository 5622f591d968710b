-- Lists whose end is 0: a code put behind the last, the first one taken away.
use Prim.Native.Nat.{ℕ, zero, suc, ◌+◌, ◌-◌, ◌≤◌, ◌<◌}
use mathlib.Core.Path.{◌≡◌, refl, sym, ap, ◌∙◌}
use mathlib.Core.Bool.{true}
use mathlib.Core.List.{List, [], ◌∷◌, ◌++◌}
use native.Mathlib.Omega.{arith}
use lib.ListN.{length, take, drop, set, replicate, replicate-append-replicate}
use lib.Dec.{eqb}
use borrow.Author.Tests.{eqb-true}
use Rattle.levels.proofs.Laws.{both}
use Rattle.keyboard.specs.State.{all_zero}

pub zeros-are : (l : List ℕ) → all_zero l ≡ true → l ≡ replicate (length l) 0
unfolding all_zero
zeros-are [] h = refl
zeros-are (x ∷ xs) h =
    let p = both (eqb x 0) (all_zero xs) h in
    let e : x ≡ 0 = eqb-true x 0 p.0 in
    let r : xs ≡ replicate (length xs) 0 = zeros-are xs p.1 in
    cc

pub are-zeros : (n : ℕ) → all_zero (replicate n 0) ≡ true
unfolding all_zero
are-zeros zero = refl
are-zeros (suc n) = are-zeros n

-- a code in the first place not in use
pub pushed : (n : ℕ) (c : List ℕ) (x : ℕ) → n < length c → all_zero (drop n c) ≡ true → set c n x ≡ take n c ++ (x ∷ []) ++ replicate (length c - suc n) 0
unfolding all_zero
pushed n [] x h z = absurd (omega arith)
pushed zero (y ∷ ys) x h z =
    let e : suc (length ys) - 1 ≡ length ys = omega arith in
    ap (λ (r : List ℕ). x ∷ r) (zeros-are ys (both (eqb y 0) (all_zero ys) z).1 ∙ ap (λ (k : ℕ). replicate k 0) (sym e))
pushed (suc n) (y ∷ ys) x h z =
    let e : suc (length ys) - suc (suc n) ≡ length ys - suc n = omega arith in
    ap (λ (r : List ℕ). y ∷ r) (pushed n ys x (omega arith) z ∙ ap (λ (k : ℕ). take n ys ++ (x ∷ []) ++ replicate k 0) (sym e))

-- a 0 more at the end
pub longer : (n : ℕ) (xs : List ℕ) → n ≤ length xs → all_zero (drop n xs) ≡ true → xs ++ (0 ∷ []) ≡ take n xs ++ replicate (suc (length xs) - n) 0
unfolding all_zero
longer zero xs h z =
    let e : length xs + 1 ≡ suc (length xs) - 0 = omega arith in
    ap (λ (r : List ℕ). r ++ (0 ∷ [])) (zeros-are xs z) ∙ replicate-append-replicate (length xs) 1 0 ∙ ap (λ (k : ℕ). replicate k 0) e
longer (suc n) [] h z = absurd (omega arith)
longer (suc n) (y ∷ ys) h z =
    let e : suc (suc (length ys)) - suc n ≡ suc (length ys) - n = omega arith in
    ap (λ (r : List ℕ). y ∷ r) (longer n ys (omega arith) z ∙ ap (λ (k : ℕ). take n ys ++ replicate k 0) (sym e))
