-- Laws of line levels.
use Prim.Native.Nat.{ℕ, zero, suc, ◌<◌}
use mathlib.Core.Path.{◌≡◌, refl, sym, subst}
use mathlib.Core.Bool.{Bool, true, false, ◌&&◌}
use mathlib.Core.List.{List, [], ◌∷◌}
use lib.Dec.{ltb, T}
use lib.ListN.{get_or, set}
use native.Mathlib.Omega.{arith}
use borrow.Author.Tests.{lt-ltb, ltb-true}
use Rattle.levels.specs.Levels.{all_below, all_levels}

pub no : {X : Type 0} → false ≡ true → X
no h = absurd (subst T (sym h) tt)

-- Both parts of a conjunction that is true.
pub both : (a b : Bool) → (a && b) ≡ true → (a ≡ true) × (b ≡ true)
both true b h = (refl, h)
both false b h = (h, no h)

pub joined : (a b : Bool) → a ≡ true → b ≡ true → (a && b) ≡ true
joined true b h k = k
joined false b h k = h

-- A level put into a list of levels.
pub set-levels : (s : List ℕ) (i v : ℕ) → all_levels s ≡ true → v < 2 → all_levels (set s i v) ≡ true
unfolding all_below
set-levels [] i v h l = h
set-levels (x ∷ xs) zero v h l = joined (ltb v 2) (all_levels xs) (lt-ltb v 2 l) (both (ltb x 2) (all_levels xs) h).1
set-levels (x ∷ xs) (suc i) v h l =
    let p = both (ltb x 2) (all_levels xs) h in
    joined (ltb x 2) (all_levels (set xs i v)) p.0 (set-levels xs i v p.1 l)

-- Every place of a list of levels holds one, and so does a place past its end.
pub level-at : (s : List ℕ) (i : ℕ) → all_levels s ≡ true → get_or s i 0 < 2
unfolding all_below
level-at [] i h = omega arith
level-at (x ∷ xs) zero h = ltb-true x 2 (both (ltb x 2) (all_levels xs) h).0
level-at (x ∷ xs) (suc i) h = level-at xs i (both (ltb x 2) (all_levels xs) h).1
