-- W-205: "Levels 3 and 7 never appear."
use Prim.Native.Nat.{ℕ, ◌+◌, ◌*◌, ◌<◌}
use mathlib.Core.Path.{◌≡◌, refl}
use mathlib.Core.Bool.{Bool, true, false, cond}
use native.Mathlib.Omega.{arith}
use lib.Dec.{eqb}
use borrow.Author.Tests.{eqb-true, eqb-false}
use Rattle.machine_spec.specs.Wiring.{interrupt_level}

pub never : (via serial switch : ℕ) → via < 2 → serial < 2 → switch < 2
    → (interrupt_level via serial switch ≡ 3 → ⊥) × (interrupt_level via serial switch ≡ 7 → ⊥)
unfolding interrupt_level
never via serial switch v s w = go (eqb serial 0) refl
  where
    go : (t : Bool) → eqb serial 0 ≡ t
        → (4 * switch + 2 * serial + cond t via 0 ≡ 3 → ⊥) × (4 * switch + 2 * serial + cond t via 0 ≡ 7 → ⊥)
    go true e = let z = eqb-true serial 0 e in (λ (q : 4 * switch + 2 * serial + via ≡ 3). omega arith, λ (q : 4 * switch + 2 * serial + via ≡ 7). omega arith)
    go false e = (λ (q : 4 * switch + 2 * serial + 0 ≡ 3). omega arith, λ (q : 4 * switch + 2 * serial + 0 ≡ 7). omega arith)
