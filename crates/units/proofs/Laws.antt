-- Laws of the turn from microseconds to VIA ticks.
use Prim.Native.Nat.{ℕ, ◌+◌, ◌*◌, ◌/◌, ◌%◌, ◌≤◌}
use mathlib.Core.Path.{◌≡◌, refl}
use mathlib.Core.Bool.{Bool, true, false, cond}
use native.Mathlib.Omega.{arith}
use borrow.Author.Tests.{eqb-true, eqb-false}
use lib.Dec.{eqb}
use Rattle.units.specs.Units.{ticks_of}

-- Rounded up: the ticks are as long as the microseconds, and no fewer ticks are.
up_by : (left : Bool) (a : ℕ) → eqb (a % 1000000) 0 ≡ left
    → (a ≤ cond left (a / 1000000) (a / 1000000 + 1) * 1000000)
    × ((t : ℕ) → a ≤ t * 1000000 → cond left (a / 1000000) (a / 1000000 + 1) ≤ t)
up_by true a e = let z : a % 1000000 ≡ 0 = eqb-true (a % 1000000) 0 e in (omega arith, λ t h. omega arith)
up_by false a e = let z : (a % 1000000 ≡ 0 → ⊥) = eqb-false (a % 1000000) 0 e in (omega (arith, z), λ t h. omega (arith, z))

pub least : (micros : ℕ)
    → (micros * 783360 ≤ ticks_of micros * 1000000) × ((t : ℕ) → micros * 783360 ≤ t * 1000000 → ticks_of micros ≤ t)
unfolding ticks_of
least micros = up_by (eqb (micros * 783360 % 1000000) 0) (micros * 783360) refl

-- 12 milliseconds, half a second, the least and the greatest count of 32 bits.
pub examples : (ticks_of 0 ≡ 0) × (ticks_of 1 ≡ 1) × (ticks_of 12000 ≡ 9401) × (ticks_of 500000 ≡ 391680) × (ticks_of 4294967295 ≡ 3364505581)
unfolding ticks_of
examples = (refl, refl, refl, refl, refl)
