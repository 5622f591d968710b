-- Ranges: how many bits are taken, and their value.
use mathlib.Core.Path.{◌≡◌, refl, ap}
use mathlib.Core.Bool.{Bool, true, false, not, ◌&&◌}
use Prim.Native.Nat.{ℕ, zero, suc, ◌+◌, ◌*◌, ◌/◌, ◌^◌, ◌<◌}
use native.Mathlib.Omega.{arith}
use lib.Dec.{ltb, eqb}
use native.Mathlib.Nat.{div-eq_of_lt, lt-mul-div-succ}
use lib.Pow.{pow_pos}
use borrow.Author.Tests.{ltb-true, ltb-false, eq-eqb, ne_eqb}
use Rattle.levels.proofs.Laws.{both}
use Rattle.clock_spec.specs.Phase.{few_bits, more_follows, accepted_phase, counts}
use Rattle.clock_spec.specs.declared.Chip.{Chip}
use Rattle.clock_spec.specs.declared.Phase.{Phase}
use Rattle.clock_spec.specs.declared.Phase.TheVariants.{Idle, Listening, Sending, Ignoring}

-- Seven bits at most are below 128.
small : (n v : ℕ) → n < 8 → v < 2 ^ n → v < 128
small zero v h l = omega arith
small (suc zero) v h l = omega arith
small (suc (suc zero)) v h l = omega arith
small (suc (suc (suc zero))) v h l = omega arith
small (suc (suc (suc (suc zero)))) v h l = omega arith
small (suc (suc (suc (suc (suc zero))))) v h l = omega arith
small (suc (suc (suc (suc (suc (suc zero)))))) v h l = omega arith
small (suc (suc (suc (suc (suc (suc (suc zero))))))) v h l = omega arith
small (suc (suc (suc (suc (suc (suc (suc (suc n)))))))) v h l = absurd (omega arith)

pub few-count : (n v : ℕ) → few_bits n v ≡ true → n < 8
few-count n v h = ltb-true n 8 (both (ltb n 8) (ltb v (2 ^ n)) h).0

pub few-value : (n v : ℕ) → few_bits n v ≡ true → v < 2 ^ n
few-value n v h = ltb-true v (2 ^ n) (both (ltb n 8) (ltb v (2 ^ n)) h).1

pub few-small : (n v : ℕ) → few_bits n v ≡ true → v < 128
few-small n v h = small n v (few-count n v h) (few-value n v h)

-- A number has no bit past the nth where it is below 2 ^ n.
pub below-shift : (n v : ℕ) → eqb (v / 2 ^ n) 0 ≡ ltb v (2 ^ n)
below-shift n v = go (ltb v (2 ^ n)) refl
  where
    go : (t : Bool) → ltb v (2 ^ n) ≡ t → eqb (v / 2 ^ n) 0 ≡ t
    go true h = eq-eqb _ _ (div-eq_of_lt (ltb-true v (2 ^ n) h))
    go false h = ne_eqb (v / 2 ^ n) 0 (λ z. omega (arith, lt-mul-div-succ v (pow_pos n), ap (λ (q : ℕ). 2 ^ n * (q + 1)) z, ltb-false v (2 ^ n) h))

-- An accepted phase has its counts in range.
pub accepted-counts : (k : Chip) (p : Phase) (e : Bool) → accepted_phase k p e ≡ true → counts p ≡ true
unfolding accepted_phase
accepted-counts k Idle e h = refl
accepted-counts k (Listening bs n v) e h =
    (both (more_follows k bs) (few_bits n v) (both (not e) (more_follows k bs && few_bits n v) h).1).1
accepted-counts k (Sending y n) e h = (both (not e) (ltb n 9) h).1
accepted-counts k Ignoring e h = refl
