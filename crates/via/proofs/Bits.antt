-- What `&`, `|` and `!` mean bit by bit, once for ports, flags and enables.
use mathlib.Core.Path.{◌≡◌, refl, sym, ap, ap₂, ◌∙◌}
use mathlib.Core.Bool.{Bool, true, false, cond, not, ◌&&◌, ◌||◌}
use Prim.Native.Nat.{ℕ, zero, suc, ◌+◌, ◌-◌, ◌*◌, ◌/◌, ◌%◌, ◌^◌, ◌≤◌, ◌<◌, min, max, suc-le-suc}
use native.Mathlib.Nat.{min-le_left, le_trans, le_of_suc-le-suc, not-suc-le-zero, zero-lt-suc, mod-one, mul_comm, pow-suc}
use native.Mathlib.Omega.{arith}
use lib.Arith.{digits_mod, mod-mul}
use lib.Pow.{pow_pos}
use lib.Dec.{eqb}
use borrow.Author.Tests.{eqb-true, eqb-false}
use lib.Bits.{bit_and, bit_or, and_step, and_shr, or_shr, and_mask}
use Rattle.via_bits.specs.Bytes.{bit, clear}
use Rattle.via.specs.Via.{port_level}
use Rattle.via_bits.proofs.Or.{low, or-odd}

and-odd : (a b : ℕ) → bit_and a b % 2 ≡ min (a % 2) (b % 2)
and-odd a b =
    ap (λ (x : ℕ). x % 2) (and_step a b)
    ∙ digits_mod (bit_and (a / 2) (b / 2)) (suc-le-suc (le_trans (min-le_left (a % 2) (b % 2)) (low a)))

both : (x y : ℕ) → x ≤ 1 → y ≤ 1 → eqb (min x y) 1 ≡ (eqb x 1 && eqb y 1)
both zero zero h k = refl
both zero (suc zero) h k = refl
both (suc zero) zero h k = refl
both (suc zero) (suc zero) h k = refl
both zero (suc (suc y)) h k = absurd (not-suc-le-zero (le_of_suc-le-suc k))
both (suc zero) (suc (suc y)) h k = absurd (not-suc-le-zero (le_of_suc-le-suc k))
both (suc (suc x)) y h k = absurd (not-suc-le-zero (le_of_suc-le-suc h))

either : (x y : ℕ) → x ≤ 1 → y ≤ 1 → eqb (max x y) 1 ≡ (eqb x 1 || eqb y 1)
either zero zero h k = refl
either zero (suc zero) h k = refl
either (suc zero) zero h k = refl
either (suc zero) (suc zero) h k = refl
either zero (suc (suc y)) h k = absurd (not-suc-le-zero (le_of_suc-le-suc k))
either (suc zero) (suc (suc y)) h k = absurd (not-suc-le-zero (le_of_suc-le-suc k))
either (suc (suc x)) y h k = absurd (not-suc-le-zero (le_of_suc-le-suc h))

pub and-bit : (k a b : ℕ) → bit k (bit_and a b) ≡ (bit k a && bit k b)
and-bit k a b =
    ap (λ (x : ℕ). eqb (x % 2) 1) (and_shr a b k)
    ∙ ap (λ (x : ℕ). eqb x 1) (and-odd (a / 2 ^ k) (b / 2 ^ k))
    ∙ both (a / 2 ^ k % 2) (b / 2 ^ k % 2) (low (a / 2 ^ k)) (low (b / 2 ^ k))

pub or-bit : (k a b : ℕ) → bit k (bit_or a b) ≡ (bit k a || bit k b)
or-bit k a b =
    ap (λ (x : ℕ). eqb (x % 2) 1) (or_shr a b k)
    ∙ ap (λ (x : ℕ). eqb x 1) (or-odd (a / 2 ^ k) (b / 2 ^ k))
    ∙ either (a / 2 ^ k % 2) (b / 2 ^ k % 2) (low (a / 2 ^ k)) (low (b / 2 ^ k))

-- a byte's complement
other : (x y : ℕ) → x + y ≡ 1 → eqb x 1 ≡ not (eqb y 1)
other zero (suc zero) h = refl
other (suc zero) zero h = refl
other zero zero h = absurd (omega arith)
other zero (suc (suc y)) h = absurd (omega arith)
other (suc zero) (suc y) h = absurd (omega arith)
other (suc (suc x)) y h = absurd (omega arith)

flip : (k a : ℕ) → k < 8 → a < 256 → (255 - a) / 2 ^ k % 2 + a / 2 ^ k % 2 ≡ 1
flip zero a h l = omega arith
flip (suc zero) a h l = omega arith
flip (suc (suc zero)) a h l = omega arith
flip (suc (suc (suc zero))) a h l = omega arith
flip (suc (suc (suc (suc zero)))) a h l = omega arith
flip (suc (suc (suc (suc (suc zero))))) a h l = omega arith
flip (suc (suc (suc (suc (suc (suc zero)))))) a h l = omega arith
flip (suc (suc (suc (suc (suc (suc (suc zero))))))) a h l = omega arith
flip (suc (suc (suc (suc (suc (suc (suc (suc k)))))))) a h l = absurd (omega arith)

pub not-bit : (k a : ℕ) → k < 8 → a < 256 → bit k (255 - a) ≡ not (bit k a)
not-bit k a h l = other ((255 - a) / 2 ^ k % 2) (a / 2 ^ k % 2) (flip k a h l)

-- what is cleared
pub clear-bit : (k a m : ℕ) → k < 8 → m < 256 → bit k (clear a m) ≡ (bit k a && not (bit k m))
clear-bit k a m h l = and-bit k a (255 - m) ∙ ap (λ (x : Bool). bit k a && x) (not-bit k m h l)

choose : (d o i : Bool) → (o && d || i && not d) ≡ cond d o i
choose true true true = refl
choose true true false = refl
choose true false true = refl
choose true false false = refl
choose false true true = refl
choose false true false = refl
choose false false true = refl
choose false false false = refl

-- a port bit is the output bit where its direction is 1, else the input
pub port-bit : (k out dir input : ℕ) → k < 8 → dir < 256 → bit k (port_level out dir input) ≡ cond (bit k dir) (bit k out) (bit k input)
unfolding port_level
port-bit k out dir input h l =
    or-bit k (bit_and out dir) (clear input dir)
    ∙ ap₂ (λ (x y : Bool). x || y) (and-bit k out dir) (clear-bit k input dir h l)
    ∙ choose (bit k dir) (bit k out) (bit k input)

-- ---- the level: an enabled flag is set
loud : (k y : ℕ) → k < 7 → y / 2 ^ k % 2 ≡ 1 → y % 128 ≡ 0 → ⊥
loud zero y h e z = omega arith
loud (suc zero) y h e z = omega arith
loud (suc (suc zero)) y h e z = omega arith
loud (suc (suc (suc zero))) y h e z = omega arith
loud (suc (suc (suc (suc zero)))) y h e z = omega arith
loud (suc (suc (suc (suc (suc zero))))) y h e z = omega arith
loud (suc (suc (suc (suc (suc (suc zero)))))) y h e z = omega arith
loud (suc (suc (suc (suc (suc (suc (suc k))))))) y h e z = absurd (omega arith)

digit : (k y : ℕ) → bit k y ≡ false → y / 2 ^ k % 2 ≡ 0
digit k y e = go (y / 2 ^ k % 2) (low (y / 2 ^ k)) (eqb-false (y / 2 ^ k % 2) 1 e)
  where
    go : (x : ℕ) → x ≤ 1 → (x ≡ 1 → ⊥) → x ≡ 0
    go zero h n = refl
    go (suc zero) h n = absurd (n refl)
    go (suc (suc x)) h n = absurd (omega arith)

quiet : (n y : ℕ) → ((k : ℕ) → k < n → y / 2 ^ k % 2 ≡ 0) → y % 2 ^ n ≡ 0
quiet zero y d = mod-one y
quiet (suc n) y d =
    ap (λ (x : ℕ). y % x) (pow-suc 2 n ∙ mul_comm (2 ^ n) 2)
    ∙ mod-mul y {m = 2} {c = 2 ^ n} (zero-lt-suc 1) (pow_pos n)
    ∙ ap₂ (λ (x z : ℕ). x * 2 ^ n + z) (d n (omega arith)) (quiet n y (λ k h. d k (omega arith)))
    ∙ omega arith

-- one enabled flag that is set makes the test pass, and without one it fails
pub asked : (k f e : ℕ) → k < 7 → bit k f ≡ true → bit k e ≡ true → bit_and (bit_and f e) 127 ≡ 0 → ⊥
asked k f e h p q z =
    loud k (bit_and f e) h (eqb-true (bit_and f e / 2 ^ k % 2) 1 (and-bit k f e ∙ ap₂ (λ (x y : Bool). x && y) p q)) (sym (and_mask (bit_and f e) 7) ∙ z)

pub unasked : (f e : ℕ) → ((k : ℕ) → k < 7 → (bit k f && bit k e) ≡ false) → bit_and (bit_and f e) 127 ≡ 0
unasked f e n =
    let y = bit_and f e in
    let d : (k : ℕ) → k < 7 → y / 2 ^ k % 2 ≡ 0 = λ k h. digit k y (and-bit k f e ∙ n k h) in
    and_mask y 7 ∙ quiet 7 y d

-- ---- bits 0 to 6 of a byte
pub low_bit : (k x : ℕ) → k < 7 → bit k (x % 128) ≡ bit k x
low_bit k x h = ap (λ (y : ℕ). eqb y 1) (go k h)
  where
    go : (k : ℕ) → k < 7 → x % 128 / 2 ^ k % 2 ≡ x / 2 ^ k % 2
    go zero h = omega arith
    go (suc zero) h = omega arith
    go (suc (suc zero)) h = omega arith
    go (suc (suc (suc zero))) h = omega arith
    go (suc (suc (suc (suc zero)))) h = omega arith
    go (suc (suc (suc (suc (suc zero))))) h = omega arith
    go (suc (suc (suc (suc (suc (suc zero)))))) h = omega arith
    go (suc (suc (suc (suc (suc (suc (suc k))))))) h = absurd (omega arith)
