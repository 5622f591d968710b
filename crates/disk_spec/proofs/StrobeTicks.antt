-- The ticks of a strobe: in closed form, and waits add up.
use Prim.Native.Nat.{ℕ, zero, suc, ◌+◌, ◌-◌, ◌≤◌, ◌<◌}
use mathlib.Core.Path.{◌≡◌, refl, sym, ap, ◌∙◌}
use mathlib.Core.Bool.{Bool, true, false}
use native.Mathlib.Nat.{add-zero, add-suc}
use native.Mathlib.Omega.{arith}
use borrow.Author.Tests.{lt-ltb, le-ltb, leb-true, leb-false}
use lib.Dec.{ltb, leb}
use Rattle.std.proofs.Math.Nat.{min-eq_left, min-eq_right}
use Rattle.std.specs.Prelude.{min}
use Rattle.disk_spec.specs.Strobe.{with_ticks, strobe_tick_by, tick_strobe, strobe_ticks}
use Rattle.disk_spec.specs.declared.Strobe.{Strobe}

-- ---- waiting a ticks and then b, for all whole numbers
pub strobe_ticks-add : (a b : ℕ) (s : Strobe) → strobe_ticks (a + b) s ≡ strobe_ticks b (strobe_ticks a s)
unfolding strobe_ticks
strobe_ticks-add a zero s = ap (λ (k : ℕ). strobe_ticks k s) (add-zero a)
strobe_ticks-add a (suc b) s = ap (λ (k : ℕ). strobe_ticks k s) (add-suc a b) ∙ ap tick_strobe (strobe_ticks-add a b s)

-- ---- the ticks in closed form

-- A strobe that is off or spoilt stays so.
pub unsteady : (n : ℕ) (s : Strobe) → s.steady ≡ false → strobe_ticks n s ≡ s
unfolding strobe_ticks tick_strobe
unsteady zero s e = refl
unsteady (suc n) s e = ap tick_strobe (unsteady n s e) ∙ ap (λ (b : Bool). strobe_tick_by b (ltb s.ticks 391680) s) e

full-tick : (steady : Bool) (s : Strobe) → strobe_tick_by steady false s ≡ s
full-tick true s = refl
full-tick false s = refl

-- A count of 391,680 or more stays.
pub full : (n : ℕ) (s : Strobe) → 391680 ≤ s.ticks → strobe_ticks n s ≡ s
unfolding strobe_ticks tick_strobe
full zero s h = refl
full (suc n) s h =
    ap tick_strobe (full n s h)
    ∙ ap (λ (b : Bool). strobe_tick_by s.steady b s) (le-ltb s.ticks 391680 h)
    ∙ full-tick s.steady s

-- Up to 391,680 each tick counts.
pub counts : (n : ℕ) (s : Strobe) → s.steady ≡ true → s.ticks + n ≤ 391680 → strobe_ticks n s ≡ with_ticks s (s.ticks + n)
unfolding strobe_ticks tick_strobe
counts zero s e h = ap (with_ticks s) (sym (add-zero s.ticks))
counts (suc n) s e h =
    let l : ltb (s.ticks + n) 391680 ≡ true = lt-ltb (s.ticks + n) 391680 (omega arith) in
    let m : s.ticks + n + 1 ≡ s.ticks + suc n = omega arith in
    ap tick_strobe (counts n s e (omega arith))
    ∙ ap (λ (b : Bool). strobe_tick_by b (ltb (s.ticks + n) 391680) (with_ticks s (s.ticks + n))) e
    ∙ ap (λ (b : Bool). strobe_tick_by true b (with_ticks s (s.ticks + n))) l
    ∙ ap (with_ticks s) m

-- Past that it stops there.
pub stops : (n : ℕ) (s : Strobe) → s.steady ≡ true → s.ticks < 391680 → 391680 ≤ s.ticks + n → strobe_ticks n s ≡ with_ticks s 391680
stops n s e l h =
    let a = 391680 - s.ticks in
    let r = n - a in
    let k : n ≡ a + r = omega arith in
    let m : s.ticks + a ≡ 391680 = omega arith in
    ap (λ (i : ℕ). strobe_ticks i s) k
    ∙ strobe_ticks-add a r s
    ∙ ap (strobe_ticks r) (counts a s e (omega arith) ∙ ap (with_ticks s) m)
    ∙ full r (with_ticks s 391680) (omega arith)

-- All of them at once: a count that still grows ends at 391,680 at most, and any other strobe stays as it is.
pub capped : (n : ℕ) (s : Strobe) → s.steady ≡ true → s.ticks < 391680 → strobe_ticks n s ≡ with_ticks s (min 391680 (s.ticks + n))
capped n s e l = by_test (leb (s.ticks + n) 391680) refl
  where
    by_test : (b : Bool) → leb (s.ticks + n) 391680 ≡ b → strobe_ticks n s ≡ with_ticks s (min 391680 (s.ticks + n))
    by_test true h =
        let k : s.ticks + n ≤ 391680 = leb-true (s.ticks + n) 391680 h in
        counts n s e k ∙ ap (with_ticks s) (sym (min-eq_right k))
    by_test false h =
        let k : 391680 ≤ s.ticks + n = omega (arith, leb-false (s.ticks + n) 391680 h) in
        stops n s e l k ∙ ap (with_ticks s) (sym (min-eq_left k))
