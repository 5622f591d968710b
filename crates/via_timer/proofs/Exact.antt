-- Document 01: "an armed T1 loaded with N raises its flag exactly N+1 ticks later .. and in free run every N+2 ticks after",
-- of one counter.
use Rattle.std.proofs.Common.{◌≡◌, ℕ, zero, suc, ◌+◌, ◌-◌, ◌*◌, Bool, true, false, ◌&&◌, ◌||◌, eqb, ltb, sym, refl, ap, ◌∙◌, add-one, one-add, arith, ltb-false, ltb-true, le-ltb}
use mathlib.Core.Bool.{or-false}
use lib.Dec.{leb-suc-suc}
use Rattle.via_timer.specs.Timer.{step_by, steps, at}
use Rattle.via_timer.specs.declared.Counter.{Counter}
use Rattle.via_timer.proofs.Closed.{steps-add, through, after, early, start, cycles}

-- What has fired stays so.
stays_by : (d z free : Bool) (latch : ℕ) (c : Counter) → c.fired ≡ true → (step_by d z free latch c).fired ≡ true
stays_by true z free latch c e = e
stays_by false true free latch c e = ap (λ (x : Bool). x || c.armed) e
stays_by false false free latch c e = e

stays : (n : ℕ) (free : Bool) (latch : ℕ) (c : Counter) → c.fired ≡ true → (steps n free latch c).fired ≡ true
unfolding steps
stays zero free latch c e = e
stays (suc n) free latch c e =
    let b = steps n free latch c in
    stays_by b.due (eqb b.value 0) free latch b (stays n free latch c e)

-- "an armed T1 loaded with N raises its flag exactly N+1 ticks later": after n ticks it has fired exactly where N is below n.
pub exactly : (free : Bool) (latch loaded n : ℕ) → (steps n free latch (at loaded true false false)).fired ≡ ltb loaded n
exactly free latch loaded n = go (ltb loaded n) refl
  where
    go : (t : Bool) → ltb loaded n ≡ t → (steps n free latch (at loaded true false false)).fired ≡ t
    go true e =
        ap (λ (x : Counter). x.fired) (after free latch loaded n true false (ltb-true loaded n e))
        ∙ stays (n - loaded - 1) free latch (at 65535 (true && free) free true) refl
    go false e = ap (λ (x : Counter). x.fired) (early free latch loaded n true false (ltb-false loaded n e))

-- "and in free run every N+2 ticks after": every passage, N+1 ticks after the load and N+2 after each other, leaves the same.
pub passages : (latch q : ℕ) → steps (latch + 1 + q * (latch + 2)) true latch (at latch true false false) ≡ at 65535 true true true
passages latch q =
    steps-add (latch + 1) (q * (latch + 2)) true latch (at latch true false false)
    ∙ ap (steps (q * (latch + 2)) true latch) (through true latch latch true false)
    ∙ cycles latch true false q

-- And n ticks after one, its firing forgotten, it has fired again exactly where N+1 is below n.
pub again : (latch n : ℕ) → (steps n true latch (at 65535 true true false)).fired ≡ ltb (latch + 1) n
unfolding steps
again latch zero = sym (le-ltb (latch + 1) 0 (omega arith))
again latch (suc n) =
    ap (λ (k : ℕ). (steps k true latch (at 65535 true true false)).fired) (sym (one-add n))
    ∙ ap (λ (x : Counter). x.fired) (start latch n true false)
    ∙ exactly true latch latch n
    ∙ sym (leb-suc-suc (suc latch) n)
    ∙ ap (λ (k : ℕ). ltb k (suc n)) (sym (add-one latch))

-- A counter that is not armed stays so, and does not fire.
unarmed-by : (d z free : Bool) (latch : ℕ) (c : Counter) → c.armed ≡ false
    → ((step_by d z free latch c).armed ≡ false) × ((step_by d z free latch c).fired ≡ c.fired)
unarmed-by true z free latch c e = (e, refl)
unarmed-by false true free latch c e =
    (ap (λ (x : Bool). x && free) e, ap (λ (x : Bool). c.fired || x) e ∙ or-false c.fired)
unarmed-by false false free latch c e = (e, refl)

pub unarmed : (n : ℕ) (free : Bool) (latch : ℕ) (c : Counter) → c.armed ≡ false
    → ((steps n free latch c).armed ≡ false) × ((steps n free latch c).fired ≡ c.fired)
unfolding steps
unarmed zero free latch c e = (e, refl)
unarmed (suc n) free latch c e =
    let b = steps n free latch c in
    let h = unarmed n free latch c e in
    let k = unarmed-by b.due (eqb b.value 0) free latch b h.0 in
    (k.0, k.1 ∙ h.1)
