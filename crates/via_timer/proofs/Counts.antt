-- When a counter fires, its ticks counted in two parts: W ticks after its load, whatever was made of its firing meanwhile, w ticks more.
use Rattle.std.proofs.Common.{◌≡◌, ℕ, zero, suc, ◌+◌, ◌-◌, ◌*◌, ◌/◌, ◌%◌, ◌<◌, ◌≤◌, Bool, true, false, ◌&&◌, ltb, leb, sym, refl, ap, ◌∙◌, add_assoc, mod-lt, mod-eq_of_lt, div-add-mod', arith, ltb-false, ltb-true, lt-ltb, leb-false, leb-true}
use native.Mathlib.Nat.{div-eq_of_lt, mul-add-div_right, add-div_right, add-mod_right}
use Rattle.via_timer.specs.Timer.{steps, at}
use Rattle.via_timer.specs.declared.Counter.{Counter}
use Rattle.via_timer.proofs.Closed.{after, early, turning, since}
use Rattle.via_timer.proofs.Exact.{exactly, again, unarmed}

-- A counter whose firing is forgotten.
abbrev pub unfired : Counter → Counter
unfired c = at c.value c.armed c.due false

-- ---- arithmetic
-- Two tests that say the same.
same : (a b c d : ℕ) → (a < b → c ≤ d) → (c ≤ d → a < b) → ltb a b ≡ leb c d
same a b c d f g = go (leb c d) refl
  where
    go : (t : Bool) → leb c d ≡ t → ltb a b ≡ t
    go true e = lt-ltb a b (g (leb-true c d e))
    go false e = back (ltb a b) refl
      where
        back : (t : Bool) → ltb a b ≡ t → t ≡ false
        back true q = absurd (omega (arith, f (ltb-true a b q), leb-false c d e))
        back false q = refl

-- A quotient grows by w more exactly where the remainder and w reach the divisor.
quotient : (p x w : ℕ) → 0 < p → (x + w) / p ≡ x / p + (x % p + w) / p
quotient p x w h =
    ap (λ (k : ℕ). (k + w) / p) (sym (div-add-mod' x p))
    ∙ ap (λ (k : ℕ). k / p) (add_assoc (x / p * p) (x % p) w)
    ∙ mul-add-div_right h (x / p) (x % p + w)

whole : (p y : ℕ) → 0 < p → p ≤ y → 0 < y / p
whole p y h l =
    let e : y ≡ (y - p) + p = omega arith in
    let d : y / p ≡ (y - p) / p + 1 = ap (λ (k : ℕ). k / p) e ∙ add-div_right (y - p) h in
    omega (arith, d)

grows : (p x w : ℕ) → 0 < p → ltb (x / p) ((x + w) / p) ≡ leb p (x % p + w)
grows p x w h =
    let y = x % p + w in
    ap (ltb (x / p)) (quotient p x w h)
    ∙ same (x / p) (x / p + y / p) p y (λ l. reach (leb p y) refl l) (λ l. omega (arith, whole p y h l))
  where
    reach : (t : Bool) → leb p (x % p + w) ≡ t → x / p < x / p + (x % p + w) / p → p ≤ x % p + w
    reach true e l = leb-true p (x % p + w) e
    reach false e l = absurd (omega (arith, div-eq_of_lt (leb-false p (x % p + w) e)))

-- ---- one shot
-- It fires once, N+1 ticks after the load.
pub fires-once : (latch N W w : ℕ) → (steps w false latch (unfired (steps W false latch (at N true false false)))).fired ≡ (leb W N && ltb N (W + w))
fires-once latch N W w = go (leb W N) refl
  where
    go : (t : Bool) → leb W N ≡ t → (steps w false latch (unfired (steps W false latch (at N true false false)))).fired ≡ (t && ltb N (W + w))
    go true e =
        let l : W ≤ N = leb-true W N e in
        ap (λ (c : Counter). (steps w false latch (unfired c)).fired) (early false latch N W true false l)
        ∙ exactly false latch (N - W) w
        ∙ same (N - W) w (suc N) (W + w) (λ h. omega arith) (λ h. omega arith)
    go false e =
        let l : N < W = leb-false W N e in
        let c : Counter = at 65535 false false true in
        ap (λ (x : Counter). (steps w false latch (unfired x)).fired) (after false latch N W true false l)
        ∙ (unarmed w false latch (unfired (steps (W - N - 1) false latch c)) (unarmed (W - N - 1) false latch c refl).0).1

-- ---- free run
-- t ticks after a passage, t below N+2.
within : (N t w : ℕ) → t < N + 2 → (steps w true N (unfired (steps t true N (at 65535 true true true)))).fired ≡ leb (N + 2) (t + w)
unfolding steps
within N zero w h = again N w ∙ same (N + 1) w (N + 2) (zero + w) (λ l. omega arith) (λ l. omega arith)
within N (suc t) w h =
    ap (λ (c : Counter). (steps w true N (unfired c)).fired) (turning N (suc t) true true (λ e. omega arith) h)
    ∙ exactly true N (N - (suc t - 1)) w
    ∙ same (N - (suc t - 1)) w (N + 2) (suc t + w) (λ l. omega arith) (λ l. omega arith)

-- It fires N+1 ticks after the load and every N+2 ticks after: n ticks have (n + 1) / (N + 2) passages.
pub fires-free : (N W w : ℕ) → (steps w true N (unfired (steps W true N (at N true false false)))).fired ≡ ltb ((W + 1) / (N + 2)) ((W + w + 1) / (N + 2))
fires-free N W w =
    go (ltb N W) refl
    ∙ sym (grows (N + 2) (W + 1) w (omega arith))
    ∙ ap (λ (k : ℕ). ltb ((W + 1) / (N + 2)) (k / (N + 2))) (omega arith)
  where
    go : (t : Bool) → ltb N W ≡ t → (steps w true N (unfired (steps W true N (at N true false false)))).fired ≡ leb (N + 2) ((W + 1) % (N + 2) + w)
    go true e =
        let l : N < W = ltb-true N W e in
        let q : W + 1 ≡ (W - N - 1) + (N + 2) = omega arith in
        let r : (W + 1) % (N + 2) ≡ (W - N - 1) % (N + 2) = ap (λ (k : ℕ). k % (N + 2)) q ∙ add-mod_right (W - N - 1) (N + 2) in
        ap (λ (c : Counter). (steps w true N (unfired c)).fired) (since N true false N W l)
        ∙ within N ((W - N - 1) % (N + 2)) w (mod-lt (W - N - 1) (omega arith))
        ∙ ap (λ (k : ℕ). leb (N + 2) (k + w)) (sym r)
    go false e =
        let l : W ≤ N = ltb-false N W e in
        let r : (W + 1) % (N + 2) ≡ W + 1 = mod-eq_of_lt (omega arith) in
        ap (λ (c : Counter). (steps w true N (unfired c)).fired) (early true N N W true false l)
        ∙ exactly true N (N - W) w
        ∙ same (N - W) w (N + 2) ((W + 1) + w) (λ h. omega arith) (λ h. omega arith)
        ∙ ap (λ (k : ℕ). leb (N + 2) (k + w)) (sym r)
