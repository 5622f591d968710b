-- The law of one down counter: n ticks worked out from n. The free run and the latch are parameters, so it serves both timers.
use Rattle.std.proofs.Common.{◌≡◌, ℕ, zero, suc, ◌+◌, ◌-◌, ◌*◌, ◌/◌, ◌%◌, ◌<◌, ◌≤◌, Bool, true, false, ◌&&◌, ◌||◌, eqb, sym, refl, ap, ◌∙◌, ap₂, add-zero, add-suc, suc-mul, div-add-mod', zero-add, zero-mul, arith, ne_eqb}
use mathlib.Core.Bool.{and-true, and-false}
use Rattle.via_timer.specs.Timer.{step, steps, at}
use Rattle.via_timer.specs.declared.Counter.{Counter}

-- Waiting a ticks and then b is waiting a + b.
pub steps-add : (a b : ℕ) (free : Bool) (latch : ℕ) (c : Counter) → steps (a + b) free latch c ≡ steps b free latch (steps a free latch c)
unfolding steps
steps-add a zero free latch c = ap (λ (k : ℕ). steps k free latch c) (add-zero a)
steps-add a (suc b) free latch c =
    ap (λ (k : ℕ). steps k free latch c) (add-suc a b) ∙ ap (step free latch) (steps-add a b free latch c)

module _ (free : Bool) (latch : ℕ) where
  -- Counting down from n + k to k.
  pub down : (n k : ℕ) (armed fired : Bool) → steps n free latch (at (n + k) armed false fired) ≡ at k armed false fired
  unfolding steps
  down zero k armed fired = simp zero-add
  down (suc n) k armed fired =
      let e : suc n + k ≡ n + suc k = omega arith in
      let h : eqb (suc k) 0 ≡ false = ne_eqb (suc k) 0 (λ e. omega arith) in
      let m : suc k - 1 ≡ k = omega arith in
      simp (e, down n (suc k) armed fired, h, m)

  -- The passage.
  pub passed : (armed fired : Bool) → steps 1 free latch (at 0 armed false fired) ≡ at 65535 (armed && free) free (fired || armed)
  unfolding steps
  passed armed fired = refl

  -- A load that is due.
  pub loaded : (n : ℕ) (armed fired : Bool) → steps 1 free latch (at n armed true fired) ≡ at latch armed false fired
  unfolding steps
  loaded n armed fired = refl

  -- From c down and past 0.
  pub through : (c : ℕ) (armed fired : Bool) → steps (c + 1) free latch (at c armed false fired) ≡ at 65535 (armed && free) free (fired || armed)
  through c armed fired =
      steps-add c 1 free latch (at c armed false fired)
      ∙ ap (λ (k : ℕ). steps 1 free latch (steps c free latch (at k armed false fired))) (sym (add-zero c))
      ∙ ap (steps 1 free latch) (down c 0 armed fired)
      ∙ passed armed fired

  -- n ticks are those to the passage and the rest.
  pub after : (c n : ℕ) (armed fired : Bool) → c < n
      → steps n free latch (at c armed false fired) ≡ steps (n - c - 1) free latch (at 65535 (armed && free) free (fired || armed))
  after c n armed fired h =
      let e : n ≡ (c + 1) + (n - c - 1) = omega arith in
      ap (λ (k : ℕ). steps k free latch (at c armed false fired)) e
      ∙ steps-add (c + 1) (n - c - 1) free latch (at c armed false fired)
      ∙ ap (steps (n - c - 1) free latch) (through c armed fired)

  -- Before the passage.
  pub early : (c n : ℕ) (armed fired : Bool) → n ≤ c → steps n free latch (at c armed false fired) ≡ at (c - n) armed false fired
  early c n armed fired h =
      let e : c ≡ n + (c - n) = omega arith in
      ap (λ (k : ℕ). steps n free latch (at k armed false fired)) e ∙ down n (c - n) armed fired

-- One shot: after the passage the counter goes on falling from 65535.
pub once : (latch c n : ℕ) (armed fired : Bool) → c < n → n ≤ 65535
    → steps n false latch (at c armed false fired) ≡ at (65535 - (n - c - 1)) false false (fired || armed)
once latch c n armed fired h k =
    after false latch c n armed fired h
    ∙ ap (λ (a : Bool). steps (n - c - 1) false latch (at 65535 a false (fired || armed))) (and-false armed)
    ∙ early false latch 65535 (n - c - 1) false (fired || armed) (omega arith)

-- Free run: after a passage the first tick loads the latch.
pub start : (latch i : ℕ) (a f : Bool) → steps (1 + i) true latch (at 65535 a true f) ≡ steps i true latch (at latch a false f)
start latch i a f =
    steps-add 1 i true latch (at 65535 a true f) ∙ ap (steps i true latch) (loaded true latch 65535 a f)

-- The others count.
pub turning : (latch turn : ℕ) (a f : Bool) → (turn ≡ 0 → ⊥) → turn < latch + 2
    → steps turn true latch (at 65535 a true f) ≡ at (latch - (turn - 1)) a false f
turning latch turn a f z l =
    let e : turn ≡ 1 + (turn - 1) = omega (arith, z) in
    ap (λ (k : ℕ). steps k true latch (at 65535 a true f)) e
    ∙ start latch (turn - 1) a f
    ∙ early true latch latch (turn - 1) a f (omega (arith, z))

-- What a passage leaves comes again every latch + 2 ticks.
or-again : (f a : Bool) → ((f || a) || a) ≡ (f || a)
or-again true a = refl
or-again false true = refl
or-again false false = refl

module _ (latch : ℕ) (a f : Bool) where
  abbrev top : Counter
  top = at 65535 a true (f || a)

  cycle : steps (latch + 2) true latch top ≡ top
  cycle =
      let e : latch + 2 ≡ 1 + (latch + 1) = omega arith in
      ap (λ (k : ℕ). steps k true latch top) e
      ∙ start latch (latch + 1) a (f || a)
      ∙ through true latch latch a (f || a)
      ∙ ap₂ (λ (x y : Bool). at 65535 x true y) (and-true a) (or-again f a)

  pub cycles : (q : ℕ) → steps (q * (latch + 2)) true latch (at 65535 a true (f || a)) ≡ at 65535 a true (f || a)
  unfolding steps
  cycles zero = ap (λ (k : ℕ). steps k true latch top) (zero-mul (latch + 2))
  cycles (suc q) =
      ap (λ (k : ℕ). steps k true latch top) (suc-mul q (latch + 2))
      ∙ steps-add (q * (latch + 2)) (latch + 2) true latch top
      ∙ ap (steps (latch + 2) true latch) (cycles q)
      ∙ cycle

  -- Only the ticks since the last passage count.
  pub since : (c n : ℕ) → c < n
      → steps n true latch (at c a false f) ≡ steps ((n - c - 1) % (latch + 2)) true latch (at 65535 a true (f || a))
  since c n h =
      let m = n - c - 1 in
      after true latch c n a f h
      ∙ ap (λ (x : Bool). steps m true latch (at 65535 x true (f || a))) (and-true a)
      ∙ ap (λ (k : ℕ). steps k true latch top) (sym (div-add-mod' m (latch + 2)))
      ∙ steps-add (m / (latch + 2) * (latch + 2)) (m % (latch + 2)) true latch top
      ∙ ap (steps (m % (latch + 2)) true latch) (cycles (m / (latch + 2)))

-- From any state: a load that is due takes one tick.
pub undue : (c : Counter) → c.due ≡ false → c ≡ at c.value c.armed false c.fired
undue c e = ap (λ (d : Bool). at c.value c.armed d c.fired) e

pub load : (free : Bool) (latch : ℕ) (c : Counter) (n : ℕ) → c.due ≡ true → (n ≡ 0 → ⊥)
    → steps n free latch c ≡ steps (n - 1) free latch (at latch c.armed false c.fired)
load free latch c n e z =
    let m : n ≡ 1 + (n - 1) = omega (arith, z) in
    ap (λ (k : ℕ). steps k free latch c) m
    ∙ steps-add 1 (n - 1) free latch c
    ∙ ap (λ (d : Bool). steps (n - 1) free latch (steps 1 free latch (at c.value c.armed d c.fired))) e
    ∙ ap (steps (n - 1) free latch) (loaded free latch c.value c.armed c.fired)
