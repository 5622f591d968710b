-- n ticks of the VIA are n ticks of each timer, with the flags that they raised.
use mathlib.Core.Path.{◌≡◌, refl, sym, ap, ap₂, ◌∙◌}
use mathlib.Core.Bool.{Bool, true, false, cond, not, ◌&&◌, ◌||◌, or-false}
use Prim.Native.Nat.{ℕ, zero, suc, ◌+◌, ◌-◌, ◌≤◌}
use native.Mathlib.Nat.{add-zero, add-suc}
use lib.Dec.{eqb, leb}
use borrow.Author.Tests.{leb-true}
use Rattle.via_timer.proofs.Closed.{early}
use lib.Bits.{bit_or, or_zero_r}
use Rattle.levels.proofs.Laws.{both}
use Rattle.via_bits.proofs.Or.{or_assoc}
use Rattle.via_timer.specs.Timer.{at, step_by, step, steps}
use Rattle.via_timer.specs.declared.Counter.{Counter}
use Rattle.via_timer.proofs.Counts.{unfired}
use Rattle.via.specs.Setters.{with_counter1, with_due1, with_counter2, with_armed2, with_t1, with_t2, with_flags}
use Rattle.via_bits.specs.Bytes.{bit}
use Rattle.via.specs.Via.{latch_of, counter1, counter2, with_counters, tick_of, ticks, only_counts, reset_of}
use Rattle.via.specs.declared.Timer2.{Timer2}
use Rattle.via.specs.declared.Via.{Via}

-- waiting a ticks and then b, for all whole numbers
pub ticks-add : (a b : ℕ) (v : Via) → ticks (a + b) v ≡ ticks b (ticks a v)
unfolding ticks
ticks-add a zero v = ap (λ (k : ℕ). ticks k v) (add-zero a)
ticks-add a (suc b) v = ap (λ (k : ℕ). ticks k v) (add-suc a b) ∙ ap tick_of (ticks-add a b v)

-- ---- the flags that two waits raise
or4 : (f a b c d : ℕ) → bit_or (bit_or (bit_or (bit_or f a) b) c) d ≡ bit_or f (bit_or a (bit_or b (bit_or c d)))
or4 f a b c d = simp or_assoc

raised : (f : ℕ) (a b c d : Bool)
    → bit_or (bit_or (bit_or (bit_or f (cond a 64 0)) (cond b 32 0)) (cond c 64 0)) (cond d 32 0)
    ≡ bit_or (bit_or f (cond (a || c) 64 0)) (cond (b || d) 32 0)
raised f a b c d =
    or4 f (cond a 64 0) (cond b 32 0) (cond c 64 0) (cond d 32 0)
    ∙ ap (bit_or f) (merged a b c d)
    ∙ sym (or_assoc f (cond (a || c) 64 0) (cond (b || d) 32 0))
  where
    merged : (a b c d : Bool)
        → bit_or (cond a 64 0) (bit_or (cond b 32 0) (bit_or (cond c 64 0) (cond d 32 0)))
        ≡ bit_or (cond (a || c) 64 0) (cond (b || d) 32 0)
    merged true true true true = refl
    merged true true true false = refl
    merged true true false true = refl
    merged true true false false = refl
    merged true false true true = refl
    merged true false true false = refl
    merged true false false true = refl
    merged true false false false = refl
    merged false true true true = refl
    merged false true true false = refl
    merged false true false true = refl
    merged false true false false = refl
    merged false false true true = refl
    merged false false true false = refl
    merged false false false true = refl
    merged false false false false = refl

-- ---- a count that goes on from another: what has fired stays so
abbrev joined : Counter → Counter → Counter
joined a b = at b.value b.armed b.due (a.fired || b.fired)

joined_by : (d z free : Bool) (latch : ℕ) (a : Counter) → joined a (step_by d z free latch (unfired a)) ≡ step_by d z free latch a
joined_by true z free latch a = simp or-false
joined_by false true free latch a = refl
joined_by false false free latch a = simp or-false

joined_step : (free : Bool) (latch : ℕ) (a : Counter) → joined a (step free latch (unfired a)) ≡ step free latch a
joined_step free latch a = joined_by a.due (eqb a.value 0) free latch a

-- a timer in one shot has no load due after a tick
never-due-by : (d z : Bool) (latch : ℕ) (c : Counter) → (step_by d z false latch c).due ≡ false
never-due-by true z latch c = refl
never-due-by false true latch c = refl
never-due-by false false latch c = refl

never-due : (n : ℕ) (t : Timer2) → (steps n false 0 (counter2 t)).due ≡ false
unfolding steps
never-due zero t = refl
never-due (suc n) t =
    let c = steps n false 0 (counter2 t) in
    never-due-by c.due (eqb c.value 0) 0 c

-- ---- the VIA after one pair of counts and then another
settle-more : (v : Via) (a b a' b' : Counter) → with_counters (with_counters v a b) a' b' ≡ with_counters v (joined a a') (joined b b')
settle-more v a b a' b' =
    ap (with_flags (with_counters v (joined a a') (joined b b'))) (raised v.flags a.fired b.fired a'.fired b'.fired)

-- T2, which may stand still
abbrev pub second : Bool → ℕ → Timer2 → Counter
second still n t = cond still (counter2 t) (steps n false 0 (counter2 t))

abbrev one_more : Bool → Timer2 → Counter → Counter
one_more still t b = cond still (counter2 (with_armed2 (with_counter2 t b.value) b.armed)) (step false 0 (counter2 (with_armed2 (with_counter2 t b.value) b.armed)))

second_more : (still : Bool) (n : ℕ) (t : Timer2) → joined (second still n t) (one_more still t (second still n t)) ≡ second still (suc n) t
unfolding steps
second_more true n t = refl
second_more false n t =
    let b = steps n false 0 (counter2 t) in
    ap (λ (d : Bool). joined b (step false 0 (at b.value b.armed d false))) (sym (never-due n t))
    ∙ joined_step false 0 b

-- Timers that have not moved.
settled-still : (still : Bool) (v : Via) → v ≡ with_counters v (counter1 v.t1) (cond still (counter2 v.t2) (counter2 v.t2))
settled-still true v = sym (ap (with_flags v) (or_zero_r (bit_or v.flags 0) ∙ or_zero_r v.flags))
settled-still false v = sym (ap (with_flags v) (or_zero_r (bit_or v.flags 0) ∙ or_zero_r v.flags))

-- n ticks of the VIA
abbrev pub first : ℕ → Via → Counter
first n v = steps n (bit 6 v.acr) (latch_of v.t1) (counter1 v.t1)

pub waits : (n : ℕ) (v : Via) → ticks n v ≡ with_counters v (first n v) (second (bit 5 v.acr) n v.t2)
unfolding ticks steps tick_of
waits zero v = settled-still (bit 5 v.acr) v
waits (suc n) v =
    let free = bit 6 v.acr in
    let still = bit 5 v.acr in
    let a = first n v in
    let b = second still n v.t2 in
    ap tick_of (waits n v)
    ∙ settle-more v a b (step free (latch_of v.t1) (unfired a)) (one_more still v.t2 b)
    ∙ ap₂ (with_counters v) (joined_step free (latch_of v.t1) a) (second_more still n v.t2)

-- two resets with no wait between equal one
pub reset-twice : (v : Via) → reset_of (reset_of v) ≡ reset_of v
unfolding reset_of
reset-twice v = refl

-- ---- ticks that only count

pub record Counting (n : ℕ) (v : Via) : Type 0 where
  pub undue : v.t1.due ≡ false
  pub running : bit 5 v.acr ≡ false
  pub first : n ≤ v.t1.counter
  pub second : n ≤ v.t2.counter

pub counting : (n : ℕ) (v : Via) → only_counts n v ≡ true → Counting n v
unfolding only_counts
counting n v h =
    let p = both (not v.t1.due) _ h in
    let q = both (not (bit 5 v.acr)) _ p.1 in
    let r = both (leb n v.t1.counter) _ q.1 in
    record { undue = negated v.t1.due p.0; running = negated (bit 5 v.acr) q.0; first = leb-true _ _ r.0; second = leb-true _ _ r.1 }
  where
    negated : (a : Bool) → not a ≡ true → a ≡ false
    negated true e = sym e
    negated false e = refl

-- The counters fall by n, and nothing else moves.
pub counted : (n : ℕ) (v : Via) → Counting n v
    → with_t2 (with_t1 v (with_counter1 v.t1 (v.t1.counter - n))) (with_counter2 v.t2 (v.t2.counter - n)) ≡ ticks n v
counted n v c =
    sym (waits n v
    ∙ ap₂ (with_counters v) (ap (λ (d : Bool). steps n (bit 6 v.acr) (latch_of v.t1) (at v.t1.counter v.t1.armed d false)) c.undue ∙ early (bit 6 v.acr) (latch_of v.t1) v.t1.counter n v.t1.armed false c.first)
    (ap (λ (b : Bool). second b n v.t2) c.running ∙ early false 0 v.t2.counter n v.t2.armed false c.second)
    ∙ ap (λ (d : Bool). with_flags (with_t2 (with_t1 v (with_due1 (with_counter1 v.t1 (v.t1.counter - n)) d)) (with_counter2 v.t2 (v.t2.counter - n))) (bit_or (bit_or v.flags 0) 0)) (sym c.undue)
    ∙ ap (with_flags (with_t2 (with_t1 v (with_counter1 v.t1 (v.t1.counter - n))) (with_counter2 v.t2 (v.t2.counter - n)))) (or_zero_r (bit_or v.flags 0) ∙ or_zero_r v.flags))
