-- A wait tick by tick, worked out: none waits, still waiting, the Null; and waits that add.
use Prim.Native.Nat.{ℕ, zero, suc, ◌+◌, ◌-◌, ◌≤◌, ◌<◌}
use Rattle.std.specs.Prelude.{Some, None, Ok}
use mathlib.Core.Path.{◌≡◌, refl, ap, ◌∙◌}
use mathlib.Core.Bool.{Bool, true, false, cond, not, ◌&&◌}
use native.Mathlib.Omega.{arith}
use lib.Dec.{eqb, leb}
use borrow.Author.Tests.{eq-eqb, ne_eqb, eqb-true, eqb-false, leb-true, leb-false}
use Rattle.keyboard.specs.declared.Keyboard.{Keyboard}
use Rattle.keyboard.specs.declared.Reply.TheVariants.{Null}
use Rattle.keyboard.specs.State.{with_left, accepted_of}
use Rattle.keyboard.specs.Steps.{Stepped, respond, tick_by, tick, ticks, wait_of}
use Rattle.keyboard.proofs.Checked.{passed}

-- no Inquiry waits: nothing comes
pub idle : (n : ℕ) (s : Stepped) → s.keyboard.left ≡ 0 → ticks n s ≡ s
unfolding ticks
idle zero s e = refl
idle (suc n) s e =
    ap tick (idle n s e) ∙ ap (λ (b : Bool). tick_by b (eqb s.keyboard.left 1) s) (eq-eqb _ _ e)

-- fewer ticks than are left
pub counts : (n : ℕ) (s : Stepped) → n < s.keyboard.left → ticks n s ≡ respond (with_left s.keyboard (s.keyboard.left - n)) s.response
unfolding ticks
counts zero s h = let e : s.keyboard.left ≡ s.keyboard.left - 0 = omega arith in ap (λ (l : ℕ). respond (with_left s.keyboard l) s.response) e
counts (suc n) s h =
    let p : eqb (s.keyboard.left - n) 0 ≡ false = ne_eqb (s.keyboard.left - n) 0 (λ e. omega (arith, e)) in
    let q : eqb (s.keyboard.left - n) 1 ≡ false = ne_eqb (s.keyboard.left - n) 1 (λ e. omega (arith, e)) in
    let e : s.keyboard.left - n - 1 ≡ s.keyboard.left - suc n = omega arith in
    ap tick (counts n s (omega arith)) ∙ simp (p, q) (ap (λ (l : ℕ). respond (with_left s.keyboard l) s.response) e)

-- the last tick of them
last : (n : ℕ) (s : Stepped) → s.keyboard.left ≡ suc n → ticks (suc n) s ≡ respond (with_left s.keyboard 0) (Ok (Some Null))
unfolding ticks
last n s e =
    let one : s.keyboard.left - n ≡ 1 = omega (arith, e) in
    ap tick (counts n s (omega (arith, e)) ∙ ap (λ (l : ℕ). respond (with_left s.keyboard l) s.response) one)

-- a then b ticks are a + b ticks
pub ticks-add : (a b : ℕ) (s : Stepped) → ticks (b + a) s ≡ ticks b (ticks a s)
unfolding ticks
ticks-add a zero s = let e : zero + a ≡ a = omega arith in ap (λ (n : ℕ). ticks n s) e
ticks-add a (suc b) s = let e : suc b + a ≡ suc (b + a) = omega arith in ap (λ (n : ℕ). ticks n s) e ∙ ap tick (ticks-add a b s)

-- as many ticks as are left, or more
pub ends : (n : ℕ) (s : Stepped) → 0 < s.keyboard.left → s.keyboard.left ≤ n → ticks n s ≡ respond (with_left s.keyboard 0) (Ok (Some Null))
ends n s p h =
    let m = s.keyboard.left - 1 in
    let e : s.keyboard.left ≡ suc m = omega arith in
    let f : n ≡ (n - suc m) + suc m = omega arith in
    ap (λ (j : ℕ). ticks j s) f ∙ ticks-add (suc m) (n - suc m) s ∙ ap (ticks (n - suc m)) (last m s e) ∙ idle (n - suc m) (respond (with_left s.keyboard 0) (Ok (Some Null))) refl

-- ---- a wait: how many ticks are left, and whether the Null comes

waited-by : (n : ℕ) (k : Keyboard) (a b : Bool) → eqb k.left 0 ≡ a → leb k.left n ≡ b
    → ticks n (respond k (Ok None)) ≡ respond (with_left k (k.left - n)) (cond (not a && b) (Ok (Some Null)) (Ok None))
waited-by n k true b e f =
    let z : k.left ≡ 0 = eqb-true _ _ e in
    let m : k.left ≡ k.left - n = omega arith in
    idle n (respond k (Ok None)) z ∙ ap (λ (l : ℕ). respond (with_left k l) (Ok None)) m
waited-by n k false true e f =
    let z : k.left ≡ 0 → ⊥ = eqb-false _ _ e in
    let h : k.left ≤ n = leb-true _ _ f in
    let m : 0 ≡ k.left - n = omega arith in
    ends n (respond k (Ok None)) (omega (arith, z)) h ∙ ap (λ (l : ℕ). respond (with_left k l) (Ok (Some Null))) m
waited-by n k false false e f = counts n (respond k (Ok None)) (leb-false _ _ f)

pub wait-is : (n : ℕ) (k : Keyboard) → accepted_of k ≡ true
    → wait_of n k ≡ respond (with_left k (k.left - n)) (cond (not (eqb k.left 0) && leb k.left n) (Ok (Some Null)) (Ok None))
unfolding wait_of
wait-is n k a = passed k _ a ∙ waited-by n k _ _ refl refl
