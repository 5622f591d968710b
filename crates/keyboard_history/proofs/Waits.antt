-- Waits add, so that a shell may cut a wait anywhere; a refusal changes nothing.
use Prim.Native.Nat.{ℕ, ◌+◌, ◌-◌, ◌≤◌, ◌<◌}
use Rattle.std.specs.Prelude.{Some, None, Ok, Err}
use mathlib.Core.Path.{◌≡◌, refl, sym, ap, ap₂, ◌∙◌}
use mathlib.Core.Bool.{Bool, true, false, cond, not, ◌&&◌, ◌||◌}
use mathlib.Core.List.{List, [], ◌∷◌}
use native.Mathlib.Omega.{arith}
use lib.Dec.{eqb, leb}
use borrow.Author.Tests.{eq-eqb, ne_eqb, eqb-true, le-leb, lt-leb, leb-true, leb-false}
use Rattle.levels.proofs.Laws.{no}
use Rattle.keyboard.specs.declared.Keyboard.{Keyboard}
use Rattle.refusal.specs.declared.Refusal.TheVariants.{NotAccepted}
use Rattle.keyboard.specs.declared.Reply.TheVariants.{Code, Null, Model, Ack}
use Rattle.keyboard.specs.Numbers.{Response, refusal_of}
use Rattle.keyboard.specs.State.{codes_of, with_left, accepted_of}
use Rattle.keyboard.specs.Steps.{Stepped, respond, if_accepted, inquiry, instant, answer_to, command_of, key_by, key_of, wait_of}
use Rattle.keyboard.proofs.Checked.{failed}
use Rattle.keyboard.proofs.Ticks.{wait-is}
use Rattle.keyboard_history.specs.Events.{Event, command, key, wait, step_of, or_else, both_waits}
use Rattle.keyboard_history.proofs.Cases.{waited-accepted}
use Rattle.keyboard_history.proofs.Nulls.{answered}

-- ---- waits add

either : (p q : Bool) → or_else (cond p (Ok (Some Null)) (Ok None)) (cond q (Ok (Some Null)) (Ok None)) ≡ cond (p || q) (Ok (Some Null)) (Ok None)
either true q = refl
either false q = refl

-- whether the Null comes in l ticks left: in the first a ticks, or in the b after them
halves : (l a b : ℕ) → (not (eqb l 0) && leb l a || (not (eqb (l - a) 0) && leb (l - a) b)) ≡ (not (eqb l 0) && leb l (a + b))
halves l a b = by (eqb l 0) (leb l a) (leb l (a + b)) refl refl refl
  where
    by : (p q r : Bool) → eqb l 0 ≡ p → leb l a ≡ q → leb l (a + b) ≡ r → (not p && q || (not (eqb (l - a) 0) && leb (l - a) b)) ≡ (not p && r)
    by true q r e f g = let z : l ≡ 0 = eqb-true _ _ e in simp (eq-eqb (l - a) 0 (omega arith))
    by false true r e f g = let h : l ≤ a = leb-true _ _ f in sym (sym g ∙ le-leb l (a + b) (omega arith))
    by false false true e f g =
        let u : a < l = leb-false _ _ f in
        let v : l ≤ a + b = leb-true _ _ g in
        simp (ne_eqb (l - a) 0 (λ z. omega arith), le-leb (l - a) b (omega arith))
    by false false false e f g =
        let u : a < l = leb-false _ _ f in
        let v : a + b < l = leb-false _ _ g in
        simp (ne_eqb (l - a) 0 (λ z. omega arith), lt-leb (l - a) b (omega arith))

add-accepted : (a b : ℕ) (k : Keyboard) → accepted_of k ≡ true → wait_of (a + b) k ≡ both_waits (wait_of a k) (wait_of b (wait_of a k).keyboard)
add-accepted a b k h =
    let l = k.left in
    let e : l - (a + b) ≡ l - a - b = omega arith in
    let w = wait-is b (with_left k (l - a)) (waited-accepted a k h) in
    wait-is (a + b) k h
    ∙ ap₂ (λ (m : ℕ) (r : Response). respond (with_left k m) r) e (ap (λ (x : Bool). cond x (Ok (Some Null)) (Ok None)) (sym (halves l a b)) ∙ sym (either (not (eqb l 0) && leb l a) (not (eqb (l - a) 0) && leb (l - a) b)))
    ∙ ap (λ (t : Stepped). both_waits (respond (with_left k (l - a)) (cond (not (eqb l 0) && leb l a) (Ok (Some Null)) (Ok None))) t) (sym w)
    ∙ ap (λ (s : Stepped). both_waits s (wait_of b s.keyboard)) (sym (wait-is a k h))

refused-wait : (n : ℕ) (k : Keyboard) → accepted_of k ≡ false → wait_of n k ≡ respond k (Err NotAccepted)
unfolding wait_of
refused-wait n k h = failed k _ h

add-refused : (a b : ℕ) (k : Keyboard) → accepted_of k ≡ false → wait_of (a + b) k ≡ both_waits (wait_of a k) (wait_of b (wait_of a k).keyboard)
add-refused a b k h =
    refused-wait (a + b) k h
    ∙ ap (λ (t : Stepped). both_waits (respond k (Err NotAccepted)) t) (sym (refused-wait b k h))
    ∙ ap (λ (s : Stepped). both_waits s (wait_of b s.keyboard)) (sym (refused-wait a k h))

-- A wait of a + b ticks is one of a, then one of b, whatever the state.
pub waits-add : (a b : ℕ) (k : Keyboard) → wait_of (a + b) k ≡ both_waits (wait_of a k) (wait_of b (wait_of a k).keyboard)
waits-add a b k = by (accepted_of k) refl
  where
    by : (t : Bool) → accepted_of k ≡ t → wait_of (a + b) k ≡ both_waits (wait_of a k) (wait_of b (wait_of a k).keyboard)
    by true h = add-accepted a b k h
    by false h = add-refused a b k h

-- ---- a refusal changes nothing

-- either no refusal, or nothing changed
abbrev Kept : Keyboard → Stepped → Type 0
Kept k s = eqb (refusal_of s.response) 0 ≡ false → s.keyboard ≡ k

kept-range : (k : Keyboard) (s : Stepped) → (accepted_of k ≡ true → Kept k s) → Kept k (if_accepted k s)
kept-range k s f = by (accepted_of k) refl
  where
    by : (t : Bool) → accepted_of k ≡ t → Kept k (cond t s (respond k (Err NotAccepted)))
    by true h = f h
    by false h = λ r. refl

fine : (k q : Keyboard) (r : Response) → refusal_of r ≡ 0 → Kept k (respond q r)
fine k q r e h = no (sym h ∙ ap (λ (n : ℕ). eqb n 0) e)

answered-kept : (k q : Keyboard) (i t m s : Bool) (cs : List ℕ) → Kept k (answered i t m s cs q)
unfolding refusal_of
answered-kept k q true t m s [] = fine k _ (Ok None) refl
answered-kept k q true t m s (c ∷ cs) = fine k _ (Ok (Some (Code c))) refl
answered-kept k q false true m s [] = fine k _ (Ok (Some Null)) refl
answered-kept k q false true m s (c ∷ cs) = fine k _ (Ok (Some (Code c))) refl
answered-kept k q false false true s cs = fine k _ (Ok (Some (Model q.model))) refl
answered-kept k q false false false true cs = fine k _ (Ok (Some Ack)) refl
answered-kept k q false false false false cs = fine k _ (Ok None) refl

key-kept : (c : ℕ) (k : Keyboard) (a b : Bool) → Kept k (key_by a b c k)
unfolding refusal_of
key-kept c k false b = fine k _ (Ok (Some (Code c))) refl
key-kept c k true true = λ h. refl
key-kept c k true false = fine k _ (Ok None) refl

wait-kept : (k q : Keyboard) (b : Bool) → Kept k (respond q (cond b (Ok (Some Null)) (Ok None)))
unfolding refusal_of
wait-kept k q true = fine k q (Ok (Some Null)) refl
wait-kept k q false = fine k q (Ok None) refl

-- "both change nothing": whatever the event and the state.
pub refusal-keeps : (e : Event) (k : Keyboard) → eqb (refusal_of (step_of e k).response) 0 ≡ false → (step_of e k).keyboard ≡ k
unfolding step_of command_of answer_to inquiry instant key_of
refusal-keeps (command b) k =
    kept-range k (answered (eqb b 16) (eqb b 20) (eqb b 22) (eqb b 54) (codes_of (with_left k 0)) (with_left k 0))
    (λ h. answered-kept k (with_left k 0) (eqb b 16) (eqb b 20) (eqb b 22) (eqb b 54) (codes_of (with_left k 0)))
refusal-keeps (key c) k = kept-range k (key_by (eqb k.left 0) (eqb k.held 8) c k) (λ h. key-kept c k (eqb k.left 0) (eqb k.held 8))
refusal-keeps (wait n) k = by (accepted_of k) refl
  where
    by : (t : Bool) → accepted_of k ≡ t → Kept k (wait_of n k)
    by true h = rw (wait-is n k h) (wait-kept k (with_left k (k.left - n)) (not (eqb k.left 0) && leb k.left n))
    by false h = rw (refused-wait n k h) (λ r. refl)
