-- A Null comes exactly where 195,840 VIA ticks pass with no key and no command, and at an Instant with no code held.
use Prim.Native.Nat.{ℕ, ◌+◌, ◌-◌, ◌≤◌, ◌<◌}
use Rattle.std.specs.Prelude.{Some, None, Ok}
use mathlib.Core.Path.{◌≡◌, refl, sym, ap, ◌∙◌}
use mathlib.Core.Bool.{Bool, true, false, cond, not, ◌&&◌}
use mathlib.Core.List.{List, [], ◌∷◌}
use native.Mathlib.Omega.{arith}
use lib.Dec.{eqb, ltb, leb}
use borrow.Author.Tests.{eq-eqb, ne_eqb, eqb-true, le-leb, lt-leb, ltb-true, ltb-false, leb-true, leb-false}
use Rattle.keyboard.specs.declared.Keyboard.{Keyboard}
use Rattle.keyboard.specs.declared.Reply.TheVariants.{Null, Model, Ack}
use Rattle.keyboard.specs.State.{codes_of, with_left, accepted_of}
use Rattle.keyboard.specs.Steps.{Stepped, respond, oldest_else, instant, inquiry, answer_to, command_of, key_by, key_of}
use Rattle.keyboard.proofs.Codes.{parts}
use Rattle.keyboard.proofs.Checked.{passed}
use Rattle.keyboard.proofs.Ticks.{wait-is}
use Rattle.keyboard_history.specs.Events.{Event, command, key, wait, step_of, keyboard_after, response_to}
use Rattle.keyboard_history.specs.Nulls.{is_null, none, inquiry_open, ticks_since, null_at}
use Rattle.keyboard_history.proofs.Cases.{Good}
use Rattle.keyboard_history.proofs.Order.{good-after}

-- ---- one event: the ticks left after it, and whether its response is Null

-- a command, by its tests and the codes held, with no Inquiry waiting
abbrev pub answered : Bool → Bool → Bool → Bool → List ℕ → Keyboard → Stepped
answered i t m s cs k =
    cond i (oldest_else (respond (with_left k 195840) (Ok None)) cs k)
    (cond t (oldest_else (respond k (Ok (Some Null))) cs k)
    (cond m (respond k (Ok (Some (Model k.model))))
    (cond s (respond k (Ok (Some Ack)))
    (respond k (Ok None)))))

left_by : (i t m s : Bool) (cs : List ℕ) (k : Keyboard) → k.left ≡ 0 → (answered i t m s cs k).keyboard.left ≡ cond (i && none cs) 195840 0
left_by true t m s [] k e = refl
left_by true t m s (c ∷ cs) k e = e
left_by false true m s [] k e = e
left_by false true m s (c ∷ cs) k e = e
left_by false false true s cs k e = e
left_by false false false true cs k e = e
left_by false false false false cs k e = e

null-by : (i t m s : Bool) (cs : List ℕ) (k : Keyboard) → (i ≡ true → t ≡ false) → is_null (answered i t m s cs k).response ≡ (t && none cs)
null-by true t m s [] k e = ap (λ (b : Bool). b && true) (sym (e refl))
null-by true t m s (c ∷ cs) k e = ap (λ (b : Bool). b && false) (sym (e refl))
null-by false true m s [] k e = refl
null-by false true m s (c ∷ cs) k e = refl
null-by false false true s cs k e = refl
null-by false false false true cs k e = refl
null-by false false false false cs k e = refl

-- the codes held do not depend on an Inquiry
ended-codes : (k : Keyboard) → codes_of (with_left k 0) ≡ codes_of k
unfolding codes_of
ended-codes k = refl

command-left : (b : ℕ) (k : Keyboard) → accepted_of k ≡ true → (command_of b k).keyboard.left ≡ cond (eqb b 16 && none (codes_of k)) 195840 0
unfolding command_of answer_to inquiry instant
command-left b k a =
    ap (λ (s : Stepped). s.keyboard.left) (passed k (answered (eqb b 16) (eqb b 20) (eqb b 22) (eqb b 54) (codes_of (with_left k 0)) (with_left k 0)) a)
    ∙ left_by (eqb b 16) (eqb b 20) (eqb b 22) (eqb b 54) (codes_of (with_left k 0)) (with_left k 0) refl
    ∙ ap (λ (cs : List ℕ). cond (eqb b 16 && none cs) 195840 0) (ended-codes k)

command-null : (b : ℕ) (k : Keyboard) → accepted_of k ≡ true → is_null (command_of b k).response ≡ (eqb b 20 && none (codes_of k))
unfolding command_of answer_to inquiry instant
command-null b k a =
    let apart : eqb b 16 ≡ true → eqb b 20 ≡ false = λ h. let e : b ≡ 16 = eqb-true _ _ h in ne_eqb b 20 (λ f. omega arith) in
    ap (λ (s : Stepped). is_null s.response) (passed k (answered (eqb b 16) (eqb b 20) (eqb b 22) (eqb b 54) (codes_of (with_left k 0)) (with_left k 0)) a)
    ∙ null-by (eqb b 16) (eqb b 20) (eqb b 22) (eqb b 54) (codes_of (with_left k 0)) (with_left k 0) apart
    ∙ ap (λ (cs : List ℕ). eqb b 20 && none cs) (ended-codes k)

key-by : (c : ℕ) (k : Keyboard) (a b : Bool) → eqb k.left 0 ≡ a → ((key_by a b c k).keyboard.left ≡ 0) × (is_null (key_by a b c k).response ≡ false)
key-by c k false b e = (refl, refl)
key-by c k true true e = (eqb-true _ _ e, refl)
key-by c k true false e = (eqb-true _ _ e, refl)

key-is : (c : ℕ) (k : Keyboard) → accepted_of k ≡ true → ((key_of c k).keyboard.left ≡ 0) × (is_null (key_of c k).response ≡ false)
unfolding key_of
key-is c k a = rw (passed k (key_by (eqb k.left 0) (eqb k.held 8) c k) a) (key-by c k (eqb k.left 0) (eqb k.held 8) refl)

-- ---- the ticks left, from the events

start_left : (k : Keyboard) (b : Bool) → k.left ≤ 195840 → eqb k.left 0 ≡ b → k.left ≡ cond (not b) (195840 - (195840 - k.left)) 0
start_left k true h e = eqb-true _ _ e
start_left k false h e = omega arith

less : (a : Bool) (s n : ℕ) → cond a (195840 - s) 0 - n ≡ cond a (195840 - (s + n)) 0
less true s n = omega arith
less false s n = omega arith

pub left_is : (k : Keyboard) (es : List Event) → Good k → (keyboard_after k es).left ≡ cond (inquiry_open k es) (195840 - ticks_since k es) 0
unfolding keyboard_after step_of inquiry_open ticks_since
left_is k [] g = start_left k _ (parts k g.ranges).soon refl
left_is k (command b ∷ es) g = command-left b (keyboard_after k es) (good-after k es g).ranges
left_is k (key c ∷ es) g = (key-is c (keyboard_after k es) (good-after k es g).ranges).0
left_is k (wait n ∷ es) g =
    ap (λ (s : Stepped). s.keyboard.left) (wait-is n (keyboard_after k es) (good-after k es g).ranges)
    ∙ ap (λ (l : ℕ). l - n) (left_is k es g)
    ∙ less (inquiry_open k es) (ticks_since k es) n

-- ---- the theorem

is-null : (b : Bool) → is_null (cond b (Ok (Some Null)) (Ok None)) ≡ b
is-null true = refl
is-null false = refl

reached : (a : Bool) (s n : ℕ) → (not (eqb (cond a (195840 - s) 0) 0) && leb (cond a (195840 - s) 0) n) ≡ (a && (ltb s 195840 && leb 195840 (s + n)))
reached false s n = refl
reached true s n = by (ltb s 195840) (leb 195840 (s + n)) refl refl
  where
    by : (p q : Bool) → ltb s 195840 ≡ p → leb 195840 (s + n) ≡ q → (not (eqb (195840 - s) 0) && leb (195840 - s) n) ≡ (p && q)
    by true true e f =
        let u : s < 195840 = ltb-true _ _ e in
        let v : 195840 ≤ s + n = leb-true _ _ f in
        simp (ne_eqb (195840 - s) 0 (λ z. omega arith), le-leb (195840 - s) n (omega arith))
    by true false e f =
        let u : s < 195840 = ltb-true _ _ e in
        let v : s + n < 195840 = leb-false _ _ f in
        simp (ne_eqb (195840 - s) 0 (λ z. omega arith), lt-leb (195840 - s) n (omega arith))
    by false q e f =
        let u : 195840 ≤ s = ltb-false _ _ e in
        simp (eq-eqb (195840 - s) 0 (omega arith))

pub null-exactly : (e : Event) (k : Keyboard) (es : List Event) → Good k → is_null (response_to e k es) ≡ null_at e k es
unfolding step_of null_at
null-exactly (command b) k es g = command-null b (keyboard_after k es) (good-after k es g).ranges
null-exactly (key c) k es g = (key-is c (keyboard_after k es) (good-after k es g).ranges).1
null-exactly (wait n) k es g =
    ap (λ (s : Stepped). is_null s.response) (wait-is n (keyboard_after k es) (good-after k es g).ranges)
    ∙ is-null (not (eqb (keyboard_after k es).left 0) && leb (keyboard_after k es).left n)
    ∙ ap (λ (l : ℕ). not (eqb l 0) && leb l n) (left_is k es g)
    ∙ reached (inquiry_open k es) (ticks_since k es) n
