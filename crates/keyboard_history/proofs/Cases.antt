-- What one event leaves of a keyboard in its ranges: the ranges, the codes in their order.
use Prim.Native.Nat.{ℕ, zero, suc, ◌+◌, ◌-◌, ◌≤◌, ◌<◌}
use Rattle.std.specs.Prelude.{Some, None, Ok}
use mathlib.Core.Path.{◌≡◌, refl, sym, ap, ◌∙◌}
use mathlib.Core.Bool.{Bool, true, false, cond, not, ◌&&◌, ◌||◌}
use mathlib.Core.List.{List, [], ◌∷◌, ◌++◌, append-nil}
use native.Mathlib.Omega.{arith}
use lib.ListN.{length, take, replicate, length-append, length-replicate}
use lib.Dec.{eqb, leb}
use borrow.Author.Tests.{eq-eqb, eqb-true, eqb-false}
use Rattle.keyboard.specs.declared.Keyboard.{Keyboard}
use Rattle.keyboard.specs.declared.Reply.TheVariants.{Null, Model, Ack}
use Rattle.keyboard.specs.Numbers.{Response, refusal_of}
use Rattle.keyboard.specs.State.{codes_of, places, with_left, accepted_of}
use Rattle.keyboard.specs.Steps.{Stepped, respond, oldest_else, instant, inquiry, answer_to, command_of, key_by, key_of, wait_of}
use Rattle.keyboard.proofs.Codes.{parts, whole, codes-back, none-held, ended-accepted, codes-accepted}
use Rattle.keyboard.proofs.Ticks.{wait-is}
use Rattle.keyboard.proofs.Checked.{passed}
use Rattle.keyboard_history.specs.Events.{Event, command, key, wait, step_of, code_in, code_out}

-- a keyboard in its ranges, with the eight places that its type has
pub record Good (k : Keyboard) : Type 0 where
  pub ranges : accepted_of k ≡ true
  pub eight : length k.codes ≡ 8

-- what one event on such a keyboard comes to
pub record Fair (e : Event) (k : Keyboard) (s : Stepped) : Type 0 where
  pub good : Good s.keyboard
  pub order : codes_of k ++ code_in e s.response ≡ code_out s.response ++ codes_of s.keyboard

-- ---- lists

short : (n : ℕ) (l : List ℕ) → length (take n l) ≤ n
short zero l = omega arith
short (suc n) [] = omega arith
short (suc n) (x ∷ xs) = let h : length (take n xs) ≤ n = short n xs in omega arith

pub few : (k : Keyboard) → accepted_of k ≡ true → length (codes_of k) ≤ 8
unfolding codes_of
few k a =
    let h : length (take k.held k.codes) ≤ k.held = short k.held k.codes in
    let p : k.held ≤ 8 = (parts k a).few in
    omega arith

nothing-taken : (n : ℕ) (l : List ℕ) → 0 < length l → take n l ≡ [] → n ≡ 0
nothing-taken zero l p e = refl
nothing-taken (suc n) [] p e = absurd (omega arith)
nothing-taken (suc n) (x ∷ xs) p e = let f : suc (length (take n xs)) ≡ 0 = ap length e in absurd (omega arith)

none-are : (k : Keyboard) → length k.codes ≡ 8 → codes_of k ≡ [] → k.held ≡ 0
unfolding codes_of
none-are k l e = nothing-taken k.held k.codes (omega arith) e

eight-places : (cs : List ℕ) → length cs ≤ 8 → length (places cs) ≡ 8
unfolding places
eight-places cs h =
    let zeros : List ℕ = replicate (8 - length cs) 0 in
    let e : length (cs ++ zeros) ≡ length cs + length zeros = length-append cs zeros in
    let f : length zeros ≡ 8 - length cs = length-replicate (8 - length cs) 0 in
    e ∙ omega (arith, f)

-- ---- a wait

still-alone : (a h n : ℕ) (b : Bool) → eqb a 0 ≡ b → (b || eqb h 0) ≡ true → (eqb (a - n) 0 || eqb h 0) ≡ true
still-alone a h n true e p = let z : a ≡ 0 = eqb-true _ _ e in ap (λ (x : Bool). x || eqb h 0) (eq-eqb (a - n) 0 (omega arith))
still-alone a h n false e p = ap (λ (x : Bool). eqb (a - n) 0 || x) p ∙ or-true (eqb (a - n) 0)
  where
    or-true : (x : Bool) → (x || true) ≡ true
    or-true true = refl
    or-true false = refl

no_code : (b : Bool) → code_out (cond b (Ok (Some Null)) (Ok None)) ≡ []
no_code true = refl
no_code false = refl

pub waited-accepted : (n : ℕ) (k : Keyboard) → accepted_of k ≡ true → accepted_of (with_left k (k.left - n)) ≡ true
waited-accepted n k a =
    let p = parts k a in
    let m : k.left - n ≤ 195840 = omega (arith, p.soon) in
    whole (with_left k (k.left - n)) (record { few = p.few; unused = p.unused; soon = m; alone = still-alone k.left k.held n _ refl p.alone })

fair-wait-by : (n : ℕ) (k : Keyboard) (b : Bool) → Good k → Fair (wait n) k (respond (with_left k (k.left - n)) (cond b (Ok (Some Null)) (Ok None)))
unfolding codes_of
fair-wait-by n k b g =
    record {
      good = record { ranges = waited-accepted n k g.ranges; eight = g.eight };
      order = append-nil (codes_of k) ∙ ap (λ (cs : List ℕ). cs ++ codes_of k) (sym (no_code b));
    }

fair-wait : (n : ℕ) (k : Keyboard) → Good k → Fair (wait n) k (wait_of n k)
fair-wait n k g = rw (wait-is n k g.ranges) (fair-wait-by n k (not (eqb k.left 0) && leb k.left n) g)

-- ---- a command

fair-cond : (e : Event) (k : Keyboard) (b : Bool) (s t : Stepped) → Fair e k s → Fair e k t → Fair e k (cond b s t)
fair-cond e k true s t p q = p
fair-cond e k false s t p q = q

fair-oldest : (b : ℕ) (k : Keyboard) (cs : List ℕ) (other : Stepped) → Good k → k.left ≡ 0 → codes_of k ≡ cs → (cs ≡ [] → Fair (command b) k other) → Fair (command b) k (oldest_else other cs k)
fair-oldest b k [] other g z e f = f refl
fair-oldest b k (c ∷ cs) other g z e f =
    let h : length (codes_of k) ≤ 8 = few k g.ranges in
    let n : length (codes_of k) ≡ suc (length cs) = ap length e in
    let m : length cs ≤ 8 = omega arith in
    record {
      good = record { ranges = codes-accepted k cs m z; eight = eight-places cs m };
      order = append-nil (codes_of k) ∙ e ∙ ap (λ (r : List ℕ). c ∷ r) (sym (codes-back k cs));
    }

fair-same : (b : ℕ) (k : Keyboard) (r : Response) → Good k → code_out r ≡ [] → Fair (command b) k (respond k r)
fair-same b k r g e = record { good = g; order = append-nil (codes_of k) ∙ ap (λ (cs : List ℕ). cs ++ codes_of k) (sym e) }

waiting : (b : ℕ) (k : Keyboard) → Good k → codes_of k ≡ [] → Fair (command b) k (respond (with_left k 195840) (Ok None))
unfolding codes_of
waiting b k g e =
    let p = parts k g.ranges in
    let z : k.held ≡ 0 = none-are k g.eight e in
    record {
      good = record { ranges = whole (with_left k 195840) (record { few = p.few; unused = p.unused; soon = omega arith; alone = eq-eqb k.held 0 z }); eight = g.eight };
      order = append-nil (codes_of k);
    }

fair-answer : (b : ℕ) (k : Keyboard) → Good k → k.left ≡ 0 → Fair (command b) k (answer_to b k)
unfolding answer_to inquiry instant
fair-answer b k g z =
    fair-cond (command b) k (eqb b 16) _ _ (fair-oldest b k (codes_of k) _ g z refl (λ e. waiting b k g e))
    (fair-cond (command b) k (eqb b 20) _ _ (fair-oldest b k (codes_of k) _ g z refl (λ e. fair-same b k (Ok (Some Null)) g refl))
    (fair-cond (command b) k (eqb b 22) _ _ (fair-same b k (Ok (Some (Model k.model))) g refl)
    (fair-cond (command b) k (eqb b 54) _ _ (fair-same b k (Ok (Some Ack)) g refl) (fair-same b k (Ok None) g refl))))

fair-command : (b : ℕ) (k : Keyboard) → Good k → Fair (command b) k (command_of b k)
unfolding command_of codes_of
fair-command b k g =
    let f = fair-answer b (with_left k 0) (record { ranges = ended-accepted k g.ranges; eight = g.eight }) refl in
    rw (passed k (answer_to b (with_left k 0)) g.ranges) (record { good = f.good; order = f.order })

-- ---- a key

left_alone : (k : Keyboard) → codes_of k ≡ [] → codes_of (with_left k 0) ≡ []
unfolding codes_of
left_alone k z = z

held-few : (k : Keyboard) → length (codes_of k) ≤ k.held
unfolding codes_of
held-few k = short k.held k.codes

fair-key-by : (c : ℕ) (k : Keyboard) (a b : Bool) → Good k → eqb k.left 0 ≡ a → eqb k.held 8 ≡ b → (a || eqb k.held 0) ≡ true → Fair (key c) k (key_by a b c k)
unfolding refusal_of
fair-key-by c k false b g e f h =
    let z : codes_of k ≡ [] = none-held k (eqb-true _ _ h) in
    record {
      good = record { ranges = ended-accepted k g.ranges; eight = g.eight };
      order = ap (λ (cs : List ℕ). cs ++ (c ∷ [])) z ∙ ap (λ (cs : List ℕ). c ∷ cs) (sym (left_alone k z));
    }
fair-key-by c k true true g e f h = record { good = g; order = append-nil (codes_of k) }
fair-key-by c k true false g e f h =
    let s : length (codes_of k) ≤ k.held = held-few k in
    let n : length (codes_of k ++ (c ∷ [])) ≡ length (codes_of k) + 1 = length-append (codes_of k) (c ∷ []) in
    let p : k.held ≤ 8 = (parts k g.ranges).few in
    let q : k.held ≡ 8 → ⊥ = eqb-false _ _ f in
    let m : length (codes_of k ++ (c ∷ [])) ≤ 8 = omega (arith, q) in
    record {
      good = record { ranges = codes-accepted k (codes_of k ++ (c ∷ [])) m (eqb-true _ _ e); eight = eight-places (codes_of k ++ (c ∷ [])) m };
      order = sym (codes-back k (codes_of k ++ (c ∷ [])));
    }

fair-key : (c : ℕ) (k : Keyboard) → Good k → Fair (key c) k (key_of c k)
unfolding key_of
fair-key c k g = rw (passed k (key_by (eqb k.left 0) (eqb k.held 8) c k) g.ranges) (fair-key-by c k _ _ g refl refl (parts k g.ranges).alone)

-- ---- any event

pub fair : (e : Event) (k : Keyboard) → Good k → Fair e k (step_of e k)
unfolding step_of
fair (command b) k g = fair-command b k g
fair (key c) k g = fair-key c k g
fair (wait n) k g = fair-wait n k g
