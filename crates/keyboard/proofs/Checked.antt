-- The check of the ranges, passed and failed; the cases of a key; the oldest code, taken or not.
use Prim.Native.Nat.{ℕ}
use Rattle.std.specs.Prelude.{Option, Some, None, Result, Ok, Err, is_ok, unwrap_or, slice_get, MatchOption}
use Rattle.std.proofs.lemmas.Option.{none-some}
use mathlib.Core.Path.{◌≡◌, refl, sym, ap, ap₂, ◌∙◌}
use mathlib.Core.Bool.{Bool, true, false, cond}
use mathlib.Core.List.{List, [], ◌∷◌}
use lib.Dec.{eqb}
use lib.ListN.{length, drop}
use Rattle.refusal.specs.declared.Refusal.{Refusal}
use Rattle.keyboard.specs.declared.Keyboard.{Keyboard}
use Rattle.keyboard.specs.declared.Reply.{Reply}
use Rattle.refusal.specs.declared.Refusal.TheVariants.{NotAccepted}
use Rattle.keyboard.specs.declared.Reply.TheVariants.{Code, Null}
use Rattle.keyboard.specs.State.{codes_of, with_codes, with_left, accepted_of}
use Rattle.keyboard.specs.Steps.{Stepped, respond, if_accepted, oldest_else, key_by}
use Rattle.levels.proofs.Laws.{no}
use Rattle.keyboard.proofs.Codes.{emptied, ended-accepted}

pub passed : (k : Keyboard) (s : Stepped) → accepted_of k ≡ true → if_accepted k s ≡ s
passed k s h = ap (λ (b : Bool). cond b s (respond k (Err NotAccepted))) h

pub failed : (k : Keyboard) (s : Stepped) → accepted_of k ≡ false → if_accepted k s ≡ respond k (Err NotAccepted)
failed k s h = ap (λ (b : Bool). cond b s (respond k (Err NotAccepted))) h

-- a key, by what was tested
pub key-case : (k : Keyboard) (code : ℕ) (a b : Bool) → eqb k.left 0 ≡ a → eqb k.held 8 ≡ b → key_by (eqb k.left 0) (eqb k.held 8) code k ≡ key_by a b code k
key-case k code a b e f = ap₂ (λ (x y : Bool). key_by x y code k) e f

pub key-answers : (k : Keyboard) (code : ℕ) (b : Bool) → eqb k.left 0 ≡ false → key_by (eqb k.left 0) b code k ≡ key_by false b code k
key-answers k code b e = ap (λ (x : Bool). key_by x b code k) e

-- what passes the check is in its ranges
pub accepted : (k : Keyboard) → ◌≡◌ {A = Result (Unit {0}) Refusal} (Ok tt) (cond (accepted_of k) (Ok tt) (Err NotAccepted)) → accepted_of k ≡ true
accepted k e = by (accepted_of k) e
  where
    by : (b : Bool) → ◌≡◌ {A = Result (Unit {0}) Refusal} (Ok tt) (cond b (Ok tt) (Err NotAccepted)) → b ≡ true
    by true e = refl
    by false e = no (sym (ap is_ok e))

-- and stays in them when a waiting Inquiry ends
pub ended : (k : Keyboard) → ◌≡◌ {A = Result (Unit {0}) Refusal} (Ok tt) (cond (accepted_of k) (Ok tt) (Err NotAccepted)) → accepted_of (with_left k 0) ≡ true
ended k e = ended-accepted k (accepted k e)

-- ---- the oldest code, taken or not

pub taken : (k : Keyboard) (other : Stepped) (cs : List ℕ) (code : ℕ) → slice_get cs 0 ≡ Some code
    → oldest_else other cs k ≡ respond (with_codes k (drop 1 cs)) (Ok (Some (Code code)))
taken k other [] code e = absurd (none-some code e)
taken k other (c ∷ cs) code e = ap (λ (x : ℕ). respond (with_codes k cs) (Ok (Some (Code x)))) (ap (λ (o : Option ℕ). unwrap_or o 0) e)

pub untaken : (k : Keyboard) (other : Stepped) (cs : List ℕ) → slice_get cs 0 ≡ None → oldest_else other cs k ≡ other
untaken k other [] e = refl
untaken k other (c ∷ cs) e = absurd (none-some c (sym e))

-- with none taken the keyboard is as it was
pub unchanged : (k : Keyboard) → length k.codes ≡ 8 → accepted_of k ≡ true → slice_get (codes_of k) 0 ≡ None → with_codes k (drop 1 (codes_of k)) ≡ k
unchanged k l a e = ap (λ (cs : List ℕ). with_codes k (drop 1 cs)) (none (codes_of k) e) ∙ emptied k l a (none (codes_of k) e)
  where
    none : (cs : List ℕ) → slice_get cs 0 ≡ None → cs ≡ []
    none [] e = refl
    none (c ∷ cs) e = absurd (none-some c (sym e))

-- Instant: what is left, and what is said
pub instant-leaves : (k : Keyboard) → length k.codes ≡ 8 → accepted_of k ≡ true → with_codes k (drop 1 (codes_of k)) ≡ (oldest_else (respond k (Ok (Some Null))) (codes_of k) k).keyboard
instant-leaves k l a = by (codes_of k) (emptied k l a)
  where
    by : (cs : List ℕ) → (cs ≡ [] → with_codes k [] ≡ k) → with_codes k (drop 1 cs) ≡ (oldest_else (respond k (Ok (Some Null))) cs k).keyboard
    by [] f = f refl
    by (c ∷ cs) f = refl

pub instant-says : (k : Keyboard) (cs : List ℕ) (r : Reply) → MatchOption (slice_get cs 0) (r ≡ Null) (λ (code : ℕ). r ≡ Code code)
    → Ok (Some r) ≡ (oldest_else (respond k (Ok (Some Null))) cs k).response
instant-says k [] r m = ap (λ (x : Reply). Ok (Some x)) m
instant-says k (c ∷ cs) r m = ap (λ (x : Reply). Ok (Some x)) m
