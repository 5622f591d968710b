-- Laws of the definitions of `specs/Record.antt` that callers cite.
use Prim.Native.Nat.{ℕ, ◌+◌, ◌-◌, ◌≤◌}
use mathlib.Core.Path.{◌≡◌, refl}
use mathlib.Core.Bool.{Bool, true, false, cond}
use mathlib.Core.List.{List, ◌++◌}
use native.Mathlib.Omega.{arith}
use lib.ListN.{length, length-append, get_or-append}
use lib.Dec.{ltb}
use Rattle.std.specs.Prelude.{Option, Some, None, Result, Ok, Err}
use Rattle.refusal.specs.declared.Refusal.{Refusal}
use borrow.Author.Tests.{ltb-false, le-ltb}
use Rattle.octets.specs.Octets.{le16_of}
use Rattle.item_spec.specs.Record.{frame_of, answer_bytes}
use Rattle.item_spec.specs.declared.Shown.{Shown}

-- an answer is eight bytes
pub answer-long : (x : Result Shown Refusal) → length (answer_bytes x) ≡ 8
unfolding answer_bytes
answer-long (Ok x) = refl
answer-long (Err r) = refl

-- a whole record has four bytes at least, and lies within the list
pub whole-fits : (s : List ℕ) (n : ℕ) → frame_of s ≡ Some n → (4 ≤ n) × (n ≤ length s)
unfolding frame_of
whole-fits s n = go (ltb (length s) 2) (ltb (le16_of s 0) 2) (ltb (length s - 2) (le16_of s 0)) refl refl refl
  where
    go : (x y z : Bool) → ltb (length s) 2 ≡ x → ltb (le16_of s 0) 2 ≡ y → ltb (length s - 2) (le16_of s 0) ≡ z
        → ◌≡◌ {A = Option ℕ} (cond x None (cond y None (cond z None (Some (le16_of s 0 + 2))))) (Some n) → (4 ≤ n) × (n ≤ length s)
    go true y z p q r e = let h : ◌≡◌ {A = ℕ} 0 1 = cc in absurd (omega arith)
    go false true z p q r e = let h : ◌≡◌ {A = ℕ} 0 1 = cc in absurd (omega arith)
    go false false true p q r e = let h : ◌≡◌ {A = ℕ} 0 1 = cc in absurd (omega arith)
    go false false false p q r e = let h : le16_of s 0 + 2 ≡ n = cc in omega (arith, ltb-false)

-- a whole record is one in every longer list
pub whole_append : (s t : List ℕ) (n : ℕ) → frame_of s ≡ Some n → frame_of (s ++ t) ≡ Some n
unfolding frame_of le16_of
whole_append s t n = go (ltb (length s) 2) (ltb (le16_of s 0) 2) (ltb (length s - 2) (le16_of s 0)) refl refl refl
  where
    go : (x y z : Bool) → ltb (length s) 2 ≡ x → ltb (le16_of s 0) 2 ≡ y → ltb (length s - 2) (le16_of s 0) ≡ z
        → ◌≡◌ {A = Option ℕ} (cond x None (cond y None (cond z None (Some (le16_of s 0 + 2))))) (Some n) → frame_of (s ++ t) ≡ Some n
    go true y z p q r e = let h : ◌≡◌ {A = ℕ} 0 1 = cc in absurd (omega arith)
    go false true z p q r e = let h : ◌≡◌ {A = ℕ} 0 1 = cc in absurd (omega arith)
    go false false true p q r e = let h : ◌≡◌ {A = ℕ} 0 1 = cc in absurd (omega arith)
    go false false false p q r e =
        let two : 2 ≤ length s = ltb-false _ _ p in
        let low : 2 ≤ le16_of s 0 = ltb-false _ _ q in
        let fit : le16_of s 0 ≤ length s - 2 = ltb-false _ _ r in
        let l : length (s ++ t) ≡ length s + length t = length-append s t in
        let g : le16_of (s ++ t) 0 ≡ le16_of s 0 = simp (get_or-append s t 0 0 (omega arith), get_or-append s t 0 1 (omega arith)) in
        simp (g, le-ltb (length (s ++ t)) 2 (omega arith), le-ltb (le16_of s 0) 2 low, le-ltb (length (s ++ t) - 2) (le16_of s 0) (omega arith)) e
