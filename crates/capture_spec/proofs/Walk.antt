-- Walking a capture record by record.
use Prim.Native.Nat.{ℕ, zero, suc, ◌+◌, ◌-◌, ◌≤◌, ◌<◌}
use mathlib.Core.Path.{◌≡◌, refl, sym, ap, ◌∙◌}
use mathlib.Core.Bool.{Bool, true, false, cond}
use mathlib.Core.List.{List, [], ◌∷◌, ◌++◌}
use native.Mathlib.Omega.{arith}
use native.Mathlib.Nat.{le_of_eq}
use lib.ListN.{length, take, drop, length-drop}
use lib.Seq.{take_all}
use Rattle.item_spec.specs.Record.{frame_of}
use Rattle.std.specs.Prelude.{Some, None}
use Rattle.item_spec.proofs.RecordLaws.{whole-fits}
use Rattle.capture_spec.specs.declared.Levels.{Levels}
use Rattle.capture_spec.specs.Capture.{Capture, row, end, cut, framed, capture_from, capture_of, retired_of}
use Rattle.capture_spec.specs.Levels.{next_of}
use Rattle.capture_spec.specs.Convert.{line_for, changes_of, part_of, lone_of, turned_from, count_from, end_of}
use Rattle.capture_spec.proofs.Parts.{size-line, size-pair}

pub capture-drop : (k : ℕ) (l : List ℕ) → capture_from k l ≡ capture_of (drop k l)
unfolding capture_from
capture-drop zero l = refl
capture-drop (suc k) [] = refl
capture-drop (suc k) (x ∷ xs) = capture-drop k xs

-- no bytes
pub capture-end : (l : List ℕ) → length l ≤ 0 → capture_of l ≡ end
unfolding capture_from
capture-end [] h = refl
capture-end (x ∷ xs) h = absurd (omega arith)

-- a record refused with 1
pub capture-cut : (l : List ℕ) → 0 < length l → frame_of l ≡ None → capture_of l ≡ cut l
unfolding capture_from
capture-cut [] h e = absurd (omega arith)
capture-cut (x ∷ xs) h e = ap (λ f. framed f (x ∷ xs) (λ k. capture_from k xs)) e

-- a whole record
pub capture-row : (l : List ℕ) (n : ℕ) → frame_of l ≡ Some n → capture_of l ≡ row (take n l) (capture_of (drop n l))
unfolding capture_from
capture-row [] n e = let h = whole-fits [] n e in absurd (omega arith)
capture-row (x ∷ xs) zero e = let h = whole-fits (x ∷ xs) 0 e in absurd (omega arith)
capture-row (x ∷ xs) (suc n) e =
    ap (λ f. framed f (x ∷ xs) (λ k. capture_from k xs)) e
    ∙ ap (λ (c : Capture). row (take (suc n) (x ∷ xs)) c) (ap (λ (k : ℕ). capture_from k xs) (omega arith) ∙ capture-drop n xs)

-- the rest of a slice, as code has it
pub rest_of : (l : List ℕ) (n : ℕ) → take (length l - n) (drop n l) ≡ drop n l
rest_of l n = take_all (length l - n) (drop n l) (le_of_eq (length-drop n l))

pub capture-next : (l : List ℕ) (n : ℕ) → frame_of l ≡ Some n → capture_of l ≡ row (take n l) (capture_of (take (length l - n) (drop n l)))
capture-next l n e = rw rest_of (capture-row l n e)

-- what is counted is written
pub lone-fits : (m : Levels) (r : List ℕ) → lone_of m r ≤ length (part_of m r)
unfolding lone_of
lone-fits m r = go (retired_of r) (changes_of m r) refl refl
  where
    go : (t u : Bool) → retired_of r ≡ t → changes_of m r ≡ u → cond t (cond u 0 1) 0 ≤ length (part_of m r)
    go true true p q = omega arith
    go true false p q = omega (arith, size-line m r p q)
    go false u p q = omega arith
