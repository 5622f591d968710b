-- Records put one after the other are read back as they are.
use Prim.Native.Nat.{ℕ, zero, suc, ◌+◌, ◌-◌, ◌≤◌}
use mathlib.Core.Path.{◌≡◌, refl, sym, ap, ◌∙◌}
use mathlib.Core.Bool.{Bool, true, false, cond}
use mathlib.Core.List.{List, [], ◌∷◌, ◌++◌}
use native.Mathlib.Omega.{arith}
use lib.ListN.{length, take, drop}
use lib.Seq.{length-take-le, get_or-take, take-append_seam, drop-append_seam}
use lib.Dec.{ltb}
use borrow.Author.Tests.{ltb-false, le-ltb}
use Rattle.octets.specs.Octets.{le16_of}
use Rattle.item_spec.specs.Record.{frame_of}
use Rattle.std.specs.Prelude.{Option, Some, None}
use Rattle.item_spec.proofs.RecordLaws.{whole_append}
use Rattle.capture_spec.specs.declared.Levels.{Levels}
use Rattle.capture_spec.specs.Capture.{Capture, row, end, cut, framed, capture_from, capture_of}
use Rattle.capture_spec.specs.Convert.{line_for, disk_for}
use Rattle.capture_spec.proofs.Walk.{capture-row}

-- a list is one whole record
abbrev pub IsRecord : List ℕ → Type 0
IsRecord r = frame_of r ≡ Some (length r)

-- a record that stands at the front of a list is one by itself
pub whole_take : (l : List ℕ) (n : ℕ) → frame_of l ≡ Some n → IsRecord (take n l)
unfolding frame_of le16_of
whole_take l n = go (ltb (length l) 2) (ltb (le16_of l 0) 2) (ltb (length l - 2) (le16_of l 0)) refl refl refl
  where
    go : (x y z : Bool) → ltb (length l) 2 ≡ x → ltb (le16_of l 0) 2 ≡ y → ltb (length l - 2) (le16_of l 0) ≡ z
        → ◌≡◌ {A = Option ℕ} (cond x None (cond y None (cond z None (Some (le16_of l 0 + 2))))) (Some n) → frame_of (take n l) ≡ Some (length (take n l))
    go true y z p q r e = let h : ◌≡◌ {A = ℕ} 0 1 = cc in absurd (omega arith)
    go false true z p q r e = let h : ◌≡◌ {A = ℕ} 0 1 = cc in absurd (omega arith)
    go false false true p q r e = let h : ◌≡◌ {A = ℕ} 0 1 = cc in absurd (omega arith)
    go false false false p q r e =
        let two : 2 ≤ length l = ltb-false _ _ p in
        let low : 2 ≤ le16_of l 0 = ltb-false _ _ q in
        let fit : le16_of l 0 ≤ length l - 2 = ltb-false _ _ r in
        let size : le16_of l 0 + 2 ≡ n = cc in
        let long : length (take n l) ≡ n = length-take-le n l (omega arith) in
        let g : le16_of (take n l) 0 ≡ le16_of l 0 = simp (get_or-take n l 0 0 (omega arith), get_or-take n l 1 0 (omega arith)) in
        simp (g, le-ltb (length (take n l)) 2 (omega arith), le-ltb (le16_of l 0) 2 low, le-ltb (length (take n l) - 2) (le16_of l 0) (omega arith))
        (ap Some (size ∙ sym long))

-- the IN and the DI that are written are records
pub line-record : (m : Levels) (r : List ℕ) → IsRecord (line_for m r)
unfolding frame_of le16_of line_for
line-record m r = refl

pub disk-record : (m : Levels) (r : List ℕ) → IsRecord (disk_for m r)
unfolding frame_of le16_of disk_for
disk-record m r = refl

-- every row of a capture is a record
abbrev pub Records : Capture → Type 0
Records (row r c) = IsRecord r × Records c
Records end = Unit {0}
Records (cut l) = Unit {0}

pub capture-records : (k : ℕ) (l : List ℕ) → Records (capture_from k l)
unfolding capture_from
capture-records k [] = tt
capture-records (suc k) (x ∷ xs) = capture-records k xs
capture-records zero (x ∷ xs) = go (λ k. capture-records k xs) (frame_of (x ∷ xs)) refl
  where
    go : ((k : ℕ) → Records (capture_from k xs)) → (f : Option ℕ) → frame_of (x ∷ xs) ≡ f → Records (framed f (x ∷ xs) (λ k. capture_from k xs))
    go rec (Some n) e = (whole_take (x ∷ xs) n e, rec (n - 1))
    go rec None e = tt

-- one more record at the front
pub capture-cons : (r t : List ℕ) → IsRecord r → capture_of (r ++ t) ≡ row r (capture_of t)
capture-cons r t e =
    capture-row (r ++ t) (length r) (whole_append r t (length r) e)
    ∙ ap (λ (x : List ℕ). row x (capture_of (drop (length r) (r ++ t)))) (take-append_seam r t)
    ∙ ap (λ (x : List ℕ). row r (capture_of x)) (drop-append_seam r t)
