-- Walking a sheet: laws on plain lists.
use Prim.Native.Nat.{ℕ, zero, suc, ◌-◌, ◌≤◌, ◌<◌}
use mathlib.Core.Path.{◌≡◌, refl, ap, ◌∙◌}
use mathlib.Core.Bool.{Bool, true, false, cond}
use mathlib.Core.List.{List, [], ◌∷◌}
use Rattle.std.specs.Prelude.{Option, Some, None}
use native.Mathlib.Omega.{arith}
use lib.ListN.{length, take, drop}
use lib.Seq.{length-take-le}
use lib.Dec.{ltb}
use borrow.Author.Tests.{ltb-false}
use Rattle.item_spec.specs.Record.{frame_of}
use Rattle.item_spec.specs.Kinds.{is_kind}
use Rattle.item_spec.proofs.RecordLaws.{whole-fits}
use Rattle.sheet_spec.specs.Records.{record_by, first_of, row_by, Sheet, row, end, broken, sheet_from, sheet_of}

pub sheet-drop : (k : ℕ) (l : List ℕ) → sheet_from k l ≡ sheet_of (drop k l)
unfolding sheet_from
sheet-drop zero l = refl
sheet-drop (suc k) [] = refl
sheet-drop (suc k) (x ∷ xs) = sheet-drop k xs

-- the record at the front is the front, and has 7 bytes or more
pub record IsFront (l r : List ℕ) : Type 0 where
  pub least : 7 ≤ length r
  pub most : length r ≤ length l
  pub front : r ≡ take (length r) l

pub first-front : (l r : List ℕ) → first_of l ≡ Some r → IsFront l r
unfolding first_of
first-front l r = by-frame (frame_of l) refl
  where
    by-frame : (f : Option ℕ) → frame_of l ≡ f → record_by f l ≡ Some r → IsFront l r
    by-frame None e q = absurd (cc)
    by-frame (Some n) e q = go (ltb (n - 2) 5) (ltb 69 (n - 2)) (is_kind (drop 2 l) (83 ∷ 86 ∷ [])) refl q
      where
        go : (a b c : Bool) → ltb (n - 2) 5 ≡ a → cond a None (cond b None (cond c (Some (take n l)) None)) ≡ Some r → IsFront l r
        go true b c p q = absurd (cc)
        go false true c p q = absurd (cc)
        go false false false p q = absurd (cc)
        go false false true p q =
            let s : take n l ≡ r = cc in
            let f : n ≤ length l = (whole-fits l n e).1 in
            let m : length (take n l) ≡ n = length-take-le n l f in
            let d : 5 ≤ n - 2 = ltb-false _ _ p in
            rw (← s) (record { least = omega arith; most = omega arith; front = rw m refl })

-- no bytes
pub sheet-end : (l : List ℕ) → length l ≤ 0 → sheet_of l ≡ end
unfolding sheet_from
sheet-end [] h = refl
sheet-end (x ∷ xs) h = absurd (omega arith)

-- some bytes, and no record at their front
pub sheet-broken : (l : List ℕ) → 0 < length l → first_of l ≡ None → sheet_of l ≡ broken
unfolding sheet_from
sheet-broken [] h e = absurd (omega arith)
sheet-broken (x ∷ xs) h e = ap (λ (o : Option (List ℕ)). row_by o (λ k. sheet_from k xs)) e

-- a record
pub sheet-row : (l r : List ℕ) → first_of l ≡ Some r → sheet_of l ≡ row r (sheet_of (drop (length r) l))
unfolding sheet_from
sheet-row [] r e = let f = first-front [] r e in absurd (omega arith)
sheet-row (x ∷ xs) r e =
    let f = first-front (x ∷ xs) r e in
    let one : suc (length r - 1) ≡ length r = omega arith in
    ap (λ (o : Option (List ℕ)). row_by o (λ k. sheet_from k xs)) e
    ∙ ap (row r) (sheet-drop (length r - 1) xs ∙ ap (λ (n : ℕ). sheet_of (drop n (x ∷ xs))) one)
