-- Records that are put one after the other are read back.
use Prim.Native.Nat.{ℕ, zero, suc, ◌+◌, ◌-◌, ◌≤◌, ◌<◌}
use mathlib.Core.Path.{◌≡◌, refl, sym, ap, ◌∙◌}
use mathlib.Core.Bool.{Bool, true, false, cond}
use mathlib.Core.List.{List, [], ◌∷◌, ◌++◌}
use Rattle.std.specs.Prelude.{Option, Some, None}
use native.Mathlib.Omega.{arith}
use lib.ListN.{length, get_or, take, drop, length-append, get_or-append}
use lib.Seq.{length-take-le, take_at, get_or-take, get_or-drop, drop-append_seam}
use lib.Dec.{ltb}
use borrow.Author.Tests.{le-ltb, ltb-false}
use Rattle.octets.specs.Octets.{le16_of}
use Rattle.item_spec.specs.Record.{frame_of}
use Rattle.item_spec.specs.Kinds.{is_kind}
use Rattle.item_spec.proofs.RecordLaws.{whole-fits, whole_append}
use Rattle.sheet_spec.specs.Records.{record_by, first_of, row_by, Sheet, row, end, broken, sheet_from, sheet_of}
use Rattle.sheet_spec.proofs.Walk.{first-front, sheet-row}

-- a whole record alone is whole
pub whole_take : (l : List ℕ) (n : ℕ) → frame_of l ≡ Some n → frame_of (take n l) ≡ Some n
unfolding frame_of le16_of
whole_take l n = go (ltb (length l) 2) (ltb (le16_of l 0) 2) (ltb (length l - 2) (le16_of l 0)) refl refl refl
  where
    go : (x y z : Bool) → ltb (length l) 2 ≡ x → ltb (le16_of l 0) 2 ≡ y → ltb (length l - 2) (le16_of l 0) ≡ z
        → ◌≡◌ {A = Option ℕ} (cond x None (cond y None (cond z None (Some (le16_of l 0 + 2))))) (Some n) → frame_of (take n l) ≡ Some n
    go true y z p q r e = let h : ◌≡◌ {A = ℕ} 0 1 = cc in absurd (omega arith)
    go false true z p q r e = let h : ◌≡◌ {A = ℕ} 0 1 = cc in absurd (omega arith)
    go false false true p q r e = let h : ◌≡◌ {A = ℕ} 0 1 = cc in absurd (omega arith)
    go false false false p q r e =
        let m : le16_of l 0 + 2 ≡ n = cc in
        let two : 2 ≤ length l = ltb-false _ _ p in
        let low : 2 ≤ le16_of l 0 = ltb-false _ _ q in
        let fit : le16_of l 0 ≤ length l - 2 = ltb-false _ _ r in
        let len : length (take n l) ≡ n = length-take-le n l (omega arith) in
        let g : le16_of (take n l) 0 ≡ le16_of l 0 = simp (get_or-take n l 0 0 (omega arith), get_or-take n l 1 0 (omega arith)) in
        simp (g, le-ltb (length (take n l)) 2 (omega arith), le-ltb (le16_of l 0) 2 low, le-ltb (length (take n l) - 2) (le16_of l 0) (omega arith)) e

-- a list is a record: it is found whatever follows it
abbrev pub IsRecord : List ℕ → Type 0
IsRecord r = (7 ≤ length r) × ((t : List ℕ) → first_of (r ++ t) ≡ Some r)

-- the two bytes of a kind stay where something follows
kind-append : (l t k : List ℕ) (n : ℕ) → 4 ≤ n → n ≤ length l → is_kind (drop 2 (take n l ++ t)) k ≡ is_kind (drop 2 l) k
unfolding is_kind
kind-append l t k n h f =
    let len : length (take n l) ≡ n = length-take-le n l f in
    let at : (i : ℕ) → i < 4 → get_or (take n l ++ t) i 0 ≡ get_or l i 0 =
    (λ i q. get_or-append (take n l) t 0 i (omega arith) ∙ get_or-take n l i 0 (omega arith)) in
    simp (get_or-drop, at 2 (omega arith), at 3 (omega arith))

-- what is found at the front of some bytes is a record
pub first-record : (l r : List ℕ) → first_of l ≡ Some r → IsRecord r
unfolding first_of
first-record l r q = ((first-front l r q).least, by-frame (frame_of l) refl q)
  where
    by-frame : (f : Option ℕ) → frame_of l ≡ f → record_by f l ≡ Some r → (t : List ℕ) → first_of (r ++ t) ≡ Some r
    by-frame None e q = absurd (cc)
    by-frame (Some n) e q = go (ltb (n - 2) 5) (ltb 69 (n - 2)) (is_kind (drop 2 l) (83 ∷ 86 ∷ [])) refl refl refl q
      where
        go : (a b c : Bool) → ltb (n - 2) 5 ≡ a → ltb 69 (n - 2) ≡ b → is_kind (drop 2 l) (83 ∷ 86 ∷ []) ≡ c
            → cond a None (cond b None (cond c (Some (take n l)) None)) ≡ Some r → (t : List ℕ) → first_of (r ++ t) ≡ Some r
        go true b c ea eb ec q = absurd (cc)
        go false true c ea eb ec q = absurd (cc)
        go false false false ea eb ec q = absurd (cc)
        go false false true ea eb ec q = let s : take n l ≡ r = cc in rw (← s) found
          where
            found : (t : List ℕ) → first_of (take n l ++ t) ≡ Some (take n l)
            found t =
                let fit = whole-fits l n e in
                let w : frame_of (take n l ++ t) ≡ Some n = whole_append (take n l) t n (whole_take l n e) in
                let k : is_kind (drop 2 (take n l ++ t)) (83 ∷ 86 ∷ []) ≡ true = kind-append l t (83 ∷ 86 ∷ []) n fit.0 fit.1 ∙ ec in
                simp (w, ea, eb, k) (ap Some (take_at (take n l) t n (length-take-le n l fit.1)))

-- every row is a record
abbrev pub Records : Sheet → Type 0
Records (row r s) = IsRecord r × Records s
Records end = Unit {0}
Records broken = Unit {0}

pub sheet-records : (k : ℕ) (l : List ℕ) → Records (sheet_from k l)
unfolding sheet_from
sheet-records k [] = tt
sheet-records (suc k) (x ∷ xs) = sheet-records k xs
sheet-records zero (x ∷ xs) = go (λ k. sheet-records k xs) (first_of (x ∷ xs)) refl
  where
    go : ((k : ℕ) → Records (sheet_from k xs)) → (o : Option (List ℕ)) → first_of (x ∷ xs) ≡ o → Records (row_by o (λ k. sheet_from k xs))
    go rec None e = tt
    go rec (Some r) e = (first-record (x ∷ xs) r e, rec (length r - 1))

-- one more record at the front
pub sheet-cons : (r t : List ℕ) → IsRecord r → sheet_of (r ++ t) ≡ row r (sheet_of t)
sheet-cons r t p = sheet-row (r ++ t) r (p.1 t) ∙ ap (λ (x : List ℕ). row r (sheet_of x)) (drop-append_seam r t)
