-- The records of a sheet: document 02, W-213.
use Rattle.std.specs.Prelude.{ℕ, zero, suc, ◌-◌, Bool, true, false, cond, List, [], ◌∷◌, Option, Some, None, length, take, drop, ltb}
use Rattle.item_spec.specs.Record.{frame_of}
use Rattle.item_spec.specs.Kinds.{is_kind}

-- "records of kind SV: setting number (2), version (1), then up to 64 bytes": the record of n bytes, its length's two among them. There is none at
-- "a cut record, another kind, or a length outside 5 to 69". S is 83, V 86.
abbrev pub record_by : Option ℕ → List ℕ → Option (List ℕ)
record_by None s = None
record_by (Some n) s =
    cond (ltb (n - 2) 5) None
    (cond (ltb 69 (n - 2)) None
    (cond (is_kind (drop 2 s) (83 ∷ 86 ∷ [])) (Some (take n s)) None))

-- The record at the front of some bytes.
unfoldable pub first_of : List ℕ → Option (List ℕ)
first_of s = record_by (frame_of s) s

-- "A sheet is a run of records": to its end, or to bytes that are no record.
pub data Sheet : Type 0 where
  row : List ℕ → Sheet → Sheet
  end : Sheet
  broken : Sheet

abbrev pub row_by : Option (List ℕ) → (ℕ → Sheet) → Sheet
row_by None after = broken
row_by (Some r) after = row r (after (length r - 1))

-- The sheet after the first k bytes.
unfoldable pub sheet_from : ℕ → List ℕ → Sheet
sheet_from k [] = end
sheet_from zero (x ∷ xs) = row_by (first_of (x ∷ xs)) (λ k. sheet_from k xs)
sheet_from (suc k) (x ∷ xs) = sheet_from k xs

abbrev pub sheet_of : List ℕ → Sheet
sheet_of s = sheet_from 0 s

-- "a broken sheet is refusal 1"
unfoldable pub is_broken : Sheet → Bool
is_broken (row r s) = is_broken s
is_broken end = false
is_broken broken = true
