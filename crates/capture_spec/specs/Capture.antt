-- A capture as its records: document 01, "Items and answers as bytes", and which of its records request W-214 speaks of.
use Rattle.std.specs.Prelude.{ℕ, zero, suc, ◌-◌, Bool, false, cond, ◌≡◌, List, [], ◌∷◌, ◌++◌, Option, Some, None as Nothing, get_or, take, drop, eqb}
use Rattle.item_spec.specs.Record.{frame_of}
use Rattle.item_spec.specs.Items.{refusal_of}
use Rattle.item_spec.specs.Kinds.{is_kind, decoded_of}

-- A capture is its whole records, each with the two bytes of its length, up to the end or up to one refused with 1.
pub data Capture : Type 0 where
  row : List ℕ → Capture → Capture
  end : Capture
  cut : List ℕ → Capture

abbrev pub framed : Option ℕ → List ℕ → (ℕ → Capture) → Capture
framed (Some n) l go = row (take n l) (go (n - 1))
framed Nothing l go = cut l

-- The records after the first k bytes.
unfoldable pub capture_from : ℕ → List ℕ → Capture
capture_from k [] = end
capture_from zero (x ∷ xs) = framed (frame_of (x ∷ xs)) (x ∷ xs) (λ k. capture_from k xs)
capture_from (suc k) (x ∷ xs) = capture_from k xs

abbrev pub capture_of : List ℕ → Capture
capture_of l = capture_from 0 l

-- The bytes of its whole records.
unfoldable pub bytes_of : Capture → List ℕ
bytes_of (row r c) = r ++ bytes_of c
bytes_of end = []
bytes_of (cut l) = []

-- The bytes from the record refused with 1 on.
unfoldable pub left_of : Capture → List ℕ
left_of (row r c) = left_of c
left_of end = []
left_of (cut l) = l

-- No whole record has this property.
abbrev pub None : (List ℕ → Bool) → Capture → Type 0
None p (row r c) = (p r ≡ false) × None p c
None p end = Unit {0}
None p (cut l) = Unit {0}

-- The bytes of a record after its length, as the decoder takes them.
abbrev pub body_of : List ℕ → List ℕ
body_of r = drop 2 r

-- "A valid retired SN": its length and ranges are right and its register is one of those that go, so "such an item is refusal 9". S is 83, N 78.
unfoldable pub retired_of : List ℕ → Bool
retired_of r = cond (is_kind (body_of r) (83 ∷ 78 ∷ [])) (eqb (refusal_of (decoded_of (body_of r))) 9) false

-- A valid IN on line 0. I is 73, N 78.
unfoldable pub line0_of : List ℕ → Bool
line0_of r = cond (is_kind (body_of r) (73 ∷ 78 ∷ [])) (cond (eqb (refusal_of (decoded_of (body_of r))) 0) (eqb (get_or r 6 0) 0) false) false
