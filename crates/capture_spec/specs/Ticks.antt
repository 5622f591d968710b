-- The ticks that a capture passes before and after W-214: "Given room, a capture without DI passes as many ticks as before W-214."
use Rattle.std.specs.Prelude.{ℕ, suc, ◌+◌, Bool, cond, List, [], ◌∷◌, eqb}
use Rattle.item_spec.specs.Items.{record_wait, refusal_of}
use Rattle.item_spec.specs.Kinds.{is_kind, decoded_of}
use Rattle.capture_spec.specs.Capture.{Capture, row, end, cut, body_of, retired_of}

-- The refusal of a record by its bytes: after W-214, and before it, when refusal 9 was none.
unfoldable pub refusal_after : List ℕ → ℕ
refusal_after r = refusal_of (decoded_of (body_of r))

unfoldable pub refusal_before : List ℕ → ℕ
refusal_before r = cond (retired_of r) 0 (refusal_after r)

-- Kind DI, the only one that the state may refuse, with 8. D is 68, I 73.
unfoldable pub is_disk : List ℕ → Bool
is_disk r = is_kind (body_of r) (68 ∷ 73 ∷ [])

-- VIA ticks that a record passes: its wait, where it is carried out. `eight` says whether the state refuses a DI.
unfoldable pub passes : (List ℕ → ℕ) → Bool → List ℕ → ℕ
passes refusal eight r = cond (eqb (refusal r) 0) (cond (is_disk r) (cond eight 0 (record_wait (body_of r)).0) (record_wait (body_of r)).0) 0

-- VIA ticks that a capture passes, whichever of its DI are refused with 8: `eight n` speaks of the record with n before it.
unfoldable pub ticks : (List ℕ → ℕ) → (ℕ → Bool) → ℕ → Capture → ℕ
ticks refusal eight n (row r c) = passes refusal (eight n) r + ticks refusal eight (suc n) c
ticks refusal eight n end = 0
ticks refusal eight n (cut l) = 0
