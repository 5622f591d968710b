-- Records and answers as bytes: document 01, "Items and answers as bytes".
use Rattle.std.specs.Prelude.{ℕ, ◌+◌, ◌-◌, cond, List, [], ◌∷◌, length, ltb, Option, Some, None, Result, Ok, Err}
use Rattle.octets.specs.Octets.{le16_of}
use Rattle.refusal.specs.Numbers.{number_of}
use Rattle.refusal.specs.declared.Refusal.{Refusal}
use Rattle.item_spec.specs.declared.Shown.{Shown}

-- "A record is a length (2 bytes, counting what follows it), a kind (2 bytes), a body." Refusal 1: "fewer than 2 bytes left,
-- length below 2, or fewer bytes after the length than it says".
unfoldable pub frame_of : List ℕ → Option ℕ
frame_of s =
    cond (ltb (length s) 2) None
    (cond (ltb (le16_of s 0) 2) None
    (cond (ltb (length s - 2) (le16_of s 0)) None
    (Some (le16_of s 0 + 2))))

-- "Each answer is 8 bytes: length 6, kind OK, then value read .., interrupt level, disk-line byte, SEL; or length 6, kind NO, the
-- refusal number, three zeros." O is 79, K 75, N 78.
unfoldable pub answer_bytes : Result Shown Refusal → List ℕ
answer_bytes (Ok x) = 6 ∷ 0 ∷ 79 ∷ 75 ∷ x.value ∷ x.level ∷ x.lines ∷ x.sel ∷ []
answer_bytes (Err r) = 6 ∷ 0 ∷ 78 ∷ 79 ∷ number_of r ∷ 0 ∷ 0 ∷ 0 ∷ []

-- The value in an answer, or the refusal's number in its place; and the interrupt level in it.
abbrev pub answer_value : Result Shown Refusal → ℕ
answer_value (Ok x) = x.value
answer_value (Err r) = number_of r

abbrev pub answer_level : Result Shown Refusal → ℕ
answer_level (Ok x) = x.level
answer_level (Err r) = 0
