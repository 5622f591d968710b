-- What the bytes of a record, its kind first, ask for: document 01, "Items and answers as bytes" and refusal 2, and the kinds of requests W-203 (DI), W-211 (MW) and W-210 (KC).
use Rattle.std.specs.Prelude.{ℕ, Bool, cond, ◌&&◌, List, [], ◌∷◌, get_or, eqb, Result, Ok, Err}
use Rattle.item_spec.specs.Items.{read_record, write_record, power_record, plain_record}
use Rattle.item_spec.specs.Ranged.{line_record, sense_record, disk_record, pulse_record}
use Rattle.item_spec.specs.Many.{many_record}
use Rattle.item_spec.specs.declared.Item.{Item}
use Rattle.item_spec.specs.declared.Many.{Many}
use Rattle.item_spec.specs.declared.Decoded.{Decoded}
use Rattle.item_spec.specs.declared.Decoded.TheVariants.{One}
use Rattle.refusal.specs.declared.Refusal.{Refusal}
use Rattle.refusal.specs.declared.Refusal.TheVariants.{UnknownKind}
use Rattle.item_spec.specs.declared.Plain.{Plain}

-- "The kinds are compared as two fixed bytes of ASCII."
unfoldable pub is_kind : List ℕ → List ℕ → Bool
is_kind s k = eqb (get_or s 0 0) (get_or k 0 0) && eqb (get_or s 1 0) (get_or k 1 0)

-- A record asks for one item, or for many writes.
abbrev pub one : Result Item Refusal → Result Decoded Refusal
one (Ok x) = Ok (One x)
one (Err r) = Err r

abbrev pub many : Result Many Refusal → Result Decoded Refusal
many (Ok x) = Ok (Decoded.Many x)
many (Err r) = Err r

-- The table of kinds; refusal 2, "unknown kind", comes before 3, 4 and 5.
unfoldable pub decoded_of : List ℕ → Result Decoded Refusal
decoded_of s =
    cond (is_kind s (82 ∷ 68 ∷ [])) (one (read_record s))
    (cond (is_kind s (87 ∷ 82 ∷ [])) (one (write_record s))
    (cond (is_kind s (86 ∷ 66 ∷ [])) (one (plain_record s Plain.Blank))
    (cond (is_kind s (83 ∷ 69 ∷ [])) (one (plain_record s Plain.Second))
    (cond (is_kind s (73 ∷ 78 ∷ [])) (one (line_record s))
    (cond (is_kind s (83 ∷ 78 ∷ [])) (one (sense_record s))
    (cond (is_kind s (82 ∷ 83 ∷ [])) (one (plain_record s Plain.Reset))
    (cond (is_kind s (80 ∷ 87 ∷ [])) (one (power_record s))
    (cond (is_kind s (68 ∷ 73 ∷ [])) (one (disk_record s))
    (cond (is_kind s (77 ∷ 87 ∷ [])) (many (many_record s))
    (cond (is_kind s (75 ∷ 67 ∷ [])) (one (pulse_record s))
    (Err UnknownKind)))))))))))
