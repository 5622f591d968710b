-- An MW that is let through is its last write; a record of any other kind is handed on as it is.
use Prim.Native.Nat.{ℕ, ◌+◌, ◌-◌, ◌≤◌}
use mathlib.Core.Path.{◌≡◌, refl, sym, ap}
use mathlib.Core.List.{List}
use lib.ListN.{length, get_or}
use borrow.Author.Tests.{le-ltb, eq-eqb, ne_eqb}
use Rattle.std.specs.Prelude.{Result, Ok, Err}
use Rattle.refusal.specs.declared.Refusal.{Refusal}
use Rattle.item_spec.specs.Items.{read_record, write_record}
use Rattle.item_spec.specs.Ranged.{line_record}
use Rattle.item_spec.specs.Many.{count_of, counted_record, single}
use Rattle.item_spec.specs.Kinds.{one, many}
use Rattle.item_spec.specs.declared.Item.{Item}
use Rattle.item_spec.specs.declared.Many.{Many}
use Rattle.item_many.specs.LastWrite.{as_last_write}

counted-many : (s : List ℕ) (x : Many) → (count_of s ≡ 0 → ⊥) → count_of s ≤ 64 → length s ≡ 9 + count_of s → counted_record s x ≡ Ok x
unfolding counted_record
counted-many s x z h l = simp (ne_eqb (count_of s) 0 z, le-ltb 64 (count_of s) h, eq-eqb (length s) (9 + count_of s) l)

-- by its count and its length
pub last-write : (s : List ℕ) (x : Many) → (count_of s ≡ 0 → ⊥) → count_of s ≤ 64 → length s ≡ 9 + count_of s
    → Ok (single x x.wait (get_or s (length s - 1) 0)) ≡ as_last_write s (many (counted_record s x))
last-write s x z h l = ap (λ (r : Result Many Refusal). as_last_write s (many r)) (sym (counted-many s x z h l))

-- ---- the other kinds

pub one_same : (s : List ℕ) (r : Result Item Refusal) → r ≡ as_last_write s (one r)
one_same s (Ok i) = refl
one_same s (Err e) = refl

pub read_same : (s : List ℕ) → read_record s ≡ as_last_write s (one (read_record s))
read_same s = one_same s (read_record s)

pub write_same : (s : List ℕ) → write_record s ≡ as_last_write s (one (write_record s))
write_same s = one_same s (write_record s)

pub line_same : (s : List ℕ) → line_record s ≡ as_last_write s (one (line_record s))
line_same s = one_same s (line_record s)
