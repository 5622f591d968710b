-- Many writes in one item: request W-211.
use Rattle.std.specs.Prelude.{ℕ, ◌+◌, ◌≤◌, ◌<◌, ◌≡◌, cond, List, [], ◌∷◌, length, get_or, drop, ltb, eqb, Some, Result, Ok, Err}
use Rattle.units.specs.Units.{for_ticks}
use Rattle.units.specs.declared.WaitTicks.{WaitTicks}
use Rattle.octets.specs.Octets.{le32_of}
use Rattle.item_spec.specs.Addresses.{found_of}
use Rattle.item_spec.specs.Items.{of_length, at_address, record_wait, write_to, LocationInRange}
use Rattle.item_spec.specs.declared.Location.{Location}
use Rattle.item_spec.specs.declared.Item.{Item}
use Rattle.item_spec.specs.declared.Many.{Many}
use Rattle.refusal.specs.declared.Refusal.{Refusal}
use Rattle.refusal.specs.declared.Refusal.TheVariants.{WrongLength, OutOfRange}

-- "MW, length 9 plus the number of values, has after its wait: address (4), count 1 to 64 (1), that many values."
abbrev pub count_of : List ℕ → ℕ
count_of s = get_or s 8 0

abbrev pub values_of : List ℕ → List ℕ
values_of s = drop 9 s

-- "A count of 0 or above 64 is 5; a length other than 9 plus the count is 3."
unfoldable pub counted_record : List ℕ → Many → Result Many Refusal
counted_record s x =
    cond (eqb (count_of s) 0) (Err OutOfRange)
    (cond (ltb 64 (count_of s)) (Err OutOfRange)
    (of_length s (9 + count_of s) (Ok x)))

-- Where the record writes to: a VIA register, or an IWM location.
abbrev pub many_at : List ℕ → Location → Many
many_at s l = record { wait = record_wait s; to = l }

-- "For MW this order replaces document 01's: a length below 9 is refusal 3; a wrong address 4", and then the count and the length.
unfoldable pub many_record : List ℕ → Result Many Refusal
many_record s =
    cond (ltb (length s) 9) (Err WrongLength)
    (at_address (found_of (le32_of s 4)) (λ l. counted_record s (many_at s l)))

-- One of the single WR items, after a wait.
abbrev pub single : Many → WaitTicks → ℕ → Item
single x w v = write_to x.to w v

-- "The first value comes after the wait and the others with no wait."
abbrev pub singles_after : Many → WaitTicks → List ℕ → List Item
singles_after x w [] = []
singles_after x w (v ∷ vs) = single x w v ∷ singles_after x (for_ticks 0) vs

-- The single WR items of a record, the first first.
abbrev pub singles_of : Many → List ℕ → List Item
singles_of x s = singles_after x x.wait (values_of s)

-- A single WR record, as its bytes after the length: the MW record's own address, a wait of two bytes, a value. W is 87, R 82.
abbrev pub single_bytes : List ℕ → ℕ → ℕ → ℕ → List ℕ
single_bytes s a b v = 87 ∷ 82 ∷ a ∷ b ∷ get_or s 4 0 ∷ get_or s 5 0 ∷ get_or s 6 0 ∷ get_or s 7 0 ∷ v ∷ []

abbrev pub single_records_after : List ℕ → ℕ → ℕ → List ℕ → List (List ℕ)
single_records_after s a b [] = []
single_records_after s a b (v ∷ vs) = single_bytes s a b v ∷ single_records_after s 0 0 vs

-- The single WR records of an MW record s, the first first, which has its wait; the others wait no tick.
abbrev pub single_records : List ℕ → List (List ℕ)
single_records s = single_records_after s (get_or s 2 0) (get_or s 3 0) (values_of s)

-- What an MW has of its record s: the wait, and the address, which is one of the 32; and s has 1 to 64 values.
pub record ManyInRange (s : List ℕ) (x : Many) : Type 0 where
  pub wait : x.wait ≡ record_wait s
  pub found : found_of (le32_of s 4) ≡ Some x.to
  pub number : LocationInRange x.to
  pub least : 10 ≤ length s
  pub most : length s ≤ 73

-- Its wait is within two bytes.
abbrev pub ManyInWidth : Many → Type 0
ManyInWidth x = x.wait.0 < 65536
