-- Where a record's values stand: an MW's from byte 9 on, a WR's one at its end. MW alone of the kinds begins with M, 77. A record of any other kind has none: its last byte is
-- handed on unused.
use Rattle.std.specs.Prelude.{ℕ, ◌-◌, cond, List, length, get_or, drop, eqb}

abbrev pub first_value : List ℕ → ℕ
first_value s = cond (eqb (get_or s 0 0) 77) 9 (length s - 1)

abbrev pub values_in : List ℕ → List ℕ
values_in s = drop (first_value s) s
