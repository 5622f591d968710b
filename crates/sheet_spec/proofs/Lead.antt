-- A walk over a sheet: what counts of a setting so far, and where it stands.
use Prim.Native.Nat.{ℕ, ◌+◌, ◌-◌, ◌≤◌}
use mathlib.Core.Path.{◌≡◌, refl, ◌∙◌}
use mathlib.Core.Bool.{Bool, true, false, cond}
use mathlib.Core.List.{List, []}
use Rattle.std.specs.Prelude.{Option, Some, None, Result, Ok, Err}
use native.Mathlib.Omega.{arith}
use lib.ListN.{length}
use lib.Dec.{ltb}
use Rattle.refusal.specs.declared.Refusal.{Refusal}
use Rattle.refusal.specs.declared.Refusal.TheVariants.{CutRecord}
use Rattle.sheet_spec.specs.Records.{Sheet, row, end, broken, is_broken}
use Rattle.sheet_spec.specs.Counting.{version_of, beats_of, better_of, counting_from, counting_of, start_from, start_of}
use Rattle.sheet_spec.specs.Lookup.{search_of}

-- of the sheet `all` the records `left` are left, `at` bytes before them; of setting k the record b counts so far, and its bytes start at n
pub record Lead (all left : Sheet) (at k : ℕ) (b : List ℕ) (n : ℕ) : Type 0 where
  pub whole : is_broken all ≡ is_broken left
  pub counting : counting_of all k ≡ counting_from k b left
  pub start : start_of all k ≡ start_from k (version_of b) n at left
  pub early : n ≤ at

pub lead-first : (all : Sheet) (k : ℕ) → Lead all all 0 k [] 0
unfolding counting_of start_of
lead-first all k = record { whole = refl; counting = refl; start = refl; early = omega arith }

module _ (all : Sheet) (r : List ℕ) (s : Sheet) (at k : ℕ) (b : List ℕ) (n : ℕ) (w : Lead all (row r s) at k b n) (long : 7 ≤ length r) where
  -- one more record, whether or not it counts in place of b
  lead-by : (t : Bool) → beats_of k (version_of b) r ≡ t → Lead all s (at + length r) k (cond t r b) (cond t (at + 7) n)
  unfolding is_broken counting_from start_from better_of
  lead-by true e =
      let early = w.early in
      record { whole = w.whole; counting = simp e at w.counting; start = simp e at w.start; early = omega arith }
  lead-by false e =
      let early = w.early in
      record { whole = w.whole; counting = simp e at w.counting; start = simp e at w.start; early = omega arith }

  pub lead-yes : beats_of k (version_of b) r ≡ true → Lead all s (at + length r) k r (at + 7)
  lead-yes e = lead-by true e

  pub lead-no : beats_of k (version_of b) r ≡ false → Lead all s (at + length r) k b n
  lead-no e = lead-by false e

-- what the sheet says of the setting, where the walk stops
module _ (all : Sheet) (at k : ℕ) (b : List ℕ) (n : ℕ) where
  pub search-broken : Lead all broken at k b n → Err CutRecord ≡ search_of all k
  unfolding search_of is_broken
  search-broken w = simp w.whole

  pub search-end : Lead all end at k b n → cond (ltb (length b) 7) (Ok None) (Ok (Some (record { start = n; size = length b - 7 }))) ≡ search_of all k
  unfolding search_of is_broken counting_from start_from
  search-end w = simp (w.whole, w.counting, w.start)
