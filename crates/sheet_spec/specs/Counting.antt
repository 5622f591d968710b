-- Which record of a sheet counts: document 02, W-213. "Within a sheet the highest version of a setting counts, the later record where
-- versions are equal."
use Rattle.std.specs.Prelude.{ℕ, ◌+◌, Bool, true, false, cond, List, [], length, get_or, drop, ltb, eqb}
use Rattle.octets.specs.Octets.{le16_of}
use Rattle.sheet_spec.specs.Records.{Sheet, row, end, broken}

-- "setting number (2), version (1), then up to 64 bytes"; of no record the version is 0, and there are no bytes.
abbrev pub setting_of : List ℕ → ℕ
setting_of r = le16_of r 4

abbrev pub version_of : List ℕ → ℕ
version_of r = get_or r 6 0

abbrev pub body_of : List ℕ → List ℕ
body_of r = drop 7 r

-- A record of setting k that comes later counts in place of one of version v: its version is no lower.
unfoldable pub beats_of : ℕ → ℕ → List ℕ → Bool
beats_of k v r = cond (eqb (setting_of r) k) (cond (ltb (version_of r) v) false true) false

-- What counts of setting k where b counted so far and r comes next.
unfoldable pub better_of : ℕ → List ℕ → List ℕ → List ℕ
better_of k b r = cond (beats_of k (version_of b) r) r b

unfoldable pub counting_from : ℕ → List ℕ → Sheet → List ℕ
counting_from k b (row r s) = counting_from k (better_of k b r) s
counting_from k b end = b
counting_from k b broken = b

-- The counting record of setting k; none is [].
unfoldable pub counting_of : Sheet → ℕ → List ℕ
counting_of s k = counting_from k [] s

-- Where the counting record's bytes start in the sheet, 0 where there is none: v is the version of what counted so far, n where its bytes start,
-- `at` the number of bytes before the sheet's next record.
unfoldable pub start_from : ℕ → ℕ → ℕ → ℕ → Sheet → ℕ
start_from k v n at (row r s) = cond (beats_of k v r) (start_from k (version_of r) (at + 7) (at + length r) s) (start_from k v n (at + length r) s)
start_from k v n at end = n
start_from k v n at broken = n

unfoldable pub start_of : Sheet → ℕ → ℕ
start_of s k = start_from k 0 0 0 s
