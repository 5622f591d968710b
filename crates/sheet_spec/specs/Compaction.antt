-- A sheet's counting records alone: document 02, W-213. "A tool writes a sheet's counting records, one for each setting, in their old order".
use Rattle.std.specs.Prelude.{ℕ, Bool, true, false, cond, List, [], ◌++◌, Result, Ok, Err, length, drop, ltb}
use Rattle.refusal.specs.Numbers.{number_of}
use Rattle.refusal.specs.declared.Refusal.{Refusal}
use Rattle.refusal.specs.declared.Refusal.TheVariants.{CutRecord, NoRoom}
use Rattle.sheet_spec.specs.Records.{Sheet, row, end, broken, sheet_of, is_broken}
use Rattle.sheet_spec.specs.Counting.{setting_of, version_of, beats_of, counting_of}

-- No record of setting k has version v or a higher one.
unfoldable pub none_beats : ℕ → ℕ → Sheet → Bool
none_beats k v (row r s) = cond (beats_of k v r) false (none_beats k v s)
none_beats k v end = true
none_beats k v broken = true

-- r counts in the sheet `all`, s coming after r: no version of its setting is higher, and no later record has the same.
unfoldable pub counts_of : Sheet → List ℕ → Sheet → Bool
counts_of all r s = cond (ltb (version_of r) (version_of (counting_of all (setting_of r)))) false (none_beats (setting_of r) (version_of r) s)

abbrev pub row_if : Bool → List ℕ → Sheet → Sheet
row_if true r s = row r s
row_if false r s = s

-- The counting records of `all`, where they themselves stand.
unfoldable pub counting_rows : Sheet → Sheet → Sheet
counting_rows all (row r s) = row_if (counts_of all r s) r (counting_rows all s)
counting_rows all end = end
counting_rows all broken = end

unfoldable pub bytes_of : Sheet → List ℕ
bytes_of (row r s) = r ++ bytes_of s
bytes_of end = []
bytes_of broken = []

unfoldable pub compact_of : List ℕ → List ℕ
compact_of s = bytes_of (counting_rows (sheet_of s) (sheet_of s))

-- "a broken sheet is refusal 1, then too little room is 6"; else the number of bytes written.
unfoldable pub compacted_of : List ℕ → ℕ → Result ℕ Refusal
compacted_of s room =
    cond (is_broken (sheet_of s)) (Err CutRecord)
    (cond (ltb room (length (compact_of s))) (Err NoRoom)
    (Ok (length (compact_of s))))

-- The memory: "neither writes anything"; past what was written it keeps its contents.
abbrev pub memory_by : Result ℕ Refusal → List ℕ → List ℕ → List ℕ
memory_by (Ok n) x d = x ++ drop n d
memory_by (Err e) x d = d

unfoldable pub memory_of : List ℕ → List ℕ → List ℕ
memory_of s d = memory_by (compacted_of s (length d)) (compact_of s) d

-- "For an answer that is an enum, a definition gives this paper's number": the refusal's, 0 where it wrote; and the number of bytes written.
unfoldable pub stop_of : Result ℕ Refusal → ℕ
stop_of (Ok n) = 0
stop_of (Err e) = number_of e

unfoldable pub written_of : Result ℕ Refusal → ℕ
written_of (Ok n) = n
written_of (Err e) = 0
