-- A capture turned over: request W-214.
use Rattle.std.specs.Prelude.{ℕ, ◌+◌, Bool, true, false, cond, List, [], ◌∷◌, ◌++◌, Option, Some, None, length, get_or, drop, ltb, eqb}
use Rattle.refusal.specs.Numbers.{stop_of}
use Rattle.refusal.specs.declared.Refusal.{Refusal}
use Rattle.refusal.specs.declared.Refusal.TheVariants.{CutRecord, NoRoom}
use Rattle.capture_spec.specs.declared.DriveLevels.{DriveLevels}
use Rattle.capture_spec.specs.declared.Levels.{Levels}
use Rattle.capture_spec.specs.declared.Converted.{Converted}
use Rattle.capture_spec.specs.Capture.{Capture, row, end, cut, capture_of, retired_of}
use Rattle.capture_spec.specs.Levels.{first_levels, drive_of, next_of}

-- "an IN of the same wait repeating line 0's present level": length 6, IN, the two bytes of the wait, line 0, the level.
unfoldable pub line_for : Levels → List ℕ → List ℕ
line_for m r = 6 ∷ 0 ∷ 73 ∷ 78 ∷ get_or r 4 0 ∷ get_or r 5 0 ∷ 0 ∷ m.line0 ∷ []

-- Whether the DI puts a disk in: "level 0 present".
unfoldable pub insert_of : ℕ → ℕ
insert_of level = cond (eqb level 0) 1 0

-- "locked where that drive's register 3 last had 0 ..; both 0 in a removal".
unfoldable pub locked_of : DriveLevels → ℕ → ℕ
locked_of x level = cond (eqb level 0) (cond (eqb x.wrtprt 0) 1 0) 0

-- "sides the last level of its 12, else 1; both 0 in a removal".
unfoldable pub sides_of : DriveLevels → ℕ → ℕ
sides_of x level = cond (eqb level 0) x.sides 0

-- "a DI with wait 0": length 8, DI, the two bytes of the wait, the drive, insert, locked, double-sided.
abbrev pub disk_bytes : ℕ → DriveLevels → ℕ → List ℕ
disk_bytes drive x level = 8 ∷ 0 ∷ 68 ∷ 73 ∷ 0 ∷ 0 ∷ drive ∷ insert_of level ∷ locked_of x level ∷ sides_of x level ∷ []

unfoldable pub disk_for : Levels → List ℕ → List ℕ
disk_for m r = disk_bytes (get_or r 6 0) (drive_of m (get_or r 6 0)) (get_or r 8 0)

-- "on register 1 .. where, by the SN items alone, it changes whether a disk is present".
unfoldable pub changes_of : Levels → List ℕ → Bool
changes_of m r = cond (eqb (get_or r 7 0) 1) (cond (eqb (get_or r 8 0) (drive_of m (get_or r 6 0)).cstin) false true) false

-- What is written for a record: of a valid retired SN the IN and perhaps the DI; "all other records pass byte for byte".
unfoldable pub part_of : Levels → List ℕ → List ℕ
part_of m r =
    cond (retired_of r)
    (cond (changes_of m r) (line_for m r ++ disk_for m r) (line_for m r))
    r

-- "Those without a DI are counted."
unfoldable pub lone_of : Levels → List ℕ → ℕ
lone_of m r = cond (retired_of r) (cond (changes_of m r) 0 1) 0

-- All that is written, from some levels on. "A record refused with 1 ends the work: what comes before it is written".
unfoldable pub turned_from : Levels → Capture → List ℕ
turned_from m (row r c) = part_of m r ++ turned_from (next_of m r) c
turned_from m end = []
turned_from m (cut l) = []

unfoldable pub count_from : Levels → Capture → ℕ
count_from m (row r c) = lone_of m r + count_from (next_of m r) c
count_from m end = 0
count_from m (cut l) = 0

-- "refusal 1 and the count returned".
unfoldable pub end_of : Capture → Option Refusal
end_of (row r c) = end_of c
end_of end = None
end_of (cut l) = Some CutRecord

-- The capture turned over.
unfoldable pub turned_of : List ℕ → List ℕ
turned_of l = turned_from first_levels (capture_of l)

-- What is given back. "Too little room is refusal 6 instead, with nothing written."
unfoldable pub converted_of : List ℕ → ℕ → Converted
converted_of l room =
    cond (ltb room (length (turned_of l)))
    (record { refusal = Some NoRoom; written = 0; count = 0 })
    (record { refusal = end_of (capture_of l); written = length (turned_of l); count = count_from first_levels (capture_of l) })

-- "For an answer that is an enum, a definition gives this paper's number": the refusal's, 0 for none.
abbrev pub refusal_number : Converted → ℕ
refusal_number x = stop_of x.refusal

-- The lent memory after it: bytes past those written keep their contents.
unfoldable pub output_of : List ℕ → List ℕ → List ℕ
output_of l d = cond (ltb (length d) (length (turned_of l))) d (turned_of l ++ drop (length (turned_of l)) d)
