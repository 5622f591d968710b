-- W-213's sentences on small sheets, computed by the definitions.
use Prim.Native.Nat.{ℕ}
use mathlib.Core.Path.{◌≡◌, refl}
use mathlib.Core.Bool.{true, false}
use mathlib.Core.List.{List, [], ◌∷◌, ◌++◌}
use Rattle.std.specs.Prelude.{Some, None, Ok, Err}
use lib.ListN.{replicate}
use Rattle.refusal.specs.declared.Refusal.TheVariants.{CutRecord, NoRoom}
use Rattle.octets.specs.Octets.{le16_of}
use Rattle.item_spec.specs.Record.{frame_of}
use Rattle.item_spec.specs.Kinds.{is_kind}
use Rattle.sheet_spec.specs.Records.{first_of, sheet_from, sheet_of, is_broken}
use Rattle.sheet_spec.specs.Counting.{beats_of, better_of, counting_from, counting_of, start_from, start_of}
use Rattle.sheet_spec.specs.Lookup.{source_of, part_of, place_of, place_at, refusal_of, sheet_number, start_number, size_number}
use Rattle.sheet_spec.specs.Compaction.{none_beats, counts_of, counting_rows, bytes_of, compact_of, compacted_of, memory_of, stop_of, written_of}
use Rattle.sheet_spec.specs.declared.Source.TheVariants.{Bench, House}

-- setting 513 at version 2 (10), at version 2 again (11, 12), at version 1 (13)
abbrev x : List ℕ
x = 6 ∷ 0 ∷ 83 ∷ 86 ∷ 1 ∷ 2 ∷ 2 ∷ 10 ∷ []

abbrev y : List ℕ
y = 7 ∷ 0 ∷ 83 ∷ 86 ∷ 1 ∷ 2 ∷ 2 ∷ 11 ∷ 12 ∷ []

abbrev z : List ℕ
z = 6 ∷ 0 ∷ 83 ∷ 86 ∷ 1 ∷ 2 ∷ 1 ∷ 13 ∷ []

-- setting 3 at version 0 with no bytes; setting 2 at version 9 (14); setting 513 at version 200 (15)
abbrev e : List ℕ
e = 5 ∷ 0 ∷ 83 ∷ 86 ∷ 3 ∷ 0 ∷ 0 ∷ []

abbrev w : List ℕ
w = 6 ∷ 0 ∷ 83 ∷ 86 ∷ 2 ∷ 0 ∷ 9 ∷ 14 ∷ []

abbrev v : List ℕ
v = 6 ∷ 0 ∷ 83 ∷ 86 ∷ 1 ∷ 2 ∷ 200 ∷ 15 ∷ []

abbrev bench : List ℕ
bench = x ++ e ++ y ++ z

abbrev house : List ℕ
house = w ++ v

-- a record of so many bytes after the version
abbrev longer : ℕ → ℕ → List ℕ
longer n m = n ∷ 0 ∷ 83 ∷ 86 ∷ 0 ∷ 0 ∷ 0 ∷ replicate m 7

pub record Samples : Type 0 where
  -- the later record where versions are equal, the bench sheet at any version
  pub later : (part_of bench house 513 ≡ 11 ∷ 12 ∷ []) × (place_of bench house 513 ≡ Ok (Some (place_at Bench 22 2)))
  pub from_house : (part_of bench house 2 ≡ 14 ∷ []) × (place_of bench house 2 ≡ Ok (Some (place_at House 7 1)))
  -- set, with no bytes
  pub bare : (part_of bench house 3 ≡ []) × (place_of bench house 3 ≡ Ok (Some (place_at Bench 15 0)))
  pub neither : (part_of bench house 258 ≡ []) × (place_of bench house 258 ≡ Ok None)
  -- a highest version that stands first
  pub highest : (part_of [] (v ++ y) 513 ≡ 15 ∷ []) × (source_of [] (v ++ y) 513 ≡ Ok (Some House))
  -- a broken house sheet, where the bench sheet has the setting; a broken bench sheet
  pub cut_house : (part_of bench (house ++ (5 ∷ [])) 513 ≡ []) × (place_of bench (house ++ (5 ∷ [])) 513 ≡ Err CutRecord)
  pub cut_bench : source_of (5 ∷ 0 ∷ 83 ∷ 86 ∷ 3 ∷ 0 ∷ []) house 2 ≡ Err CutRecord
  -- kind SW, VS; lengths 4, 5, 69, 70
  pub kinds : (is_broken (sheet_of (5 ∷ 0 ∷ 83 ∷ 87 ∷ 3 ∷ 0 ∷ 0 ∷ [])) ≡ true) × (is_broken (sheet_of (5 ∷ 0 ∷ 86 ∷ 83 ∷ 3 ∷ 0 ∷ 0 ∷ [])) ≡ true)
  pub shortest : (is_broken (sheet_of (4 ∷ 0 ∷ 83 ∷ 86 ∷ 3 ∷ 0 ∷ [])) ≡ true) × (is_broken (sheet_of e) ≡ false)
  pub longest : (is_broken (sheet_of (longer 69 64)) ≡ false) × (is_broken (sheet_of (longer 70 65)) ≡ true)
  -- the numbers
  pub numbers : (refusal_of (Err CutRecord) ≡ 1) × (refusal_of (Ok None) ≡ 0) × (sheet_number (Ok (Some Bench)) ≡ 1) × (sheet_number (Ok (Some House)) ≡ 2) × (sheet_number (Ok None) ≡ 0)
  pub set_numbers : (start_number (Ok (Some (place_at House 7 1))) ≡ 7) × (size_number (Ok (Some (place_at House 7 1))) ≡ 1)
  -- 0 where it is not set and on a refusal
  pub no_numbers : (start_number (Ok None) ≡ 0) × (size_number (Ok None) ≡ 0) × (start_number (Err CutRecord) ≡ 0) × (size_number (Err CutRecord) ≡ 0)
  -- the tool: each counting record where it itself stands
  pub old_order : (compact_of (bench ++ w) ≡ e ++ y ++ w) × (compact_of [] ≡ [])
  pub written : (compacted_of bench 17 ≡ Ok 16) × (compacted_of bench 16 ≡ Ok 16)
  pub memory : memory_of x (1 ∷ 1 ∷ 1 ∷ 1 ∷ 1 ∷ 1 ∷ 1 ∷ 1 ∷ 99 ∷ []) ≡ x ++ (99 ∷ [])
  -- 6; 1 before 6; neither writes
  pub room : (compacted_of bench 15 ≡ Err NoRoom) × (memory_of x (1 ∷ 2 ∷ []) ≡ 1 ∷ 2 ∷ [])
  pub first : (compacted_of (bench ++ (0 ∷ [])) 0 ≡ Err CutRecord) × (memory_of (0 ∷ []) (1 ∷ 2 ∷ []) ≡ 1 ∷ 2 ∷ [])
  pub stops : (stop_of (Err NoRoom) ≡ 6) × (stop_of (Ok 9) ≡ 0) × (written_of (Err NoRoom) ≡ 0) × (written_of (Ok 9) ≡ 9)

pub samples : Samples
unfolding le16_of frame_of is_kind first_of sheet_from is_broken beats_of better_of counting_from counting_of start_from start_of source_of part_of place_of refusal_of sheet_number start_number size_number none_beats counts_of counting_rows bytes_of compact_of compacted_of memory_of stop_of written_of
samples =
    record {
      later = (refl, refl);
      from_house = (refl, refl);
      bare = (refl, refl);
      neither = (refl, refl);
      highest = (refl, refl);
      cut_house = (refl, refl);
      cut_bench = refl;
      kinds = (refl, refl);
      shortest = (refl, refl);
      longest = (refl, refl);
      numbers = (refl, refl, refl, refl, refl);
      set_numbers = (refl, refl);
      no_numbers = (refl, refl, refl, refl);
      old_order = (refl, refl);
      written = (refl, refl);
      memory = refl;
      room = (refl, refl);
      first = (refl, refl);
      stops = (refl, refl, refl, refl);
    }
