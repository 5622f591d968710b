-- A walk over a sheet, as its records are taken one by one.
use Rattle.std.specs.Prelude.{◌≡◌, ◌+◌, List, ℕ, Option, Some, None, Result, Ok, Err, length, take, drop}
use Rattle.refusal.specs.declared.Refusal.{Refusal}
use Rattle.refusal.specs.declared.Refusal.TheVariants.{CutRecord}
use Rattle.sheet_spec.specs.Records.{Sheet, row, end, broken, sheet_of}
use Rattle.sheet_record.specs.declared.Record.{Record}
use Rattle.sheet_record.specs.declared.Records.{Records}

-- The records that are left.
abbrev pub left_of : Records → Sheet
left_of w = sheet_of (drop w.at w.sheet.now)

-- A record is taken from the front of what is left, with its place in the sheet; at the end there is none; bytes that are no record are refusal 1, and
-- nothing is left after them.
abbrev pub GivesRecord : Records → Option (Result Record Refusal) → Records → Type 0
GivesRecord w None v = (left_of w ≡ end) × (left_of v ≡ end)
GivesRecord w (Some (Ok r)) v =
    (left_of w ≡ row r.bytes.now (left_of v))
    × (v.sheet ≡ w.sheet)
    × (v.at ≡ w.at + length r.bytes.now)
    × (r.start ≡ w.at + 7)
    × (r.bytes.now ≡ take (length r.bytes.now) (drop w.at w.sheet.now))
GivesRecord w (Some (Err e)) v = (left_of w ≡ broken) × (left_of v ≡ end) × (e ≡ CutRecord)
