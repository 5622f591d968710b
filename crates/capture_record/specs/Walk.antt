-- A walk over a capture, as its records are taken one by one.
use Rattle.std.specs.Prelude.{◌≡◌, List, ℕ, Option, Some, None, Result, Ok, Err}
use Rattle.std.specs.Borrow.{Bor}
use Rattle.refusal.specs.declared.Refusal.{Refusal}
use Rattle.refusal.specs.declared.Refusal.TheVariants.{CutRecord}
use Rattle.capture_spec.specs.Capture.{Capture, row, end, cut, capture_of}
use Rattle.capture_record.specs.declared.Records.{Records}

-- A whole record is taken from the front of what is left; at the end there is none; a cut one is refusal 1, and nothing is left after it.
abbrev pub GivesRecord : Records → Option (Result (Bor (List ℕ)) Refusal) → Records → Type 0
GivesRecord w None v = (capture_of w.left.now ≡ end) × (capture_of v.left.now ≡ end)
GivesRecord w (Some (Ok r)) v = capture_of w.left.now ≡ row r.now (capture_of v.left.now)
GivesRecord w (Some (Err e)) v = (capture_of w.left.now ≡ cut w.left.now) × (capture_of v.left.now ≡ end) × (e ≡ CutRecord)
