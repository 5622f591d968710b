-- A run over a list of items, by document 01. The list is cut into pieces first, and the run goes through the pieces.
use Rattle.std.specs.Prelude.{ℕ, zero, suc, ◌+◌, ◌-◌, cond, List, [], ◌∷◌, ◌++◌, length, take, drop, ltb, Option, Some, None, Err}
use Rattle.item_spec.specs.Record.{frame_of, answer_bytes}
use Rattle.refusal.specs.declared.Refusal.{Refusal}
use Rattle.refusal.specs.declared.Refusal.TheVariants.{CutRecord, NoRoom, NotAccepted}
use Rattle.machine_spec.specs.declared.Machine.{Machine}
use Rattle.machine_spec.specs.Machine.{accepted_of}
use Rattle.run_spec.specs.Turn.{turn_of}
use Rattle.run_spec.specs.declared.Ran.{Ran}

-- ---- the pieces of a list

-- A whole record, as its bytes after the length; or bytes that are none (refusal 1).
pub data Piece : Type 0 where
  whole : List ℕ → Piece
  broken : Piece

-- One piece, and what comes after it: `go k` is the pieces after k bytes more.
unfoldable pub cut : Option ℕ → List ℕ → (ℕ → List Piece) → List Piece
cut (Some n) s go = whole (take (n - 2) (drop 2 s)) ∷ go (n - 1)
cut None s go = broken ∷ []

-- The pieces of a list after its first k bytes, which belong to the piece before.
unfoldable pub pieces_from : ℕ → List ℕ → List Piece
unfolding cut
pieces_from k [] = []
pieces_from zero (x ∷ xs) = cut (frame_of (x ∷ xs)) (x ∷ xs) (λ k. pieces_from k xs)
pieces_from (suc k) (x ∷ xs) = pieces_from k xs

abbrev pub pieces : List ℕ → List Piece
pieces s = pieces_from 0 s

-- ---- the run

-- The machine handed back, the refusal that it stopped at if it did, the bytes consumed and the answers' bytes.
pub record Out : Type 0 where
  pub machine : Machine
  pub stop : Option Refusal
  pub consumed : ℕ
  pub answers : List ℕ

-- Nothing more is read or written.
abbrev pub halt : Machine → Option Refusal → Out
halt m r = record { machine = m; stop = r; consumed = 0; answers = [] }

-- Some answers written and n bytes consumed before.
unfoldable pub onto : List ℕ → ℕ → Out → Out
onto a n o = record { machine = o.machine; stop = o.stop; consumed = n + o.consumed; answers = a ++ o.answers }

-- "NO 1 written; run stops before the record"; every other record is answered, consumed, and the run goes on.
unfoldable pub on_piece : Machine → Piece → (Machine → Out) → Out
on_piece m broken go = record { machine = m; stop = Some CutRecord; consumed = 0; answers = answer_bytes (Err CutRecord) }
on_piece m (whole s) go = onto (answer_bytes (turn_of m s).answer) (length s + 2) (go (turn_of m s).machine)

-- "Order: 7; end of list; 6; 1; 2; 3; 4; 5." W-203: 8 after 5; W-214: 9 after 5; W-211: MW has an order of its own, 3; 4; 5; 3, after 2.
unfoldable pub run_pieces : Machine → List Piece → ℕ → Out
unfolding on_piece
run_pieces m [] room = halt m None
run_pieces m (p ∷ ps) room = cond (ltb room 8) (halt m (Some NoRoom)) (on_piece m p (λ m₁. run_pieces m₁ ps (room - 8)))

unfoldable pub run_of : Machine → List ℕ → ℕ → Out
run_of m s room = cond (accepted_of m) (run_pieces m (pieces s) room) (halt m (Some NotAccepted))

-- "A run reports its stop number .., the bytes consumed .. and the bytes written (8 times the answers)."
abbrev pub ran_of : Out → Ran
ran_of o = record { stop = o.stop; consumed = o.consumed; written = length o.answers }

-- "Answer memory past those bytes keeps its contents."
abbrev pub over : Out → List ℕ → List ℕ
over o d = o.answers ++ drop (length o.answers) d
