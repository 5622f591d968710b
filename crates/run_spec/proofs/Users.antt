-- What users of a run may rely on, besides its contract.
use Rattle.std.specs.Prelude.{Some, Err}
use Rattle.refusal.specs.declared.Refusal.TheVariants.{CutRecord, NoRoom, NotAccepted}
use Prim.Native.Nat.{ℕ, ◌+◌, ◌-◌, ◌≤◌, ◌<◌}
use mathlib.Core.Path.{◌≡◌, refl, ap, ◌∙◌}
use mathlib.Core.Bool.{Bool, true, false, cond}
use mathlib.Core.List.{List, [], ◌∷◌, ◌++◌}
use native.Mathlib.Omega.{arith}
use lib.ListN.{length, length-append}
use lib.Dec.{ltb}
use borrow.Author.Tests.{lt-ltb, le-ltb, ltb-false}
use Rattle.item_spec.specs.Record.{answer_bytes}
use Rattle.item_spec.proofs.RecordLaws.{answer-long}
use Rattle.machine_spec.specs.declared.Machine.{Machine}
use Rattle.machine_spec.specs.Machine.{accepted_of}
use Rattle.run_spec.specs.Turn.{turn_of}
use Rattle.run_spec.proofs.Keeps.{turn-keeps, turn-size}
use Rattle.run_spec.specs.Outcome.{Piece, whole, broken, pieces, Out, halt, onto, on_piece, run_pieces, run_of, ran_of}

-- Item after item: where there is room for its answer, a whole record is answered from the state before it, and the run goes on from the state after it.
pub item-after-item : (m : Machine) (s : List ℕ) (ps : List Piece) (room : ℕ) → 8 ≤ room
    → run_pieces m (whole s ∷ ps) room ≡ onto (answer_bytes (turn_of m s).answer) (length s + 2) (run_pieces (turn_of m s).machine ps (room - 8))
unfolding run_pieces on_piece
item-after-item m s ps room h = simp (le-ltb _ _ h)

-- The answers are joined: a record's own, and then those of the records after it.
pub answers-join : (m : Machine) (s : List ℕ) (ps : List Piece) (room : ℕ) → 8 ≤ room
    → (run_pieces m (whole s ∷ ps) room).answers ≡ answer_bytes (turn_of m s).answer ++ (run_pieces (turn_of m s).machine ps (room - 8)).answers
unfolding onto
answers-join m s ps room h = ap (λ (o : Out). o.answers) (item-after-item m s ps room h)

-- The bytes consumed add up: a record's length and what it counts, and then those of the records after it.
pub consumed-adds : (m : Machine) (s : List ℕ) (ps : List Piece) (room : ℕ) → 8 ≤ room
    → (run_pieces m (whole s ∷ ps) room).consumed ≡ length s + 2 + (run_pieces (turn_of m s).machine ps (room - 8)).consumed
unfolding onto
consumed-adds m s ps room h = ap (λ (o : Out). o.consumed) (item-after-item m s ps room h)

-- Refusal 6, before 1: where something is left and no room, whatever it is, there is no answer, the item is not done and the run stops.
pub no_room : (m : Machine) (p : Piece) (ps : List Piece) (room : ℕ) → room < 8 → run_pieces m (p ∷ ps) room ≡ halt m (Some NoRoom)
unfolding run_pieces
no_room m p ps room h = simp (lt-ltb _ _ h)

-- Refusal 1: where there is room, NO 1 is written and the run stops before the record.
pub no_record : (m : Machine) (ps : List Piece) (room : ℕ) → 8 ≤ room
    → run_pieces m (broken ∷ ps) room ≡ record { machine = m; stop = Some CutRecord; consumed = 0; answers = answer_bytes (Err CutRecord) }
unfolding run_pieces on_piece
no_record m ps room h = simp (le-ltb _ _ h)

run_room : (ps : List Piece) (m : Machine) (room : ℕ) → length (run_pieces m ps room).answers ≤ room
unfolding run_pieces on_piece onto
run_room [] m room = omega arith
run_room (broken ∷ ps) m room = go (ltb room 8) refl
  where
    go : (t : Bool) → ltb room 8 ≡ t → length (cond t (halt m (Some NoRoom)) (on_piece m broken (λ m₁. run_pieces m₁ ps (room - 8)))).answers ≤ room
    go true e = omega arith
    go false e = rw (answer-long (Err CutRecord)) (ltb-false _ _ e)
run_room (whole s ∷ ps) m room = go (run_room ps (turn_of m s).machine (room - 8)) (ltb room 8) refl
  where
    go : length (run_pieces (turn_of m s).machine ps (room - 8)).answers ≤ room - 8 → (t : Bool) → ltb room 8 ≡ t
        → length (cond t (halt m (Some NoRoom)) (on_piece m (whole s) (λ m₁. run_pieces m₁ ps (room - 8)))).answers ≤ room
    go r true e = omega arith
    go r false e = simp (length-append, answer-long (turn_of m s).answer) (omega (arith, ltb-false))

-- The answers fit the room.
pub answers-fit : (m : Machine) (l : List ℕ) (room : ℕ) → length (run_of m l room).answers ≤ room
unfolding run_of
answers-fit m l room = go (accepted_of m)
  where
    go : (t : Bool) → length (cond t (run_pieces m (pieces l) room) (halt m (Some NotAccepted))).answers ≤ room
    go true = run_room (pieces l) m room
    go false = omega arith

-- So do the bytes that a caller is told were written.
pub written-fits : (m : Machine) (l : List ℕ) (room : ℕ) → (ran_of (run_of m l room)).written ≤ room
written-fits = answers-fit

-- An invariant of the state that every record keeps is kept by a run: what holds of the state before holds of it after, however the run ends.
pub run-keeps : (P : Machine → Type 0) → ((m : Machine) (s : List ℕ) → P m → P (turn_of m s).machine)
    → (ps : List Piece) (m : Machine) (room : ℕ) → P m → P (run_pieces m ps room).machine
unfolding run_pieces on_piece onto
run-keeps P k [] m room h = h
run-keeps P k (broken ∷ ps) m room h = go (ltb room 8)
  where
    go : (t : Bool) → P (cond t (halt m (Some NoRoom)) (on_piece m broken (λ m₁. run_pieces m₁ ps (room - 8)))).machine
    go true = h
    go false = h
run-keeps P k (whole s ∷ ps) m room h = go (run-keeps P k ps (turn_of m s).machine (room - 8) (k m s h)) (ltb room 8)
  where
    go : P (run_pieces (turn_of m s).machine ps (room - 8)).machine
        → (t : Bool) → P (cond t (halt m (Some NoRoom)) (on_piece m (whole s) (λ m₁. run_pieces m₁ ps (room - 8)))).machine
    go r true = h
    go r false = r

-- The machine handed back is accepted where the one given was.
pub accepted-kept : (m : Machine) (s : List ℕ) (room : ℕ) → accepted_of m ≡ true → accepted_of (run_of m s room).machine ≡ true
unfolding run_of
accepted-kept m s room e = simp e (run-keeps (λ (n : Machine). accepted_of n ≡ true) turn-keeps (pieces s) m room e)

-- W-206: "a machine is made with 20 or 256 cells, chosen at the start": the machine handed back has the chip of the one given.
pub size-kept : (m : Machine) (l : List ℕ) (room : ℕ) → (run_of m l room).machine.clock.store.chip ≡ m.clock.store.chip
unfolding run_of
size-kept m l room = go (accepted_of m)
  where
    go : (t : Bool) → (cond t (run_pieces m (pieces l) room) (halt m (Some NotAccepted))).machine.clock.store.chip ≡ m.clock.store.chip
    go true = run-keeps (λ (n : Machine). n.clock.store.chip ≡ m.clock.store.chip) (λ n s h. turn-size n s ∙ h) (pieces l) m room refl
    go false = refl
