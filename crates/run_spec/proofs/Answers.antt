-- The answers of a run, one after the other; and W-205: "Levels 3 and 7 never appear", in any answer of any run.
use Rattle.std.specs.Prelude.{Some, Result, Err}
use Rattle.refusal.specs.declared.Refusal.{Refusal}
use Rattle.refusal.specs.declared.Refusal.TheVariants.{CutRecord, NotAccepted}
use Prim.Native.Nat.{ℕ, ◌-◌}
use mathlib.Core.Path.{◌≡◌, refl, sym, ap, ◌∙◌}
use mathlib.Core.Bool.{Bool, true, false, cond}
use mathlib.Core.List.{List, [], ◌∷◌, ◌++◌, append-nil}
use lib.Dec.{ltb}
use borrow.Author.Tests.{ltb-true, ltb-false}
use Rattle.item_spec.specs.declared.Shown.{Shown}
use Rattle.item_spec.specs.Record.{answer_bytes}
use Rattle.machine_spec.specs.declared.Machine.{Machine}
use Rattle.machine_spec.specs.Machine.{accepted_of}
use Rattle.run_spec.specs.Turn.{turn_of}
use Rattle.run_spec.proofs.Keeps.{turn-keeps}
use Rattle.run_spec.proofs.Ordinary.{Ordinary, no-ordinary, turn-ordinary}
use Rattle.run_spec.specs.Outcome.{Piece, whole, broken, pieces, Out, halt, run_pieces, run_of}
use Rattle.run_spec.proofs.Users.{answers-join, no_room, no_record}

-- The answers that a run over some pieces gives.
unfoldable pub answers_of : Machine → List Piece → ℕ → List (Result Shown Refusal)
answers_of m [] room = []
answers_of m (broken ∷ ps) room = cond (ltb room 8) [] (Err CutRecord ∷ [])
answers_of m (whole s ∷ ps) room = cond (ltb room 8) [] ((turn_of m s).answer ∷ answers_of (turn_of m s).machine ps (room - 8))

-- Their bytes, one answer after the other.
unfoldable pub bytes_of : List (Result Shown Refusal) → List ℕ
bytes_of [] = []
bytes_of (a ∷ rest) = answer_bytes a ++ bytes_of rest

pub answers-are : (ps : List Piece) (m : Machine) (room : ℕ) → (run_pieces m ps room).answers ≡ bytes_of (answers_of m ps room)
unfolding run_pieces answers_of bytes_of
answers-are [] m room = refl
answers-are (broken ∷ ps) m room = go (ltb room 8) refl
  where
    go : (t : Bool) → ltb room 8 ≡ t → (run_pieces m (broken ∷ ps) room).answers ≡ bytes_of (cond t [] (Err CutRecord ∷ []))
    go true e = ap (λ (o : Out). o.answers) (no_room m broken ps room (ltb-true _ _ e))
    go false e = ap (λ (o : Out). o.answers) (no_record m ps room (ltb-false _ _ e)) ∙ sym (append-nil (answer_bytes (Err CutRecord)))
answers-are (whole s ∷ ps) m room = go (answers-are ps (turn_of m s).machine (room - 8)) (ltb room 8) refl
  where
    go : (run_pieces (turn_of m s).machine ps (room - 8)).answers ≡ bytes_of (answers_of (turn_of m s).machine ps (room - 8))
        → (t : Bool) → ltb room 8 ≡ t
        → (run_pieces m (whole s ∷ ps) room).answers ≡ bytes_of (cond t [] ((turn_of m s).answer ∷ answers_of (turn_of m s).machine ps (room - 8)))
    go r true e = ap (λ (o : Out). o.answers) (no_room m (whole s) ps room (ltb-true _ _ e))
    go r false e = answers-join m s ps room (ltb-false _ _ e) ∙ ap (λ (b : List ℕ). answer_bytes (turn_of m s).answer ++ b) r

-- What holds of every answer of a list.
abbrev pub Each : (Result Shown Refusal → Type 0) → List (Result Shown Refusal) → Type 0
Each P [] = Unit {0}
Each P (a ∷ rest) = P a × Each P rest

-- What holds of each record's answer, met in an accepted state, and of NO 1, holds of every answer of a run.
pub each-answer : (P : Result Shown Refusal → Type 0) → ((m : Machine) (s : List ℕ) → accepted_of m ≡ true → P (turn_of m s).answer) → P (Err CutRecord)
    → (ps : List Piece) (m : Machine) (room : ℕ) → accepted_of m ≡ true → Each P (answers_of m ps room)
unfolding answers_of
each-answer P f n [] m room h = tt
each-answer P f n (broken ∷ ps) m room h = go (ltb room 8)
  where
    go : (t : Bool) → Each P (cond t [] (Err CutRecord ∷ []))
    go true = tt
    go false = (n, tt)
each-answer P f n (whole s ∷ ps) m room h = go (each-answer P f n ps (turn_of m s).machine (room - 8) (turn-keeps m s h)) (ltb room 8)
  where
    go : Each P (answers_of (turn_of m s).machine ps (room - 8))
        → (t : Bool) → Each P (cond t [] ((turn_of m s).answer ∷ answers_of (turn_of m s).machine ps (room - 8)))
    go r true = tt
    go r false = (f m s h, r)

-- The bytes of some answers, none of which has level 3 or 7.
pub record Levelled (bytes : List ℕ) : Type 0 where
  pub answers : List (Result Shown Refusal)
  pub are : bytes ≡ bytes_of answers
  pub each : Each Ordinary answers

pub levels-3-and-7-never : (m : Machine) (list : List ℕ) (room : ℕ) → Levelled (run_of m list room).answers
unfolding run_of bytes_of
levels-3-and-7-never m list room = go (accepted_of m) refl
  where
    go : (t : Bool) → accepted_of m ≡ t → Levelled (cond t (run_pieces m (pieces list) room) (halt m (Some NotAccepted))).answers
    go true h =
        record {
          answers = answers_of m (pieces list) room;
          are = answers-are (pieces list) m room;
          each = each-answer Ordinary turn-ordinary (no-ordinary CutRecord) (pieces list) m room h;
        }
    go false h = record { answers = []; are = refl; each = tt }
