-- The data line in a run over bytes, from every accepted machine.
use Rattle.std.specs.Prelude.{Some, Result, Ok, Err}
use Rattle.refusal.specs.declared.Refusal.{Refusal}
use Rattle.refusal.specs.declared.Refusal.TheVariants.{CutRecord, NoRoom, NotAccepted}
use mathlib.Core.Path.{◌≡◌, refl, sym, ap, subst, ◌∙◌}
use mathlib.Core.Bool.{Bool, true, false, cond}
use mathlib.Core.List.{List, [], ◌∷◌, ◌++◌, append_assoc, append-nil}
use Prim.Native.Nat.{ℕ, ◌+◌, ◌-◌, ◌*◌, ◌≤◌}
use native.Mathlib.Omega.{arith}
use lib.Dec.{ltb}
use lib.ListN.{length, get_or, length-append, length-replicate, get_or-append}
use Rattle.clock_spec.specs.declared.Chip.{Chip}
use lib.Seq.{get_or-append-add}
use Rattle.octets.specs.Octets.{Bytes}
use Rattle.via_bits.specs.Bytes.{bit}
use Rattle.item_spec.specs.declared.Shown.{Shown}
use Rattle.item_spec.specs.Record.{answer_bytes, answer_value}
use Rattle.item_spec.proofs.RecordLaws.{answer-long}
use Rattle.via.specs.Via.{fresh_via}
use Rattle.machine_spec.specs.declared.Machine.{Machine}
use Rattle.machine_spec.specs.Pins.{pin}
use Rattle.machine_spec.specs.Machine.{wires, accepted_of, fresh_machine}
use Rattle.run_spec.specs.Turn.{turn_of}
use Rattle.run_spec.specs.Outcome.{Piece, whole, broken, pieces, halt, onto, on_piece, run_pieces, run_of}
use Rattle.history.specs.Start.{Accepted}
use Rattle.history.specs.Items.{state_after}
use Rattle.demand3.specs.Runs.{answered_after, answered_pieces}
use Rattle.demand3.proofs.Runs.{ran-is, accepted-clock, fresh_ok}
use Rattle.demand3_reads.specs.Runs.{machine_after_pieces, shown_after_pieces, RunShows}
use Rattle.demand3_reads.proofs.Pieces.{pieces-show}
use Rattle.demand3_reads.proofs.Widths.{Narrow, run-narrow}

-- ---- the answers of a run, piece by piece

abbrev answer_by : Piece → Machine → Result Shown Refusal
answer_by (whole s) m = (turn_of m s).answer
answer_by broken m = Err CutRecord

-- Their bytes; the newest piece is the first of its list, and its answer the last.
unfoldable bytes_of_pieces : Machine → List Piece → List ℕ
bytes_of_pieces m [] = []
bytes_of_pieces m (p ∷ is) = bytes_of_pieces m is ++ answer_bytes (answer_by p (machine_after_pieces m is))

ran-bytes : (m : Machine) (before ps : List Piece) (room : ℕ)
    → bytes_of_pieces m before ++ (run_pieces (machine_after_pieces m before) ps room).answers ≡ bytes_of_pieces m (answered_after before ps room)
unfolding run_pieces on_piece onto answered_after state_after bytes_of_pieces
ran-bytes m before [] room = append-nil (bytes_of_pieces m before)
ran-bytes m before (broken ∷ ps) room = go (ltb room 8)
  where
    M : Machine
    M = machine_after_pieces m before

    go : (t : Bool) → bytes_of_pieces m before ++ (cond t (halt M (Some NoRoom)) (on_piece M broken (λ m₁. run_pieces m₁ ps (room - 8)))).answers ≡ bytes_of_pieces m (cond t before (broken ∷ before))
    go true = append-nil (bytes_of_pieces m before)
    go false = refl
ran-bytes m before (whole s ∷ ps) room = go (ran-bytes m (whole s ∷ before) ps (room - 8)) (ltb room 8)
  where
    M : Machine
    M = machine_after_pieces m before

    rest : List ℕ
    rest = (run_pieces (turn_of M s).machine ps (room - 8)).answers

    go : bytes_of_pieces m (whole s ∷ before) ++ rest ≡ bytes_of_pieces m (answered_after (whole s ∷ before) ps (room - 8)) → (t : Bool)
        → bytes_of_pieces m before ++ (cond t (halt M (Some NoRoom)) (on_piece M (whole s) (λ m₁. run_pieces m₁ ps (room - 8)))).answers ≡ bytes_of_pieces m (cond t before (answered_after (whole s ∷ before) ps (room - 8)))
    go q true = append-nil (bytes_of_pieces m before)
    go q false = sym (append_assoc (bytes_of_pieces m before) (answer_bytes (turn_of M s).answer) rest) ∙ q

answers-met : (m : Machine) → accepted_of m ≡ true → (list : List ℕ) (room : ℕ) → (run_of m list room).answers ≡ bytes_of_pieces m (answered_pieces list room)
unfolding run_of state_after bytes_of_pieces
answers-met m a list room = ap (λ (t : Bool). (cond t (run_pieces m (pieces list) room) (halt m (Some NotAccepted))).answers) a ∙ ran-bytes m [] (pieces list) room

bytes-long : (m : Machine) (is : List Piece) → length (bytes_of_pieces m is) ≡ 8 * length is
unfolding bytes_of_pieces
bytes-long m [] = refl
bytes-long m (p ∷ is) =
    let a : Result Shown Refusal = answer_by p (machine_after_pieces m is) in
    omega (arith, length-append (bytes_of_pieces m is) (answer_bytes a), answer-long a, bytes-long m is)

value-byte : (x : Result Shown Refusal) → get_or (answer_bytes x) 4 0 ≡ answer_value x
unfolding answer_bytes
value-byte (Ok x) = refl
value-byte (Err r) = refl

-- The fifth byte of the answer to the piece p after is.
value-met : (m : Machine) (ls : List Piece) (p : Piece) (is : List Piece)
    → (8 * length is + 8 ≤ length (bytes_of_pieces m (ls ++ (p ∷ is))))
    × (get_or (bytes_of_pieces m (ls ++ (p ∷ is))) (8 * length is + 4) 0 ≡ answer_value (answer_by p (machine_after_pieces m is)))
unfolding bytes_of_pieces
value-met m [] p is =
    let a : Result Shown Refusal = answer_by p (machine_after_pieces m is) in (
      omega (arith, length-append (bytes_of_pieces m is) (answer_bytes a), answer-long a, bytes-long m is),
      ap (λ (k : ℕ). get_or (bytes_of_pieces m is ++ answer_bytes a) (k + 4) 0) (sym (bytes-long m is)) ∙ get_or-append-add (bytes_of_pieces m is) (answer_bytes a) 4 0 ∙ value-byte a,
    )
value-met m (l ∷ ls) p is =
    let r = value-met m ls p is in
    let b : List ℕ = bytes_of_pieces m (ls ++ (p ∷ is)) in
    let a : List ℕ = answer_bytes (answer_by l (machine_after_pieces m (ls ++ (p ∷ is)))) in (
      omega (arith, length-append b a, r.0),
      get_or-append b a 0 (8 * length is + 4) (omega (arith, r.0)) ∙ r.1,
    )

-- ---- the run

later : (ls : List Piece) (p : Piece) (is : List Piece) → (ls ++ (p ∷ [])) ++ is ≡ ls ++ (p ∷ is)
later ls p is = append_assoc ls (p ∷ []) is

pub run-shows : (m : Machine) → accepted_of m ≡ true → Accepted m.clock (wires m) → Narrow m → (list : List ℕ) → Bytes list → (room : ℕ)
    → RunShows m list room (run_of m list room)
run-shows m a ok l list bs room =
    record {
      wire =
          subst (λ (x : Machine). (wires x).dataline ≡ pin x.via.ports.outb x.via.ports.dirb 1 (shown_after_pieces m (answered_pieces list room)))
          (sym (ran-is m a list room)) (pieces-show m ok (answered_pieces list room)).wire;
      long = λ ls is p q. subst (λ (x : List ℕ). 8 * length is + 8 ≤ length x) (sym (answers-met m a list room ∙ ap (bytes_of_pieces m) (sym q))) (value-met m ls p is).0;
      reads = λ ls is s w q d.
          ap (λ (x : List ℕ). bit 0 (get_or x (8 * length is + 4) 0)) (answers-met m a list room ∙ ap (bytes_of_pieces m) (sym q))
          ∙ ap (bit 0) (value-met m ls (whole s) is).1
          ∙ (pieces-show m ok is).answer s w d (run-narrow m l list bs room (ls ++ (whole s ∷ [])) is (later ls (whole s) is ∙ q));
    }

-- From the fresh machine, with either chip.
pub run-shows-fresh : (k : Chip) (list : List ℕ) → Bytes list → (room : ℕ) → RunShows (fresh_machine k) list room (run_of (fresh_machine k) list room)
unfolding fresh_via
run-shows-fresh k list bs room =
    run-shows (fresh_machine k) (fresh_ok k) (accepted-clock (fresh_machine k) (fresh_ok k) (length-replicate {A = ℕ} 256 0) (omega arith)) (omega arith) list bs room
