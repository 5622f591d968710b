-- A transaction as bytes: its records are whole, each asks for its item, and a run carries them out one after the other.
use Rattle.std.specs.Prelude.{None, Ok}
use Prim.Native.Nat.{ℕ, ◌+◌, ◌-◌, ◌*◌, ◌≤◌}
use mathlib.Core.Path.{◌≡◌, refl, sym, ap, ap₂, ◌∙◌}
use mathlib.Core.List.{List, [], ◌∷◌, ◌++◌}
use native.Mathlib.Omega.{arith}
use lib.ListN.{length, drop, length-append}
use Rattle.octets.specs.Octets.{le16_of, le32_of}
use Rattle.item_spec.specs.declared.Decoded.TheVariants.{One}
use Rattle.item_spec.specs.Addresses.{place_from, found_of}
use Rattle.item_spec.specs.Items.{read_record, write_record}
use Rattle.item_spec.specs.Kinds.{is_kind, decoded_of}
use Rattle.item_spec.specs.Record.{frame_of, answer_bytes}
use Rattle.item_spec.proofs.RecordLaws.{whole_append}
use Rattle.machine_spec.specs.declared.Machine.{Machine}
use Rattle.machine_spec.specs.Stages.{refuses_of}
use Rattle.machine_spec.specs.Step.{step_of, answer_of}
use Rattle.run_spec.specs.Turn.{done_turn, turn_of}
use Rattle.run_spec.specs.declared.Turn.{Turn}
use Rattle.run_spec.specs.Outcome.{Piece, whole, pieces_from, pieces, Out, onto, run_pieces}
use Rattle.run_spec.proofs.Turns.{carried-out}
use Rattle.run_spec.proofs.Pieces.{pieces_whole}
use Rattle.run_spec.proofs.Users.{item-after-item}
use Rattle.transaction_spec.specs.Promise.{answers_of, bytes_of_answers}
use Rattle.transaction_spec.specs.declared.Act.{Act}
use Rattle.transaction_spec.specs.declared.Act.TheVariants.{Port, Side, Look}
use Rattle.transaction_spec.specs.Acts.{item_of, items, record_of, bytes_of}
use Rattle.transaction_spec.proofs.Fold.{folded}

module _ (q r : ℕ) where
  decoded : (a : Act) → decoded_of (drop 2 (record_of q r a)) ≡ Ok (One (item_of q r a))
  unfolding le16_of le32_of is_kind place_from found_of read_record write_record decoded_of
  decoded (Port e c b) = refl
  decoded (Side x) = refl
  decoded Look = refl

  piece : (a : Act) (t : List ℕ) → pieces (record_of q r a ++ t) ≡ whole (drop 2 (record_of q r a)) ∷ pieces t
  unfolding frame_of le16_of
  piece (Port e c b) t = pieces_whole _ 11 (whole_append (record_of q r (Port e c b)) t 11 refl)
  piece (Side x) t = pieces_whole _ 11 (whole_append (record_of q r (Side x)) t 11 refl)
  piece Look t = pieces_whole _ 10 (whole_append (record_of q r Look) t 10 refl)

  size : (a : Act) → length (drop 2 (record_of q r a)) + 2 ≡ length (record_of q r a)
  size (Port e c b) = refl
  size (Side x) = refl
  size Look = refl

  turned : (m : Machine) (a : Act) → turn_of m (drop 2 (record_of q r a)) ≡ done_turn (step_of m (item_of q r a))
  unfolding refuses_of
  turned m (Port e c b) = carried-out m _ _ (decoded (Port e c b)) refl
  turned m (Side x) = carried-out m _ _ (decoded (Side x)) refl
  turned m Look = carried-out m _ _ (decoded Look) refl

pub bytes_run : (q r : ℕ) (xs : List Act) (m : Machine) (room : ℕ) → 8 * length xs ≤ room
    → run_pieces m (pieces (bytes_of q r xs)) room
    ≡ record { machine = folded m (items q r xs); stop = None; consumed = length (bytes_of q r xs); answers = bytes_of_answers (answers_of m (items q r xs)) }
unfolding run_pieces pieces_from onto
bytes_run q r [] m room h = refl
bytes_run q r (a ∷ xs) m room h =
    let s = drop 2 (record_of q r a) in
    let n = step_of m (item_of q r a) in
    ap (λ (p : List Piece). run_pieces m p room) (piece q r a (bytes_of q r xs))
    ∙ item-after-item m s (pieces (bytes_of q r xs)) room (omega arith)
    ∙ ap (λ (t : Turn). onto (answer_bytes t.answer) (length s + 2) (run_pieces t.machine (pieces (bytes_of q r xs)) (room - 8))) (turned q r m a)
    ∙ ap₂ (λ (k : ℕ) (o : Out). onto (answer_bytes (Ok (answer_of n))) k o) (size q r a) (bytes_run q r xs n.machine (room - 8) (omega arith))
    ∙ ap
    (λ (k : ℕ). record { machine = folded m (items q r (a ∷ xs)); stop = None; consumed = k; answers = bytes_of_answers (answers_of m (items q r (a ∷ xs))) })
    (sym (length-append (record_of q r a) (bytes_of q r xs)))
