-- A list that is cut between records: running the whole is running the first part, and then the second from the state and with the room
-- that the first part left, the answers joined.
use Rattle.std.specs.Prelude.{Option, Some, None, is_some}
use Rattle.refusal.specs.declared.Refusal.{Refusal}
use Rattle.refusal.specs.declared.Refusal.TheVariants.{NoRoom, NotAccepted}
use Prim.Native.Nat.{ℕ, zero, suc, ◌+◌, ◌-◌, ◌≤◌}
use mathlib.Core.Path.{◌≡◌, refl, sym, ap, ap₂, ◌∙◌}
use mathlib.Core.Bool.{Bool, true, false, cond, true≢false}
use mathlib.Core.List.{List, [], ◌∷◌, ◌++◌}
use native.Mathlib.Omega.{arith}
use native.Mathlib.Nat.{sub-zero, sub-add-eq}
use lib.ListN.{length, take, drop, length-append, length-drop}
use lib.Seq.{take-append-le, drop-append-le, length-take-le}
use lib.Dec.{ltb}
use Rattle.item_spec.specs.Record.{frame_of, answer_bytes}
use Rattle.item_spec.proofs.RecordLaws.{answer-long, whole-fits, whole_append}
use Rattle.machine_spec.specs.declared.Machine.{Machine}
use Rattle.machine_spec.specs.Machine.{accepted_of}
use Rattle.run_spec.proofs.Keeps.{turn-keeps}
use Rattle.run_spec.specs.Turn.{turn_of}
use Rattle.run_spec.specs.Outcome.{Piece, whole, broken, cut, pieces_from, pieces, Out, halt, onto, on_piece, run_pieces, run_of}
use Rattle.run_spec.proofs.Users.{run-keeps}
use Rattle.run_spec.proofs.Pieces.{onto-none, onto-onto}

-- every piece is a whole record
abbrev pub Wholes : List Piece → Type 0
Wholes [] = Unit {0}
Wholes (whole s ∷ ps) = Wholes ps
Wholes (broken ∷ ps) = ⊥

-- the bytes of some pieces
abbrev pub total : List Piece → ℕ
total [] = 0
total (whole s ∷ ps) = length s + 2 + total ps
total (broken ∷ ps) = total ps

-- ---- the pieces of a joined list

pub pieces-append : (k : ℕ) (a b : List ℕ) → k ≤ length a → Wholes (pieces_from k a) → pieces_from k (a ++ b) ≡ pieces_from k a ++ pieces b
unfolding pieces_from cut
pieces-append zero [] b h w = refl
pieces-append (suc k) [] b h w = absurd (omega arith)
pieces-append (suc k) (x ∷ xs) b h w = pieces-append k xs b (omega arith) w
pieces-append zero (x ∷ xs) b h w = go (λ k h₁ w₁. pieces-append k xs b h₁ w₁) (frame_of (x ∷ xs)) refl w
  where
    go : ((k : ℕ) → k ≤ length xs → Wholes (pieces_from k xs) → pieces_from k (xs ++ b) ≡ pieces_from k xs ++ pieces b) → (f : Option ℕ) → frame_of (x ∷ xs) ≡ f → Wholes (cut f (x ∷ xs) (λ k. pieces_from k xs))
        → cut (frame_of (x ∷ (xs ++ b))) (x ∷ (xs ++ b)) (λ k. pieces_from k (xs ++ b)) ≡ cut (frame_of (x ∷ xs)) (x ∷ xs) (λ k. pieces_from k xs) ++ pieces b
    go rec None e v = absurd v
    go rec (Some n) e v =
        let fits = whole-fits (x ∷ xs) n e in
        ap (λ (f : Option ℕ). cut f (x ∷ (xs ++ b)) (λ k. pieces_from k (xs ++ b))) (whole_append (x ∷ xs) b n e)
        ∙ ap₂ (λ (s : List ℕ) (ps : List Piece). whole s ∷ ps)
        (ap (take (n - 2)) (drop-append-le 2 (x ∷ xs) b (omega arith)) ∙ take-append-le (n - 2) (drop 2 (x ∷ xs)) b (simp length-drop (omega arith)))
        (rec (n - 1) (omega arith) v)
        ∙ sym (ap (λ (f : Option ℕ). cut f (x ∷ xs) (λ k. pieces_from k xs) ++ pieces b) e)

-- whole records are all of the list
pub pieces-total : (k : ℕ) (a : List ℕ) → k ≤ length a → Wholes (pieces_from k a) → total (pieces_from k a) + k ≡ length a
unfolding pieces_from cut
pieces-total zero [] h w = refl
pieces-total (suc k) [] h w = absurd (omega arith)
pieces-total (suc k) (x ∷ xs) h w = omega (arith, pieces-total k xs (omega arith) w)
pieces-total zero (x ∷ xs) h w = go (λ k h₁ w₁. pieces-total k xs h₁ w₁) (frame_of (x ∷ xs)) refl w
  where
    go : ((k : ℕ) → k ≤ length xs → Wholes (pieces_from k xs) → total (pieces_from k xs) + k ≡ length xs) → (f : Option ℕ) → frame_of (x ∷ xs) ≡ f → Wholes (cut f (x ∷ xs) (λ k. pieces_from k xs)) → total (cut f (x ∷ xs) (λ k. pieces_from k xs)) + 0 ≡ suc (length xs)
    go rec None e v = absurd v
    go rec (Some n) e v =
        let fits = whole-fits (x ∷ xs) n e in
        let d = length-drop 2 (x ∷ xs) in
        omega (arith, rec (n - 1) (omega arith) v, length-take-le (n - 2) (drop 2 (x ∷ xs)) (omega arith))

-- ---- the run of joined pieces

-- a run that stops at a refusal does not end with the list
stopped : {r : Refusal} → Some r ≡ None → ⊥
stopped e = true≢false (ap is_some e)

pub run-wholes : (ps : List Piece) (m : Machine) (room : ℕ) → (run_pieces m ps room).stop ≡ None → Wholes ps
unfolding run_pieces on_piece onto
run-wholes [] m room e = tt
run-wholes (broken ∷ ps) m room e = go (ltb room 8) e
  where
    go : (t : Bool) → (cond t (halt m (Some NoRoom)) (on_piece m broken (λ m₁. run_pieces m₁ ps (room - 8)))).stop ≡ None → ⊥
    go true e = stopped e
    go false e = stopped e
run-wholes (whole s ∷ ps) m room e = go (λ e₁. run-wholes ps (turn_of m s).machine (room - 8) e₁) (ltb room 8) e
  where
    go : ((run_pieces (turn_of m s).machine ps (room - 8)).stop ≡ None → Wholes ps) → (t : Bool) → (cond t (halt m (Some NoRoom)) (on_piece m (whole s) (λ m₁. run_pieces m₁ ps (room - 8)))).stop ≡ None → Wholes ps
    go rec true e = absurd (stopped e)
    go rec false e = rec e

-- what a run leaves, and then what a second run makes of it
abbrev pub and_then : Out → ℕ → (Machine → ℕ → Out) → Out
and_then o room go = onto o.answers o.consumed (go o.machine (room - length o.answers))

pub run-append : (ps qs : List Piece) (m : Machine) (room : ℕ) → (run_pieces m ps room).stop ≡ None
    → run_pieces m (ps ++ qs) room ≡ and_then (run_pieces m ps room) room (λ m₁ r. run_pieces m₁ qs r)
unfolding run_pieces on_piece onto
run-append [] qs m room e = rw sub-zero (onto-none (run_pieces m qs room))
run-append (broken ∷ ps) qs m room e = absurd (run-wholes (broken ∷ ps) m room e)
run-append (whole s ∷ ps) qs m room e = go (λ e₁. run-append ps qs (turn_of m s).machine (room - 8) e₁) (ltb room 8) e
  where
    go : ((run_pieces (turn_of m s).machine ps (room - 8)).stop ≡ None
        → run_pieces (turn_of m s).machine (ps ++ qs) (room - 8) ≡ and_then (run_pieces (turn_of m s).machine ps (room - 8)) (room - 8) (λ m₁ r. run_pieces m₁ qs r))
        → (t : Bool)
        → (cond t (halt m (Some NoRoom)) (onto (answer_bytes (turn_of m s).answer) (length s + 2) (run_pieces (turn_of m s).machine ps (room - 8)))).stop ≡ None
        → cond t (halt m (Some NoRoom)) (onto (answer_bytes (turn_of m s).answer) (length s + 2) (run_pieces (turn_of m s).machine (ps ++ qs) (room - 8)))
        ≡ and_then (cond t (halt m (Some NoRoom)) (onto (answer_bytes (turn_of m s).answer) (length s + 2) (run_pieces (turn_of m s).machine ps (room - 8)))) room (λ m₁ r. run_pieces m₁ qs r)
    go rec true e = absurd (stopped e)
    go rec false e =
        let o = run_pieces (turn_of m s).machine ps (room - 8) in
        ap (onto (answer_bytes (turn_of m s).answer) (length s + 2)) (rec e)
        ∙ onto-onto (answer_bytes (turn_of m s).answer) o.answers (length s + 2) o.consumed _
        ∙ ap (λ (r : ℕ). onto (answer_bytes (turn_of m s).answer ++ o.answers) (length s + 2 + o.consumed) (run_pieces o.machine qs r))
        (simp (length-append, answer-long (turn_of m s).answer, sub-add-eq))

-- a run that ends with the list has read all of it
pub run-total : (ps : List Piece) (m : Machine) (room : ℕ) → (run_pieces m ps room).stop ≡ None → (run_pieces m ps room).consumed ≡ total ps
unfolding run_pieces on_piece onto
run-total [] m room e = refl
run-total (broken ∷ ps) m room e = absurd (run-wholes (broken ∷ ps) m room e)
run-total (whole s ∷ ps) m room e = go (λ e₁. run-total ps (turn_of m s).machine (room - 8) e₁) (ltb room 8) e
  where
    go : ((run_pieces (turn_of m s).machine ps (room - 8)).stop ≡ None → (run_pieces (turn_of m s).machine ps (room - 8)).consumed ≡ total ps)
        → (t : Bool)
        → (cond t (halt m (Some NoRoom)) (onto (answer_bytes (turn_of m s).answer) (length s + 2) (run_pieces (turn_of m s).machine ps (room - 8)))).stop ≡ None
        → (cond t (halt m (Some NoRoom)) (onto (answer_bytes (turn_of m s).answer) (length s + 2) (run_pieces (turn_of m s).machine ps (room - 8)))).consumed ≡ length s + 2 + total ps
    go rec true e = absurd (stopped e)
    go rec false e = ap (λ (k : ℕ). length s + 2 + k) (rec e)

-- the whole list, and the list cut between records
module _ (keeps : (m : Machine) (s : List ℕ) → accepted_of m ≡ true → accepted_of (turn_of m s).machine ≡ true) where
  pub joined : (m : Machine) (a b : List ℕ) (room : ℕ) → (run_of m a room).stop ≡ None
      → run_of m (a ++ b) room
      ≡ onto (run_of m a room).answers (length a) (run_of (run_of m a room).machine b (room - length (run_of m a room).answers))
  unfolding run_of
  joined m a b room = go (accepted_of m) refl
    where
      go : (t : Bool) → accepted_of m ≡ t → (cond t (run_pieces m (pieces a) room) (halt m (Some NotAccepted))).stop ≡ None
          → cond t (run_pieces m (pieces (a ++ b)) room) (halt m (Some NotAccepted))
          ≡ onto (cond t (run_pieces m (pieces a) room) (halt m (Some NotAccepted))).answers (length a)
          (run_of (cond t (run_pieces m (pieces a) room) (halt m (Some NotAccepted))).machine b (room - length (cond t (run_pieces m (pieces a) room) (halt m (Some NotAccepted))).answers))
      go false p e = absurd (stopped e)
      go true p e =
          let w = run-wholes (pieces a) m room e in
          let o = run_pieces m (pieces a) room in
          let all : o.consumed ≡ length a = run-total (pieces a) m room e ∙ omega (arith, pieces-total 0 a (omega arith) w) in
          let ok : accepted_of o.machine ≡ true = run-keeps (λ (n : Machine). accepted_of n ≡ true) keeps (pieces a) m room p in
          ap (λ (ps : List Piece). run_pieces m ps room) (pieces-append 0 a b (omega arith) w) ∙ run-append (pieces a) (pieces b) m room e
          ∙ ap (λ (k : ℕ). onto o.answers k (run_pieces o.machine (pieces b) (room - length o.answers))) all
          ∙ ap (λ (t : Bool). onto o.answers (length a) (cond t (run_pieces o.machine (pieces b) (room - length o.answers)) (halt o.machine (Some NotAccepted)))) (sym ok)

pub cut_list : (m : Machine) (a b : List ℕ) (room : ℕ) → (run_of m a room).stop ≡ None
    → run_of m (a ++ b) room
    ≡ onto (run_of m a room).answers (length a) (run_of (run_of m a room).machine b (room - length (run_of m a room).answers))
cut_list = joined turn-keeps
