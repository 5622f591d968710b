-- W-208: two runs from one accepted machine, with either chip, whose sequences of touches agree end with the same clock.
use Rattle.std.specs.Prelude.{Option, Some, None, Result, Ok, Err, is_none}
use Rattle.refusal.specs.declared.Refusal.{Refusal}
use Prim.Native.Nat.{ℕ, ◌<◌}
use mathlib.Core.Path.{◌≡◌, refl, sym, ap, ap₂, ◌∙◌}
use mathlib.Core.Bool.{Bool, true, false, cond}
use mathlib.Core.List.{List, [], ◌∷◌, ◌++◌}
use Rattle.units.specs.declared.WaitTicks.{WaitTicks}
use Rattle.units.specs.Units.{for_ticks}
use Rattle.clock_spec.specs.declared.Chip.{Chip}
use Rattle.clock.specs.declared.Clock.{Clock}
use Rattle.item_spec.specs.declared.Item.{Item}
use Rattle.item_spec.specs.declared.Item.TheVariants.{ReadVia, ReadIwm, WriteVia, WriteIwm, Blank, Second, Line, Sense, Reset, Power, Disk, Pulse}
use Rattle.item_spec.specs.declared.Many.{Many}
use Rattle.item_spec.specs.declared.Decoded.{Decoded}
use Rattle.item_spec.specs.declared.Decoded.TheVariants.{One}
use Rattle.item_spec.specs.Items.{LocationInRange}
use Rattle.item_spec.specs.Many.{single, singles_after, values_of}
use Rattle.item_spec.specs.Kinds.{decoded_of}
use Rattle.item_spec.proofs.ItemRange.{many-range, single-range}
use Rattle.machine_spec.specs.declared.Machine.{Machine}
use Rattle.machine_spec.specs.Machine.{accepted_of, fresh_machine}
use Rattle.machine_spec.specs.Stages.{refuses_of}
use Rattle.machine_spec.specs.Step.{step_of, after_items}
use Rattle.machine_spec.proofs.MachineLaws.{parts}
use Rattle.machine_spec.proofs.Keeps.{step_keeps}
use Rattle.run_spec.specs.Turn.{turn_unless, turn_by, turn_of}
use Rattle.run_spec.specs.Outcome.{Piece, whole, broken, run_of}
use Rattle.run_spec.proofs.Keeps.{turn-keeps}
use Rattle.history.specs.Items.{state_after}
use Rattle.demand3.specs.Runs.{after_piece, answered_pieces}
use Rattle.demand3.proofs.Runs.{ran-is, fresh_ok}
use Rattle.demand3_touches.specs.Touches.{Touch, touches_of, touches_of_items, touches_by, touches_at, touches_of_pieces, touches, SameClock, TouchedAlike}
use Rattle.demand3_touches.proofs.Seen.{Seen, seen_of, after_touches, after-append, done}

-- ---- one piece of the list

-- An MW, by its single WR items.
many-touches : (x : Many) → LocationInRange x.to → (vs : List ℕ) (m : Machine) (w : WaitTicks) → accepted_of m ≡ true
    → seen_of (after_items m (singles_after x w vs)) ≡ after_touches (touches_of_items (singles_after x w vs)) (seen_of m)
unfolding touches_of_items
many-touches x h [] m w a = refl
many-touches x h (v ∷ vs) m w a =
    let i : Item = single x w v in
    let n : Machine = (step_of m i).machine in
    let rest : List Touch = touches_of_items (singles_after x (for_ticks 0) vs) in
    many-touches x h vs n (for_ticks 0) (step_keeps m i (single-range x h w v) a)
    ∙ ap (after_touches rest) (done m i (parts m a).phase)
    ∙ sym (after-append rest (touches_of i) (seen_of m))

turn-touches : (m : Machine) (s : List ℕ) (d : Result Decoded Refusal) → decoded_of s ≡ d → accepted_of m ≡ true → seen_of (turn_by m s d).machine ≡ after_touches (touches_by m s d) (seen_of m)
turn-touches m s (Err r) p a = refl
turn-touches m s (Ok (Decoded.Many x)) p a = many-touches x (many-range s x p).number (values_of s) m x.wait a
turn-touches m s (Ok (One x)) p a = go (refuses_of m x)
  where
    go : (o : Option Refusal) → seen_of (turn_unless m x o).machine ≡ after_touches (cond (is_none o) (touches_of x) []) (seen_of m)
    go None = done m x (parts m a).phase
    go (Some r) = refl

piece-touches : (p : Piece) (m : Machine) → accepted_of m ≡ true → seen_of (after_piece p m) ≡ after_touches (touches_at p m) (seen_of m)
unfolding turn_of
piece-touches (whole s) m a = turn-touches m s (decoded_of s) refl a
piece-touches broken m a = refl

piece-keeps : (p : Piece) (m : Machine) → accepted_of m ≡ true → accepted_of (after_piece p m) ≡ true
piece-keeps (whole s) m a = turn-keeps m s a
piece-keeps broken m a = a

-- ---- all of them

pieces-keep : (m : Machine) → accepted_of m ≡ true → (ps : List Piece) → accepted_of (state_after after_piece m ps) ≡ true
unfolding state_after
pieces-keep m a [] = a
pieces-keep m a (p ∷ ps) = piece-keeps p (state_after after_piece m ps) (pieces-keep m a ps)

pieces-touch : (m : Machine) → accepted_of m ≡ true → (ps : List Piece) → seen_of (state_after after_piece m ps) ≡ after_touches (touches_of_pieces m ps) (seen_of m)
unfolding state_after touches_of_pieces
pieces-touch m a [] = refl
pieces-touch m a (p ∷ ps) =
    let k : Machine = state_after after_piece m ps in
    piece-touches p k (pieces-keep m a ps)
    ∙ ap (after_touches (touches_at p k)) (pieces-touch m a ps)
    ∙ sym (after-append (touches_at p k) (touches_of_pieces m ps) (seen_of m))

-- What the clock can see after a run is a fold over the run's touches.
pub run-touches : (m : Machine) → accepted_of m ≡ true → (list : List ℕ) (room : ℕ) → seen_of (run_of m list room).machine ≡ after_touches (touches m list room) (seen_of m)
run-touches m a list room = ap seen_of (ran-is m a list room) ∙ pieces-touch m a (answered_pieces list room)

-- ---- the sequence hangs on the list and the room alone

-- Only DI is refused by the state, and DI is no touch.
unrefused : (m : Machine) (x : Item) → cond (is_none (refuses_of m x)) (touches_of x) [] ≡ touches_of x
unfolding refuses_of touches_of
unrefused m (ReadVia w r) = refl
unrefused m (ReadIwm w k) = refl
unrefused m (WriteVia w r v) = refl
unrefused m (WriteIwm w k v) = refl
unrefused m (Blank w) = refl
unrefused m (Second w) = refl
unrefused m (Line w l v) = refl
unrefused m (Sense w d r v) = refl
unrefused m (Reset w) = refl
unrefused m (Power w s) = refl
unrefused m (Pulse w l) = refl
unrefused m (Disk w d i l b) = go (is_none (refuses_of m (Disk w d i l b)))
  where
    go : (t : Bool) → ◌≡◌ {A = List Touch} (cond t [] []) []
    go true = refl
    go false = refl

any-by : (m n : Machine) (s : List ℕ) (d : Result Decoded Refusal) → touches_by m s d ≡ touches_by n s d
any-by m n s (Ok (One x)) = unrefused m x ∙ sym (unrefused n x)
any-by m n s (Ok (Decoded.Many x)) = refl
any-by m n s (Err r) = refl

any_at : (m n : Machine) (p : Piece) → touches_at p m ≡ touches_at p n
any_at m n (whole s) = any-by m n s (decoded_of s)
any_at m n broken = refl

pub any-machine : (m n : Machine) (ps : List Piece) → touches_of_pieces m ps ≡ touches_of_pieces n ps
unfolding touches_of_pieces
any-machine m n [] = refl
any-machine m n (p ∷ ps) = ap₂ (λ (a b : List Touch). a ++ b) (any_at (state_after after_piece m ps) (state_after after_piece n ps) p) (any-machine m n ps)

-- ---- two runs

-- From two machines that the clock cannot tell apart.
pub alike : (m n : Machine) → accepted_of m ≡ true → accepted_of n ≡ true → seen_of m ≡ seen_of n → (a b : List ℕ) (room_a room_b : ℕ)
    → touches m a room_a ≡ touches n b room_b → seen_of (run_of m a room_a).machine ≡ seen_of (run_of n b room_b).machine
alike m n am an e a b room_a room_b q =
    run-touches m am a room_a ∙ ap (λ (ts : List Touch). after_touches ts (seen_of m)) q ∙ ap (after_touches (touches n b room_b)) e ∙ sym (run-touches n an b room_b)

pub same : (c d : Clock) → c ≡ d → SameClock c d
same c d e =
    record {
      cells = ap (λ (x : Clock). x.store.cells) e;
      seconds = ap (λ (x : Clock). x.store.seconds) e;
      protect = ap (λ (x : Clock). x.store.protect) e;
      test = ap (λ (x : Clock). x.store.test) e;
      phase = ap (λ (x : Clock). x.phase) e;
    }

-- The promise.
pub same-clock : (m : Machine) → accepted_of m ≡ true → TouchedAlike m
same-clock m h a b room_a room_b q =
    same (run_of m a room_a).machine.clock (run_of m b room_b).machine.clock (ap (λ (x : Seen). x.clock) (alike m m h h refl a b room_a room_b q))

-- The fresh machine, with either chip.
pub same-clock-fresh : (k : Chip) → TouchedAlike (fresh_machine k)
same-clock-fresh k = same-clock (fresh_machine k) (fresh_ok k)
