-- In a run over bytes the directions of port B stay a byte.
use Rattle.std.specs.Prelude.{Option, Some, None, Result, Ok, Err}
use Rattle.refusal.specs.declared.Refusal.{Refusal}
use mathlib.Core.Path.{◌≡◌, refl, sym, subst}
use mathlib.Core.List.{List, [], ◌∷◌, ◌++◌}
use Prim.Native.Nat.{ℕ, zero, suc, ◌-◌, ◌<◌}
use native.Mathlib.Omega.{arith}
use lib.Dec.{eqb, ltb}
use lib.ListN.{take, drop}
use Rattle.units.specs.Units.{for_ticks}
use Rattle.units.specs.declared.WaitTicks.{WaitTicks}
use Rattle.octets.specs.Octets.{Bytes}
use Rattle.via.specs.declared.Ports.{Ports}
use Rattle.via.specs.Via.{fresh_via, raised_of, reset_of}
use Rattle.via.specs.Writes.{via_written, ports_written}
use Rattle.via.specs.Registers.{register_read}
use Rattle.via.proofs.Kept.{ticks-ports}
use Rattle.via.proofs.AccessKept.{pulse-ports}
use Rattle.clock_spec.proofs.CommandRange.{cond-case}
use Rattle.item_spec.specs.declared.Item.{Item}
use Rattle.item_spec.specs.declared.Item.TheVariants.{ReadVia, ReadIwm, WriteVia, WriteIwm, Blank, Second, Line, Sense, Reset, Power, Disk, Pulse}
use Rattle.item_spec.specs.declared.Many.{Many}
use Rattle.item_spec.specs.declared.Decoded.{Decoded}
use Rattle.item_spec.specs.declared.Decoded.TheVariants.{One}
use Rattle.item_spec.specs.Items.{ItemInWidth}
use Rattle.item_spec.specs.Many.{single, singles_after, values_of}
use Rattle.item_spec.specs.Kinds.{decoded_of}
use Rattle.item_spec.specs.Record.{frame_of}
use Rattle.item_spec.proofs.ItemRange.{decoded-width, many-width, single-width}
use Rattle.machine_spec.specs.declared.Machine.{Machine}
use Rattle.machine_spec.specs.Accesses.{via_read, iwm_read, keyboard_pulse}
use Rattle.machine_spec.specs.Action.{acted_of}
use Rattle.machine_spec.specs.Stages.{item_wait, after_wait, refuses_of}
use Rattle.machine_spec.specs.Step.{step_of, after_items}
use Rattle.run_spec.specs.Turn.{turn_unless, turn_by, turn_of}
use Rattle.run_spec.specs.Outcome.{Piece, whole, broken, pieces, cut, pieces_from}
use Rattle.history.specs.Items.{state_after}
use Rattle.demand3.specs.Runs.{after_piece, answered_after, answered_pieces}
use Rattle.demand3_reads.specs.Runs.{machine_after_pieces}

abbrev pub Narrow : Machine → Type 0
Narrow m = m.via.ports.dirb < 256

-- ---- one item

waited-narrow : (n : ℕ) (m : Machine) → Narrow m → Narrow (after_wait n m)
waited-narrow n m l = subst (λ (p : Ports). p.dirb < 256) (sym (ticks-ports n m.via)) l

acted-narrow : (x : Item) (m : Machine) → ItemInWidth x → Narrow m → Narrow (acted_of m x).machine
unfolding acted_of via_read register_read iwm_read keyboard_pulse via_written ports_written raised_of reset_of fresh_via
acted-narrow (ReadVia w r) m i l = l
acted-narrow (ReadIwm w k) m i l = l
acted-narrow (WriteVia w r v) m i l = cond-case (λ (d : ℕ). d < 256) (eqb r 2) (λ e. i.1) (λ e. l)
acted-narrow (WriteIwm w k v) m i l = l
acted-narrow (Blank w) m i l = l
acted-narrow (Second w) m i l = l
acted-narrow (Line w n v) m i l = l
acted-narrow (Sense w d r v) m i l = l
acted-narrow (Reset w) m i l = omega arith
acted-narrow (Power w s) m i l = omega arith
acted-narrow (Disk w d i l b) m i' l' = l'
acted-narrow (Pulse w n) m i l = subst (λ (p : Ports). p.dirb < 256) (sym (pulse-ports n m.via)) l

step-narrow : (x : Item) (m : Machine) → ItemInWidth x → Narrow m → Narrow (step_of m x).machine
unfolding step_of
step-narrow x m i l = acted-narrow x (after_wait (item_wait x) m) i (waited-narrow (item_wait x) m l)

pub take-bytes : (n : ℕ) (l : List ℕ) → Bytes l → Bytes (take n l)
take-bytes zero l bs i = omega arith
take-bytes (suc n) [] bs i = omega arith
take-bytes (suc n) (x ∷ xs) bs zero = bs 0
take-bytes (suc n) (x ∷ xs) bs (suc i) = take-bytes n xs (λ j. bs (suc j)) i

pub drop-bytes : (n : ℕ) (l : List ℕ) → Bytes l → Bytes (drop n l)
drop-bytes zero l bs = bs
drop-bytes (suc n) [] bs = bs
drop-bytes (suc n) (x ∷ xs) bs = drop-bytes n xs (λ j. bs (suc j))

-- The values of an MW are bytes, as its wait is of two.
many-narrow : (x : Many) (vs : List ℕ) (m : Machine) (w : WaitTicks) → Bytes vs → w.0 < 65536 → Narrow m → Narrow (after_items m (singles_after x w vs))
many-narrow x [] m w bs h l = l
many-narrow x (v ∷ vs) m w bs h l =
    many-narrow x vs (step_of m (single x w v)).machine (for_ticks 0) (λ j. bs (suc j)) (omega arith) (step-narrow (single x w v) m (single-width x w v h (bs 0)) l)

turn-narrow : (s : List ℕ) (m : Machine) (d : Result Decoded Refusal) → decoded_of s ≡ d → Bytes s → Narrow m → Narrow (turn_by m s d).machine
turn-narrow s m (Err r) q bs l = l
turn-narrow s m (Ok (Decoded.Many x)) q bs l = many-narrow x (values_of s) m x.wait (drop-bytes 9 s bs) (many-width s x bs q) l
turn-narrow s m (Ok (One x)) q bs l = go (refuses_of m x)
  where
    go : (o : Option Refusal) → Narrow (turn_unless m x o).machine
    go None = step-narrow x m (decoded-width s x bs q) l
    go (Some r) = l

-- ---- pieces of bytes

abbrev OfBytes : Piece → Type 0
OfBytes (whole s) = Bytes s
OfBytes broken = Unit {0}

abbrev All : List Piece → Type 0
All [] = Unit {0}
All (p ∷ ps) = OfBytes p × All ps

met-narrow : (p : Piece) (m : Machine) → OfBytes p → Narrow m → Narrow (after_piece p m)
unfolding turn_of
met-narrow (whole s) m bs l = turn-narrow s m (decoded_of s) refl bs l
met-narrow broken m bs l = l

after-narrow : (m : Machine) → Narrow m → (is : List Piece) → All is → Narrow (machine_after_pieces m is)
unfolding state_after
after-narrow m l [] a = l
after-narrow m l (i ∷ is) (b, a) = met-narrow i (machine_after_pieces m is) b (after-narrow m l is a)

cut-bytes : (f : Option ℕ) (s : List ℕ) (go : ℕ → List Piece) → Bytes s → ((k : ℕ) → All (go k)) → All (cut f s go)
unfolding cut
cut-bytes (Some n) s go bs g = (take-bytes (n - 2) (drop 2 s) (drop-bytes 2 s bs), g (n - 1))
cut-bytes None s go bs g = (tt, tt)

pieces-bytes : (l : List ℕ) → Bytes l → (k : ℕ) → All (pieces_from k l)
unfolding pieces_from
pieces-bytes [] bs k = tt
pieces-bytes (x ∷ xs) bs zero = cut-bytes (frame_of (x ∷ xs)) (x ∷ xs) (λ k. pieces_from k xs) bs (λ k. pieces-bytes xs (λ j. bs (suc j)) k)
pieces-bytes (x ∷ xs) bs (suc k) = pieces-bytes xs (λ j. bs (suc j)) k

answered-bytes : (before ps : List Piece) (room : ℕ) → All before → All ps → All (answered_after before ps room)
unfolding answered_after
answered-bytes before [] room b a = b
answered-bytes before (broken ∷ ps) room b a = cond-case All (ltb room 8) (λ e. b) (λ e. (tt, b))
answered-bytes before (whole s ∷ ps) room b (q, a) =
    cond-case All (ltb room 8) (λ e. b) (λ e. answered-bytes (whole s ∷ before) ps (room - 8) (q, b) a)

earlier : (ls is : List Piece) → All (ls ++ is) → All is
earlier [] is a = a
earlier (l ∷ ls) is (q, a) = earlier ls is a

-- After the pieces is of a run over bytes.
pub run-narrow : (m : Machine) → Narrow m → (list : List ℕ) → Bytes list → (room : ℕ) (ls is : List Piece) → ls ++ is ≡ answered_pieces list room → Narrow (machine_after_pieces m is)
run-narrow m l list bs room ls is q =
    after-narrow m l is (earlier ls is (subst All (sym q) (answered-bytes [] (pieces list) room tt (pieces-bytes list bs 0))))
