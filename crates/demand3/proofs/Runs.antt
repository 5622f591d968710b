-- The machine drives its clock as the history's entries do; so demand 3 holds of every run, from every accepted machine and from the fresh one.
use Rattle.std.specs.Prelude.{Option, Some, None, Result, Ok, Err, is_none}
use Rattle.refusal.specs.declared.Refusal.{Refusal}
use Rattle.refusal.specs.declared.Refusal.TheVariants.{NoRoom, NotAccepted}
use mathlib.Core.Path.{◌≡◌, refl, sym, ap, subst, ◌∙◌}
use mathlib.Core.Bool.{Bool, true, false, cond, ◌&&◌}
use mathlib.Core.List.{List, [], ◌∷◌}
use Prim.Native.Nat.{ℕ, ◌-◌, ◌^◌, ◌<◌}
use native.Mathlib.Omega.{arith}
use lib.Dec.{ltb}
use lib.ListN.{length}
use Rattle.units.specs.declared.WaitTicks.{WaitTicks}
use Rattle.levels.specs.Levels.{all_below}
use Rattle.via.specs.declared.Ports.{Ports}
use Rattle.via.specs.Via.{fresh_via, accepted_via}
use Rattle.disk_lines.specs.Lines.{lines_off}
use Rattle.clock_spec.specs.Shared.{quiet}
use Rattle.clock_spec.specs.Store.{with_event}
use Rattle.clock_spec.specs.Phase.{shown_level, accepted_phase}
use Rattle.clock.specs.Step.{with_store, step_wires, step_clock}
use Rattle.clock.proofs.Line.{settled-step}
use Rattle.clock_spec.proofs.Places.{fresh-unused}
use Rattle.clock_spec.specs.declared.Chip.{Chip}
use Rattle.clock_spec.specs.declared.Wires.{Wires}
use Rattle.clock.specs.declared.Clock.{Clock}
use Rattle.disk_spec.specs.Sense.{accepted_drive}
use Rattle.disk_spec.specs.Strobe.{accepted_strobe}
use Rattle.disk_spec.specs.Drives.{accepted_drives}
use Rattle.item_spec.specs.declared.Item.{Item}
use Rattle.item_spec.specs.declared.Item.TheVariants.{ReadVia, ReadIwm, WriteVia, WriteIwm, Blank, Second, Line, Sense, Reset, Power, Disk, Pulse}
use Rattle.item_spec.specs.declared.Decoded.{Decoded}
use Rattle.item_spec.specs.declared.Decoded.TheVariants.{One}
use Rattle.item_spec.specs.Many.{singles_of}
use Rattle.item_spec.specs.Kinds.{decoded_of}
use Rattle.machine_spec.specs.declared.Machine.{Machine}
use Rattle.machine_spec.specs.Pins.{pin, wires_of}
use Rattle.machine_spec.specs.Machine.{wires, accepted_of, fresh_machine}
use Rattle.machine_spec.specs.Accesses.{via_read, iwm_read, keyboard_pulse}
use Rattle.machine_spec.specs.Action.{event_of, acted_of}
use Rattle.machine_spec.specs.Stages.{item_wait, after_wait, refuses_of}
use Rattle.machine_spec.specs.Step.{step_of, after_items}
use Rattle.machine_spec.proofs.MachineLaws.{parts}
use Rattle.machine_spec.proofs.Drives.{disk-wires}
use Rattle.machine_spec.proofs.Stages.{waited-wires}
use Rattle.machine_spec.proofs.Step.{pulse-quiet}
use Rattle.run_spec.specs.Turn.{turn_unless, turn_by, turn_of}
use Rattle.run_spec.specs.Outcome.{Piece, whole, broken, pieces, halt, onto, on_piece, run_pieces, run_of}
use Rattle.history.specs.History.{wires_at}
use Rattle.history.specs.Start.{start_of, Accepted, fresh_start}
use Rattle.history.specs.Demand3.{clock_after, StoreIs}
use Rattle.history.specs.Items.{state_after, FollowsEntries}
use Rattle.demand3.specs.Runs.{after_piece, entry_of, event_unless, entries_of_items, entries_by, trace_of, answered_after, history_of_pieces, answered_pieces, start_of_run, Run3}
use Rattle.history.proofs.Keeps.{step-still}
use Rattle.history.proofs.Driven.{wires-append, clock-append, machine3}

-- ---- one item

-- Before the wires are compared an item has moved the clock's seconds by its event, and nothing else of the clock.
acted-clock : (m : Machine) (i : Item) → (acted_of m i).machine.clock ≡ with_store m.clock (with_event (event_of i) m.clock.store)
unfolding acted_of event_of via_read iwm_read keyboard_pulse
acted-clock m (ReadVia w r) = refl
acted-clock m (ReadIwm w k) = refl
acted-clock m (WriteVia w r v) = refl
acted-clock m (WriteIwm w k v) = refl
acted-clock m (Blank w) = refl
acted-clock m (Second w) = refl
acted-clock m (Line w l v) = refl
acted-clock m (Sense w d r v) = refl
acted-clock m (Reset w) = refl
acted-clock m (Power w s) = refl
acted-clock m (Disk w d i l b) = refl
acted-clock m (Pulse w l) = refl

-- The step by the wires with the data line as it was shown before is the step by the wires as they are after.
settled-wires : (p : Ports) (c : Clock) (w : Wires)
    → step_wires c w (wires_of p (shown_level c.phase)) ≡ step_wires c w (wires_of p (shown_level (step_wires c w (wires_of p (shown_level c.phase))).phase))
unfolding wires_of
settled-wires p c w = sym (settled-step c w (wires_of p true) (pin p.outb p.dirb 1))

-- An item done is the clock's step by the wires after it.
done-is : (m : Machine) (i : Item) → (step_of m i).machine.clock ≡ step_clock (event_of i) m.clock (wires m) (wires (step_of m i).machine)
unfolding step_of
done-is m i =
    let a : Machine = (acted_of (after_wait (item_wait i) m) i).machine in
    settled-wires a.via.ports a.clock (wires m)
    ∙ ap (λ (c : Clock). step_wires c (wires m) (wires (step_of m i).machine)) (acted-clock (after_wait (item_wait i) m) i)

-- A DI done leaves the whole clock as it is.
pub disk-still : (m : Machine) (w : WaitTicks) (d i l b : ℕ) → Accepted m.clock (wires m) → (step_of m (Disk w d i l b)).machine.clock ≡ m.clock
unfolding step_of item_wait acted_of
disk-still m w d i l b ok =
    ap (step_wires m.clock (wires m)) (disk-wires m w d i l b) ∙ step-still m.clock (wires m) ok

-- And so does a KC.
pub pulse-still : (m : Machine) (w : WaitTicks) (l : ℕ) → Accepted m.clock (wires m) → (step_of m (Pulse w l)).machine.clock ≡ m.clock
unfolding step_of item_wait acted_of keyboard_pulse
pulse-still m w l ok =
    ap (step_wires m.clock (wires m)) ((pulse-quiet w l (after_wait w.0 m)).0 ∙ waited-wires w.0 m) ∙ step-still m.clock (wires m) ok

-- A refused one leaves all as it is.
refused-is : (m : Machine) → Accepted m.clock (wires m) → m.clock ≡ step_clock quiet m.clock (wires m) (wires m)
refused-is m ok = sym (step-still m.clock (wires m) ok)

-- Items done one after the other are the clock's steps by their entries, and leave the wires of the newest.
items-clock : (is : List Item) (m : Machine) → (after_items m is).clock ≡ clock_after m.clock (wires m) (entries_of_items m is)
unfolding entries_of_items clock_after wires_at
items-clock [] m = refl
items-clock (i ∷ is) m =
    let n : Machine = (step_of m i).machine in
    items-clock is n
    ∙ ap (λ (c : Clock). clock_after c (wires n) (entries_of_items n is)) (done-is m i)
    ∙ sym (clock-append m.clock (wires m) (entries_of_items n is) (entry_of n (event_of i) ∷ []))

items-wires : (is : List Item) (m : Machine) → wires (after_items m is) ≡ wires_at (start_of m.clock (wires m)) (entries_of_items m is)
unfolding entries_of_items wires_at
items-wires [] m = refl
items-wires (i ∷ is) m =
    let n : Machine = (step_of m i).machine in
    items-wires is n ∙ sym (wires-append m.clock (wires m) n.clock (entries_of_items n is) (entry_of n (event_of i) ∷ []))

-- An item, done or refused by the state.
item-is : (m : Machine) (s : List ℕ) (x : Item) → Accepted m.clock (wires m)
    → (turn_by m s (Ok (One x))).machine.clock ≡ step_clock (event_unless m x) m.clock (wires m) (wires (turn_by m s (Ok (One x))).machine)
item-is m s x ok = go (refuses_of m x)
  where
    turn : Option Refusal → Machine
    turn o = (turn_unless m x o).machine

    go : (o : Option Refusal) → (turn o).clock ≡ step_clock (cond (is_none o) (event_of x) quiet) m.clock (wires m) (wires (turn o))
    go None = done-is m x
    go (Some r) = refused-is m ok

turn-clock : (m : Machine) (s : List ℕ) (d : Result Decoded Refusal) → Accepted m.clock (wires m)
    → (turn_by m s d).machine.clock ≡ clock_after m.clock (wires m) (entries_by m s d)
unfolding clock_after wires_at
turn-clock m s (Ok (One x)) ok = item-is m s x ok
turn-clock m s (Ok (Decoded.Many x)) ok = items-clock (singles_of x s) m
turn-clock m s (Err r) ok = refused-is m ok

turn-wires : (m : Machine) (s : List ℕ) (d : Result Decoded Refusal) → wires (turn_by m s d).machine ≡ wires_at (start_of m.clock (wires m)) (entries_by m s d)
unfolding wires_at
turn-wires m s (Ok (One x)) = refl
turn-wires m s (Ok (Decoded.Many x)) = items-wires (singles_of x s) m
turn-wires m s (Err r) = refl

met-clock : (p : Piece) (m : Machine) → Accepted m.clock (wires m) → (after_piece p m).clock ≡ clock_after m.clock (wires m) (trace_of p m)
unfolding turn_of clock_after wires_at
met-clock (whole s) m ok = turn-clock m s (decoded_of s) ok
met-clock broken m ok = refused-is m ok

met-wires : (p : Piece) (m : Machine) → Accepted m.clock (wires m) → wires (after_piece p m) ≡ wires_at (start_of m.clock (wires m)) (trace_of p m)
unfolding turn_of wires_at
met-wires (whole s) m ok = turn-wires m s (decoded_of s)
met-wires broken m ok = refl

pub drives : FollowsEntries (λ (m : Machine). m.clock) wires after_piece trace_of
drives = record { clock-is = met-clock; wires-are = met-wires }

-- ---- the run

ran-pieces : (m : Machine) (before ps : List Piece) (room : ℕ)
    → (run_pieces (state_after after_piece m before) ps room).machine ≡ state_after after_piece m (answered_after before ps room)
unfolding run_pieces on_piece onto answered_after state_after
ran-pieces m before [] room = refl
ran-pieces m before (broken ∷ ps) room = go (ltb room 8)
  where
    M : Machine
    M = state_after after_piece m before

    go : (t : Bool) → (cond t (halt M (Some NoRoom)) (on_piece M broken (λ m₁. run_pieces m₁ ps (room - 8)))).machine ≡ state_after after_piece m (cond t before (broken ∷ before))
    go true = refl
    go false = refl
ran-pieces m before (whole s ∷ ps) room = go (ran-pieces m (whole s ∷ before) ps (room - 8)) (ltb room 8)
  where
    M : Machine
    M = state_after after_piece m before

    go : (run_pieces (turn_of M s).machine ps (room - 8)).machine ≡ state_after after_piece m (answered_after (whole s ∷ before) ps (room - 8)) → (t : Bool)
        → (cond t (halt M (Some NoRoom)) (on_piece M (whole s) (λ m₁. run_pieces m₁ ps (room - 8)))).machine ≡ state_after after_piece m (cond t before (answered_after (whole s ∷ before) ps (room - 8)))
    go q true = refl
    go q false = q

-- What a run hands back is the state after the pieces answered.
pub ran-is : (m : Machine) → accepted_of m ≡ true → (list : List ℕ) (room : ℕ) → (run_of m list room).machine ≡ state_after after_piece m (answered_pieces list room)
unfolding run_of state_after
ran-is m a list room = ap (λ (t : Bool). (cond t (run_pieces m (pieces list) room) (halt m (Some NotAccepted))).machine) a ∙ ran-pieces m [] (pieces list) room

-- ---- demand 3

pub accepted-clock : (m : Machine) → accepted_of m ≡ true → length m.clock.store.cells ≡ 256 → m.clock.store.seconds < 2 ^ 32
    → Accepted m.clock (wires m)
accepted-clock m a l u = record { phase = (parts m a).phase; cells = l; unused = (parts m a).unused; seconds = u }

pub run3 : (m : Machine) → accepted_of m ≡ true → Accepted m.clock (wires m) → (list : List ℕ) (room : ℕ) → Run3 m list room (run_of m list room).machine
run3 m a ok list room =
    let is : List Piece = answered_pieces list room in
    let r = ran-is m a list room in
    let d = machine3 (λ (m : Machine). m.clock) wires after_piece trace_of drives m ok in
    record {
      reached = r;
      store = subst (λ (x : Machine). StoreIs (start_of_run m) (history_of_pieces m is) x.clock.store) (sym r) (d is).store;
      under_protect = λ is js ls q p k. (d is).under_protect js p k;
    }

-- The fresh machine, and what its history starts from: cells, seconds, protect and test 0, wires 1, no stretch open.
pub start-fresh : (k : Chip) → start_of_run (fresh_machine k) ≡ fresh_start k
unfolding fresh_via wires_of shown_level
start-fresh k = refl

pub fresh_ok : (k : Chip) → accepted_of (fresh_machine k) ≡ true
unfolding accepted_of fresh_via lines_off accepted_via all_below accepted_phase wires_of shown_level accepted_drive accepted_strobe accepted_drives
fresh_ok k = ap (λ (u : Bool). u && true) (fresh-unused k)

pub run3-fresh : (k : Chip) (list : List ℕ) (room : ℕ) → Run3 (fresh_machine k) list room (run_of (fresh_machine k) list room).machine
run3-fresh k list room = run3 (fresh_machine k) (fresh_ok k) (accepted-clock (fresh_machine k) (fresh_ok k) refl (omega arith)) list room
