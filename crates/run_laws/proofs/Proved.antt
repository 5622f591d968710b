-- The laws of W-212 hold of every state.
use Rattle.std.specs.Prelude.{Some, None}
use Rattle.refusal.specs.declared.Refusal.TheVariants.{NotAccepted}
use Prim.Native.Nat.{ℕ, ◌+◌, ◌-◌, ◌<◌}
use mathlib.Core.Path.{◌≡◌, refl, sym, ap, ap₂, subst, ◌∙◌}
use mathlib.Core.Bool.{Bool, true, false, cond}
use mathlib.Core.List.{List, [], ◌++◌, append-nil, append_assoc}
use native.Mathlib.Omega.{arith}
use native.Mathlib.Nat.{add-zero}
use lib.ListN.{length, drop, length-append}
use lib.Seq.{drop-drop}
use Rattle.units.specs.declared.WaitTicks.{WaitTicks}
use Rattle.via.specs.Via.{fresh_via, ticks, reset_of}
use Rattle.via.proofs.Accepted.{ticks-accepted}
use Rattle.clock_spec.specs.Shared.{advance, stops}
use Rattle.clock_spec.specs.Store.{with_seconds, act}
use Rattle.clock_spec.specs.Phase.{between, accepted_phase}
use Rattle.clock.specs.Step.{with_store, next, acts, step_wires}
use Rattle.clock_spec.specs.declared.Wires.{Wires}
use Rattle.disk_spec.specs.declared.Drives.{Drives}
use Rattle.disk_spec.specs.Strobe.{no_strobe, strobe_ticks}
use Rattle.disk_spec.specs.Drive.{drive_ticks}
use Rattle.disk_spec.specs.declared.Watched.{Watched}
use Rattle.disk_spec.specs.Drives.{with_strobe, drives_ticks, drives_powered, accepted_drives}
use Rattle.disk_spec.proofs.DrivesLaws.{drives_ticks-accepted}
use Rattle.item_spec.specs.declared.Item.TheVariants.{Reset, Power}
use Rattle.machine_spec.specs.declared.Machine.{Machine}
use Rattle.machine_spec.specs.Pins.{wires_of}
use Rattle.machine_spec.specs.Machine.{with_clock, with_drives, strobe_levels, accepted_of, no_value}
use Rattle.machine_spec.specs.Action.{acted_of}
use Rattle.machine_spec.specs.Stages.{item_wait, after_wait}
use Rattle.machine_spec.specs.Step.{step_of}
use Rattle.machine_spec.proofs.MachineLaws.{parts, whole}
use Rattle.machine_spec.proofs.Stages.{waited-wires, waited-watched}
use Rattle.machine_spec.proofs.Drives.{reset-drives, power-drives}
use Rattle.machine_spec.proofs.Waits.{waits-add}
use Rattle.run_spec.specs.Outcome.{Out, halt, onto, pieces_from, run_pieces, run_of}
use Rattle.run_spec.proofs.Joined.{cut_list}
use Rattle.run_laws.specs.Laws.{one_then_other, wait_between, seconds_off, room_left, JoinedAs, Laws}

-- ---- power cuts

seconds-add : (stopped : Bool) (s t x : ℕ) → advance stopped t (advance stopped s x) ≡ advance stopped (seconds_off s t) x
unfolding seconds_off
seconds-add true s t x = refl
seconds-add false s t x = omega arith

seconds-fit : (s t : ℕ) → seconds_off s t < 4294967296
unfolding seconds_off
seconds-fit s t = omega arith

-- ---- resets and power cuts

no-ticks : (d : Drives) → with_strobe (drives_ticks 0 (with_strobe d no_strobe)) no_strobe ≡ with_strobe d no_strobe
unfolding drives_ticks drive_ticks strobe_ticks
no-ticks d = refl

-- After a reset and after a power cut no wire of the clock is driven, and LSTRB is off: the second moves no line.
resets-one : (m : Machine) (w : WaitTicks) → one_then_other m (Reset w) (Reset wait_between) ≡ step_of m (Reset w)
unfolding wait_between step_of acted_of item_wait ticks reset_of fresh_via wires_of step_wires between next acts act
resets-one m w =
    let n = (step_of m (Reset w)).machine in
    ap (λ (d : Drives). no_value (with_drives n d))
    (reset-drives n wait_between
    ∙ ap (λ (d : Drives). with_strobe (drives_ticks wait_between.0 d) no_strobe) (reset-drives m w)
    ∙ no-ticks (drives_ticks w.0 m.drives)
    ∙ sym (reset-drives m w))

powered-again : (d : Drives) → with_strobe (drives_powered (drives_ticks 0 (with_strobe (drives_powered d) no_strobe))) no_strobe ≡ with_strobe (drives_powered d) no_strobe
unfolding drives_ticks drive_ticks strobe_ticks drives_powered
powered-again d = refl

power-cuts-one : (m : Machine) (w : WaitTicks) (s t : ℕ) → one_then_other m (Power w s) (Power wait_between t) ≡ step_of m (Power w (seconds_off s t))
unfolding wait_between step_of acted_of item_wait ticks fresh_via wires_of step_wires between next acts act
power-cuts-one m w s t =
    let n = (step_of m (Power w s)).machine in
    let o = (step_of m (Power w (seconds_off s t))).machine in
    ap₂ (λ (d : Drives) (x : ℕ). no_value (with_drives (with_clock o (with_store o.clock (with_seconds o.clock.store x))) d))
    (power-drives n wait_between t
    ∙ ap (λ (d : Drives). with_strobe (drives_powered (drives_ticks wait_between.0 d)) no_strobe) (power-drives m w s)
    ∙ powered-again (drives_ticks w.0 m.drives)
    ∙ sym (power-drives m w (seconds_off s t)))
    (seconds-add (stops m.clock.store.test) s t m.clock.store.seconds)

-- ---- waits

waited-accepted : (a : ℕ) (m : Machine) → accepted_of m ≡ true → accepted_of (after_wait a m) ≡ true
waited-accepted a m h =
    let p = parts m h in
    whole (after_wait a m)
    (record {
      levels = p.levels;
      via = ticks-accepted a m.via p.via;
      phase = ap (λ (w : Wires). accepted_phase m.clock.store.chip m.clock.phase w.enable) (waited-wires a m) ∙ p.phase;
      unused = p.unused;
      drives = ap (λ (w : Watched). accepted_drives w (drives_ticks a m.drives)) (waited-watched a m)
          ∙ drives_ticks-accepted a (strobe_levels m) m.drives p.drives;
    })

-- ---- lists

-- A run of no bytes consumes none.
nothing-consumed : (m : Machine) (room : ℕ) → (run_of m [] room).consumed ≡ 0
unfolding run_of run_pieces pieces_from
nothing-consumed m room = go (accepted_of m)
  where
    go : (t : Bool) → (cond t (halt m None) (halt m (Some NotAccepted))).consumed ≡ 0
    go true = refl
    go false = refl

first-whole : (m : Machine) (a : List ℕ) (room : ℕ) → (run_of m a room).stop ≡ None → (run_of m a room).consumed ≡ length a
unfolding onto
first-whole m a room h =
    let o = run_of m a room in
    ap (λ (l : List ℕ). (run_of m l room).consumed) (sym (append-nil a))
    ∙ ap (λ (x : Out). x.consumed) (cut_list m a [] room h)
    ∙ ap (λ (k : ℕ). length a + k) (nothing-consumed o.machine (room - length o.answers))
    ∙ add-zero (length a)

memory-joined : (a b d : List ℕ) → (a ++ b) ++ drop (length (a ++ b)) d ≡ a ++ (b ++ drop (length b) (drop (length a) d))
memory-joined a b d =
    append_assoc a b (drop (length (a ++ b)) d)
    ∙ ap (λ (n : ℕ). a ++ (b ++ drop n d)) (length-append a b)
    ∙ ap (λ (e : List ℕ). a ++ (b ++ e)) (sym (drop-drop (length b) (length a) d))

-- What `onto` makes of the second part.
pub onto-joined : (first second : Out) → JoinedAs first second (onto first.answers first.consumed second)
unfolding onto
onto-joined first second =
    record {
      machine = refl;
      stop = refl;
      answers = refl;
      consumed = refl;
      written = length-append first.answers second.answers;
      memory = memory-joined first.answers second.answers;
    }

cut-joined : (m : Machine) (a b : List ℕ) (room : ℕ) → (run_of m a room).stop ≡ None
    → JoinedAs (run_of m a room) (run_of (run_of m a room).machine b (room_left room (run_of m a room))) (run_of m (a ++ b) room)
unfolding room_left
cut-joined m a b room h =
    let first = run_of m a room in
    let second = run_of first.machine b (room - length first.answers) in
    subst (JoinedAs first second)
    (ap (λ (n : ℕ). onto first.answers n second) (first-whole m a room h) ∙ sym (cut_list m a b room h))
    (onto-joined first second)

-- ---- together

pub laws : (m : Machine) → Laws m
laws m =
    record {
      waits = λ a b. sym (waits-add a b m);
      wait_accepted = λ a h. waited-accepted a m h;
      resets = resets-one m;
      power_cuts = power-cuts-one m;
      seconds_fit = seconds-fit;
      cut_list = cut-joined m;
      first_whole = first-whole m;
    }
