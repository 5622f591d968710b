-- Samples of W-212's laws on either chip, with values that tell a law from its misreadings.
use Rattle.std.specs.Prelude.{ℕ, ◌≡◌, List, [], ◌∷◌, ◌++◌}
use Rattle.refusal.specs.Numbers.{stop_of}
use Rattle.units.specs.Units.{for_ticks}
use Rattle.clock_spec.specs.declared.Chip.{Chip}
use Rattle.clock_spec.specs.Store.{with_seconds, with_test}
use Rattle.clock.specs.Step.{with_store}
use Rattle.item_spec.specs.declared.Item.TheVariants.{WriteVia, WriteIwm, Reset, Power}
use Rattle.machine_spec.specs.declared.Machine.{Machine}
use Rattle.machine_spec.specs.Machine.{with_clock, fresh_machine}
use Rattle.machine_spec.specs.Stages.{after_wait}
use Rattle.machine_spec.specs.Step.{step_of}
use Rattle.run_spec.specs.Outcome.{Out, run_of, ran_of}
use Rattle.run_laws.specs.Laws.{one_then_other, wait_between, seconds_off, room_left}

-- T1 armed with 3 to go, and a strobe on: ENABLE, then LSTRB.
abbrev pub busy : Chip → Machine
busy k =
    let m = (one_then_other (fresh_machine k) (WriteVia (for_ticks 0) 4 3) (WriteVia (for_ticks 0) 5 0)).machine in
    (one_then_other m (WriteIwm (for_ticks 0) 9 0) (WriteIwm (for_ticks 0) 7 0)).machine

-- T1's counter, the VIA's flags, and the VIA ticks of the strobe.
abbrev pub counted : Machine → List ℕ
counted m = m.via.t1.counter ∷ m.via.flags ∷ m.drives.strobe.ticks ∷ []

-- A clock with so many seconds and a test byte.
abbrev pub clocked : Chip → ℕ → ℕ → Machine
clocked k seconds test =
    let m = fresh_machine k in
    with_clock m (with_store m.clock (with_test (with_seconds m.clock.store seconds) test))

abbrev pub seconds_after : Machine → ℕ → ℕ → ℕ
seconds_after m s t = (one_then_other m (Power (for_ticks 0) s) (Power wait_between t)).machine.clock.store.seconds

abbrev pub seconds_after_one : Machine → ℕ → ℕ
seconds_after_one m s = (step_of m (Power (for_ticks 0) s)).machine.clock.store.seconds

-- RS after 1 VIA tick; VB after 2 and RS with none.
abbrev pub part_a : List ℕ
part_a = 4 ∷ 0 ∷ 82 ∷ 83 ∷ 1 ∷ 0 ∷ []

abbrev pub part_b : List ℕ
part_b = 4 ∷ 0 ∷ 86 ∷ 66 ∷ 2 ∷ 0 ∷ 4 ∷ 0 ∷ 82 ∷ 83 ∷ 0 ∷ 0 ∷ []

-- The stop number, the bytes consumed and the bytes written.
abbrev pub ending : Out → List ℕ
ending o = stop_of o.stop ∷ o.consumed ∷ (ran_of o).written ∷ []

-- Part A with room for two answers and 4 bytes more, and part B after it with so much room.
abbrev pub ran_a : Chip → Out
ran_a k = run_of (busy k) part_a 20

abbrev pub ran_b : Chip → ℕ → Out
ran_b k room = run_of (ran_a k).machine part_b room

pub record Samples (k : Chip) : Type 0 where
  -- Waits of 2 and 3 VIA ticks; T1 passes 0 in the second.
  pub wait2 : counted (after_wait 2 (busy k)) ≡ 1 ∷ 0 ∷ 2 ∷ []
  pub wait2then3 : counted (after_wait 3 (after_wait 2 (busy k))) ≡ 65534 ∷ 64 ∷ 5 ∷ []
  pub wait5 : counted (after_wait 5 (busy k)) ≡ 65534 ∷ 64 ∷ 5 ∷ []
  -- A reset after 2 VIA ticks; one more at once; one more a tick later, which is not the same.
  pub reset : counted (step_of (busy k) (Reset (for_ticks 2))).machine ≡ 1 ∷ 0 ∷ 0 ∷ []
  pub reset_twice : counted (one_then_other (busy k) (Reset (for_ticks 2)) (Reset wait_between)).machine ≡ 1 ∷ 0 ∷ 0 ∷ []
  pub reset_apart : counted (one_then_other (busy k) (Reset (for_ticks 2)) (Reset (for_ticks 1))).machine ≡ 0 ∷ 0 ∷ 0 ∷ []
  -- Seconds off.
  pub sum_small : seconds_off 4294967290 5 ≡ 4294967295
  pub sum_wrapped : seconds_off 4294967295 3 ≡ 2
  pub power_cuts : seconds_after (clocked k 4294967290 0) 5 4 ≡ 3
  pub power_cuts_long : seconds_after (clocked k 700 63) 4294967295 3 ≡ 702
  pub power_cut_one : seconds_after_one (clocked k 700 63) (seconds_off 4294967295 3) ≡ 702
  pub stopped : seconds_after (clocked k 700 64) 5 4 ≡ 700
  pub stopped_one : seconds_after_one (clocked k 700 64) (seconds_off 5 4) ≡ 700
  -- The list cut after its first record, and whole: the second part stops with 6 in the room left, and would not in the whole room.
  pub first : ending (ran_a k) ≡ 0 ∷ 6 ∷ 8 ∷ []
  pub left : room_left 20 (ran_a k) ≡ 12
  pub second : ending (ran_b k (room_left 20 (ran_a k))) ≡ 6 ∷ 6 ∷ 8 ∷ []
  pub second_in_all : ending (ran_b k 20) ≡ 0 ∷ 12 ∷ 16 ∷ []
  pub together : ending (run_of (busy k) (part_a ++ part_b) 20) ≡ 6 ∷ 12 ∷ 16 ∷ []
  -- Cut inside a record, the first part stops with 1: the law does not speak of it.
  pub inside_record : ending (run_of (busy k) (4 ∷ 0 ∷ 82 ∷ []) 20) ≡ 1 ∷ 0 ∷ 8 ∷ []
