-- For each of the five kinds of entry two lists that differ in it alone, from the fresh machine with either chip, and end with different clocks. And lists
-- with other waits and other items, whose sequences are the same.
use Prim.Native.Nat.{ℕ, ◌+◌}
use mathlib.Core.Path.{◌≡◌, refl}
use mathlib.Core.List.{List, [], ◌∷◌, ◌++◌}
use lib.ListN.{get_or}
use Rattle.levels.specs.Levels.{all_below}
use Rattle.octets.specs.Octets.{le16_of, le32_of, replace}
use Rattle.via.specs.Via.{fresh_via, latch_of, tick_of, ticks, raised_of, reset_of, accepted_via}
use Rattle.via.specs.Registers.{register_read}
use Rattle.via.specs.Shift.{pulse_of}
use Rattle.via.specs.Writes.{via_written, ports_written}
use Rattle.clock_spec.specs.Patterns.{meant, second_meant}
use Rattle.clock_spec.specs.Store.{unused_clear, fetch, put, act}
use Rattle.clock_spec.specs.Phase.{between, hear, shown_level, accepted_phase}
use Rattle.clock_spec.specs.declared.Chip.{Chip}
use Rattle.clock_spec.specs.declared.Chip.TheVariants.{First, Later}
use Rattle.clock_spec.specs.declared.Phase.{Phase}
use Rattle.clock_spec.specs.declared.Phase.TheVariants.{Idle, Listening}
use Rattle.clock_spec.specs.declared.Bytes.TheVariants.{Nothing}
use Rattle.clock.specs.Step.{next, acts, step_wires}
use Rattle.disk_lines.specs.Lines.{lines_off, after_access}
use Rattle.disk_spec.specs.Sense.{accepted_drive}
use Rattle.disk_spec.specs.Strobe.{accepted_strobe}
use Rattle.disk_spec.specs.Drives.{accepted_drives}
use Rattle.item_spec.specs.Record.{frame_of}
use Rattle.item_spec.specs.Addresses.{place_from, found_of}
use Rattle.item_spec.specs.Items.{read_record, write_record, plain_record, power_record}
use Rattle.item_spec.specs.Ranged.{line_record, pulse_record}
use Rattle.item_spec.specs.Many.{counted_record, many_record}
use Rattle.item_spec.specs.Kinds.{is_kind, decoded_of}
use Rattle.machine_spec.specs.Pins.{wires_of}
use Rattle.machine_spec.specs.Machine.{accepted_of, fresh_machine}
use Rattle.machine_spec.specs.Accesses.{via_read, iwm_read, keyboard_pulse}
use Rattle.machine_spec.specs.Action.{acted_of}
use Rattle.machine_spec.specs.Stages.{item_wait, refuses_of}
use Rattle.machine_spec.specs.Step.{step_of}
use Rattle.run_spec.specs.Turn.{turn_of}
use Rattle.run_spec.specs.Outcome.{cut, pieces_from, onto, on_piece, run_pieces, run_of}
use Rattle.history.specs.Items.{state_after}
use Rattle.demand3.specs.Runs.{answered_after}
use Rattle.samples.specs.Lists.{rd, wr, access, location, mw_to, mw, rs, se, kc, begin, select, sent, byte}
use Rattle.demand3_touches.specs.Touches.{Touch, port_b, direction_b, reset, tick, power_cut, touches_of, touches_of_items, touches_of_pieces, touches}

-- ---- lists

-- SE and RS after a wait in VIA ticks; PW after a wait in VIA ticks, with so many seconds off.
abbrev se_after : ℕ → List ℕ
se_after w = 4 ∷ 0 ∷ 83 ∷ 69 ∷ w ∷ 0 ∷ []

abbrev rs_after : ℕ → List ℕ
rs_after w = 4 ∷ 0 ∷ 82 ∷ 83 ∷ w ∷ 0 ∷ []

abbrev pub power : ℕ → ℕ → List ℕ
power w s = 8 ∷ 0 ∷ 80 ∷ 87 ∷ w ∷ 0 ∷ s ∷ 0 ∷ 0 ∷ 0 ∷ []

-- VB after a wait in VIA ticks; IN line 2 to 0; a record of a kind that there is not.
abbrev blank : ℕ → List ℕ
blank w = 4 ∷ 0 ∷ 86 ∷ 66 ∷ w ∷ 0 ∷ []

abbrev line : List ℕ
line = 6 ∷ 0 ∷ 73 ∷ 78 ∷ 0 ∷ 0 ∷ 2 ∷ 0 ∷ []

abbrev unknown : List ℕ
unknown = 2 ∷ 0 ∷ 88 ∷ 88 ∷ []

-- A write to cell 0 ($41), seven of its data bits and the low data-clock of the eighth.
abbrev pub almost : List ℕ
almost = begin ++ select ++ byte 0x41 ++ sent 7 8 0 ++ wr 0 0 0

-- The eighth bit.
abbrev pub rise : ℕ → List ℕ
rise b = wr 0 0 (2 + b)

-- ---- cell 0, the seconds, the phase and the sequence after a list from the fresh machine, with 1,000 bytes of room

abbrev pub cell : Chip → List ℕ → ℕ
cell k l = get_or (run_of (fresh_machine k) l 1000).machine.clock.store.cells 0 0

abbrev pub seconds : Chip → List ℕ → ℕ
seconds k l = (run_of (fresh_machine k) l 1000).machine.clock.store.seconds

abbrev phase : Chip → List ℕ → Phase
phase k l = (run_of (fresh_machine k) l 1000).machine.clock.phase

abbrev pub sequence : Chip → List ℕ → List Touch
sequence k l = touches (fresh_machine k) l 1000

-- ---- the facts

pub record Examples (k : Chip) : Type 0 where
  -- WR to register 0: its value is the bit. And with no such write at all.
  pub of_port_b : (cell k (almost ++ rise 1) ≡ 1) × (cell k (almost ++ rise 0) ≡ 0) × (cell k almost ≡ 0)
  -- WR to register 2: data-clock no longer driven is a rise; data driven is 0, undriven 1. And with none.
  pub of_direction_b : (cell k (almost ++ wr 0 2 4) ≡ 1) × (cell k (almost ++ wr 0 2 5) ≡ 0) × (phase k (wr 0 2 4) ≡ Listening Nothing 0 0) × (phase k [] ≡ Idle)
  -- RS ends the transaction.
  pub of_reset : (cell k (almost ++ rise 1) ≡ 1) × (cell k (almost ++ rs ++ rise 1) ≡ 0)
  pub of_tick : (seconds k se ≡ 1) × (seconds k [] ≡ 0)
  -- PW adds its seconds off, and ends the transaction.
  pub of_power_cut : (seconds k (power 0 1) ≡ 1) × (seconds k (power 0 0) ≡ 0) × (seconds k (power 0 5) ≡ 5) × (cell k (almost ++ power 0 0 ++ rise 1) ≡ 0)
  -- All five in one list, the newest first.
  pub all_five : sequence k (wr 0 2 4 ++ wr 0 0 6 ++ rs ++ se ++ power 0 5) ≡ power_cut 5 ∷ tick ∷ reset ∷ port_b 6 ∷ direction_b 4 ∷ []
  -- With waits of 1 to 3 VIA ticks the sequence is the same.
  pub waits : sequence k (wr 3 2 4 ++ wr 1 0 6 ++ rs_after 2 ++ se_after 3 ++ power 1 5) ≡ power_cut 5 ∷ tick ∷ reset ∷ port_b 6 ∷ direction_b 4 ∷ []
  -- Reads, VB, IN, KC, accesses of the IWM, writes to other registers and refused records leave it as it is.
  pub others : sequence k (rd 3 0 ++ blank 2 ++ se_after 1 ++ line ++ access 1 3 ++ wr 0 11 12 ++ kc 1 1 ++ wr 2 1 7 ++ wr 2 3 7 ++ unknown ++ wr 3 0 3) ≡ port_b 3 ∷ tick ∷ []
  -- W-211: an MW counts as its single writes, to registers 0 and 2 and to no other.
  pub many : sequence k (mw 3 2 (4 ∷ 7 ∷ []) ++ mw 1 3 (9 ∷ 8 ∷ []) ++ mw_to 0 (location 9) (1 ∷ []) ++ mw 0 0 (6 ∷ 2 ∷ 6 ∷ [])) ≡ port_b 6 ∷ port_b 2 ∷ port_b 6 ∷ direction_b 7 ∷ direction_b 4 ∷ []
  pub single : sequence k (wr 0 2 4 ++ wr 3 2 7 ++ wr 0 0 6 ++ wr 0 0 2 ++ wr 0 0 6) ≡ port_b 6 ∷ port_b 2 ∷ port_b 6 ∷ direction_b 7 ∷ direction_b 4 ∷ []
  -- No room for the second answer: the second item is not carried out.
  pub no_room : touches (fresh_machine k) (se ++ se) 15 ≡ tick ∷ []

pub examples : (k : Chip) → Examples k
unfolding all_below le16_of le32_of replace fresh_via latch_of tick_of ticks raised_of reset_of accepted_via register_read pulse_of via_written ports_written meant second_meant unused_clear fetch put act
    between hear shown_level accepted_phase next acts step_wires lines_off after_access accepted_drive accepted_strobe accepted_drives frame_of place_from found_of read_record write_record
    plain_record power_record line_record pulse_record counted_record many_record is_kind decoded_of wires_of accepted_of via_read iwm_read keyboard_pulse acted_of item_wait refuses_of step_of turn_of cut pieces_from onto on_piece run_pieces run_of
    state_after answered_after sent touches_of touches_of_items touches_of_pieces
examples First =
    record {
      of_port_b = (refl, refl, refl);
      of_direction_b = (refl, refl, refl, refl);
      of_reset = (refl, refl);
      of_tick = (refl, refl);
      of_power_cut = (refl, refl, refl, refl);
      all_five = refl;
      waits = refl;
      others = refl;
      many = refl;
      single = refl;
      no_room = refl;
    }
examples Later =
    record {
      of_port_b = (refl, refl, refl);
      of_direction_b = (refl, refl, refl, refl);
      of_reset = (refl, refl);
      of_tick = (refl, refl);
      of_power_cut = (refl, refl, refl, refl);
      all_five = refl;
      waits = refl;
      others = refl;
      many = refl;
      single = refl;
      no_room = refl;
    }
