-- Runs from the fresh machine, computed: what the run hands back, and what the history of its list says, side by side.
use mathlib.Core.Path.{◌≡◌, refl}
use mathlib.Core.List.{List, [], ◌∷◌, ◌++◌}
use Prim.Native.Nat.{ℕ, zero, suc, ◌+◌, ◌-◌, ◌*◌, ◌/◌, ◌%◌, ◌^◌}
use lib.ListN.{length, get_or}
use Rattle.levels.specs.Levels.{all_below}
use Rattle.octets.specs.Octets.{le16_of, le32_of}
use Rattle.item_spec.specs.Record.{frame_of}
use Rattle.via.specs.Via.{fresh_via, ticks, accepted_via}
use Rattle.via.specs.Writes.{via_written, ports_written}
use Rattle.clock_spec.specs.Patterns.{meant, second_meant}
use Rattle.octets.specs.Octets.{replace}
use Rattle.clock_spec.specs.Store.{unused_clear, fetch, put, act}
use Rattle.clock_spec.specs.Phase.{between, hear, shown_level, accepted_phase}
use Rattle.clock.specs.Step.{next, acts, step_wires}
use Rattle.clock_spec.specs.declared.Chip.{Chip}
use Rattle.clock_spec.specs.declared.Chip.TheVariants.{First, Later}
use Rattle.clock_spec.specs.declared.Target.TheVariants.{Cell}
use Rattle.disk_lines.specs.Lines.{lines_off}
use Rattle.disk_spec.specs.Sense.{accepted_drive}
use Rattle.disk_spec.specs.Strobe.{accepted_strobe}
use Rattle.disk_spec.specs.Drives.{accepted_drives}
use Rattle.item_spec.specs.Addresses.{place_from, found_of}
use Rattle.item_spec.specs.Items.{write_record, power_record}
use Rattle.item_spec.specs.Many.{counted_record, many_record}
use Rattle.item_spec.specs.Kinds.{is_kind, decoded_of}
use Rattle.machine_spec.specs.declared.Machine.{Machine}
use Rattle.machine_spec.specs.Pins.{wires_of}
use Rattle.machine_spec.specs.Machine.{accepted_of, fresh_machine}
use Rattle.machine_spec.specs.Action.{event_of, acted_of}
use Rattle.machine_spec.specs.Stages.{item_wait, refuses_of}
use Rattle.machine_spec.specs.Step.{step_of}
use Rattle.run_spec.specs.Turn.{turn_of}
use Rattle.run_spec.specs.Outcome.{cut, pieces_from, onto, on_piece, run_pieces, run_of}
use Rattle.history.specs.History.{History, wires_at, rises, ending_at, protect_at, ending_clear, last, seconds_at}
use Rattle.history.specs.Start.{fresh_start}
use Rattle.history.specs.Items.{state_after, history_of}
use Rattle.demand3.specs.Runs.{entries_of_items, answered_after, answered_pieces, history_of_pieces}

-- WR of v to register 2, direction B, with no wait.
abbrev direct : ℕ → List ℕ
direct v = 9 ∷ 0 ∷ 87 ∷ 82 ∷ 0 ∷ 0 ∷ 0xFE ∷ 0xE5 ∷ 0xEF ∷ 0 ∷ v ∷ []

-- PW with 5 seconds off; a record of a kind that there is not.
abbrev off5 : List ℕ
off5 = 8 ∷ 0 ∷ 80 ∷ 87 ∷ 0 ∷ 0 ∷ 5 ∷ 0 ∷ 0 ∷ 0 ∷ []

abbrev unknown : List ℕ
unknown = 2 ∷ 0 ∷ 88 ∷ 88 ∷ []

-- Output bits stay 0: a line is 0 while it is driven, and 1 while it is not. Enable goes down, and up.
abbrev down : List ℕ
down = direct 7

abbrev up : List ℕ
up = direct 0

-- A bit: data-clock driven, then not, with data driven for a 0; then a refused record, which changes no wire.
abbrev edge : ℕ → List ℕ
edge b = direct (4 + 2 + (1 - b)) ++ direct (4 + (1 - b)) ++ unknown

-- The lowest n bits of a byte, high-order first.
abbrev bits : ℕ → ℕ → List ℕ
bits zero b = []
bits (suc n) b = edge (b / 2 ^ n % 2) ++ bits n b

-- A command and a byte to it; the high n bits of the byte only.
abbrev send : ℕ → ℕ → List ℕ
send c b = down ++ bits 8 c ++ bits 8 b ++ up

abbrev part : ℕ → ℕ → ℕ → List ℕ
part n c b = down ++ bits 8 c ++ bits n (b / 2 ^ (8 - n)) ++ up

-- $41 and the high half of $AA, a power cut, and the low half.
abbrev cut_short : List ℕ
cut_short = down ++ bits 8 0x41 ++ bits 4 0xA ++ off5 ++ down ++ bits 4 0xA ++ up

-- With room for 200 answers, and with so many bytes.
abbrev plenty : ℕ
plenty = 1600

abbrev ran : Chip → List ℕ → ℕ → Machine
ran k l room = (run_of (fresh_machine k) l room).machine

abbrev told : Chip → List ℕ → ℕ → History
told k l room = history_of_pieces (fresh_machine k) (answered_pieces l room)

abbrev Cell-is : Chip → ℕ → List ℕ → ℕ → ℕ → Type 0
Cell-is k i l room b = (get_or (ran k l room).clock.store.cells i 0 ≡ b) × (last (fresh_start k) (Cell i) 0 (told k l room) ≡ b)

abbrev Cell-0-is : List ℕ → ℕ → ℕ → Type 0
Cell-0-is l room b = Cell-is First 0 l room b

-- Two command bytes, and the high n bits of a byte to them.
abbrev long : ℕ → ℕ → ℕ → ℕ → List ℕ
long n c d b = down ++ bits 8 c ++ bits 8 d ++ bits n (b / 2 ^ (8 - n)) ++ up

-- The same transaction as the values of one MW to register 2, 34 of them.
abbrev edges : ℕ → ℕ → List ℕ
edges zero b = []
edges (suc n) b = (4 + 2 + (1 - b / 2 ^ n % 2)) ∷ (4 + (1 - b / 2 ^ n % 2)) ∷ edges n b

abbrev many : List ℕ → List ℕ
many vs = (9 + length vs) ∷ 0 ∷ 77 ∷ 87 ∷ 0 ∷ 0 ∷ 0xFE ∷ 0xE5 ∷ 0xEF ∷ 0 ∷ length vs ∷ vs

abbrev send_many : ℕ → ℕ → List ℕ
send_many c b = many (7 ∷ (edges 8 c ++ edges 8 b ++ (0 ∷ [])))

-- Every edge is made by the direction register. The sixteenth rise of `send` is its 48th record.
pub record RunExamples : Type 0 where
  pub write : Cell-0-is (send 0x41 0xAA) plenty 0xAA
  pub fifteen_rises : Cell-0-is (part 7 0x41 0xAA) plenty 0
  pub under_protect : Cell-0-is (send 0x35 0x80 ++ send 0x41 0xAA) plenty 0
  pub cleared_again : Cell-0-is (send 0x35 0x80 ++ send 0x35 0x7F ++ send 0x41 0xAA) plenty 0xAA
  pub half_sent : Cell-0-is (send 0x41 0xAA ++ part 4 0x41 0x55) plenty 0xAA
  pub power_cut : Cell-0-is cut_short plenty 0
  pub power_cut_seconds : ((ran First cut_short plenty).clock.store.seconds ≡ 5) × (seconds_at (fresh_start First) (told First cut_short plenty) ≡ 5)
  pub room_for_the_rise : Cell-0-is (send 0x41 0xAA) (8 * 48) 0xAA
  pub no_room_for_it : Cell-0-is (send 0x41 0xAA) (8 * 48 - 1) 0
  -- W-206: at the 24th rise and not at the 23rd.
  pub rise24 : Cell-is Later 0xFF (long 8 0x3F 0x7C 0xAA) plenty 0xAA
  pub rise23 : Cell-is Later 0xFF (long 7 0x3F 0x7C 0xAA) plenty 0
  -- W-211: a write whole within one MW, its 34 entries in one record; under protect, set within one; cleared again within one.
  pub many_write : Cell-0-is (send_many 0x41 0xA6) 8 0xA6
  pub many_protected : Cell-0-is (send_many 0x35 0x80 ++ send_many 0x41 0xA6) plenty 0
  pub many_cleared : Cell-0-is (send_many 0x35 0x80 ++ send_many 0x35 0x7F ++ send_many 0x41 0xA6) plenty 0xA6
  pub many_entries : length (told First (send_many 0x41 0xA6 ++ off5) plenty) ≡ 35

pub run_examples : RunExamples
unfolding run_of run_pieces on_piece onto pieces_from cut turn_of frame_of le16_of le32_of decoded_of is_kind write_record power_record counted_record many_record found_of place_from
    step_of item_wait event_of acted_of refuses_of accepted_of accepted_drives accepted_drive accepted_strobe all_below lines_off accepted_via fresh_via ticks via_written ports_written wires_of
    accepted_phase shown_level step_wires between next acts hear act put meant second_meant unused_clear fetch replace
    entries_of_items answered_after state_after history_of wires_at rises ending_at protect_at ending_clear last seconds_at
run_examples = record {
  write = (refl, refl);
  fifteen_rises = (refl, refl);
  under_protect = (refl, refl);
  cleared_again = (refl, refl);
  half_sent = (refl, refl);
  power_cut = (refl, refl);
  power_cut_seconds = (refl, refl);
  room_for_the_rise = (refl, refl);
  no_room_for_it = (refl, refl);
  rise24 = (refl, refl);
  rise23 = (refl, refl);
  many_write = (refl, refl);
  many_protected = (refl, refl);
  many_cleared = (refl, refl);
  many_entries = refl;
}
