-- The samples of reads, computed.
use mathlib.Core.Path.{refl}
use Rattle.levels.specs.Levels.{all_below}
use Rattle.octets.specs.Octets.{le16_of, le32_of, replace}
use Rattle.item_spec.specs.Record.{frame_of, answer_bytes}
use Rattle.via.specs.Via.{fresh_via, port_level, tick_of, ticks, raised_of, asking, level_of, accepted_via}
use Rattle.via.specs.Writes.{via_written, ports_written}
use Rattle.via.specs.Registers.{register_read}
use Rattle.clock_spec.specs.Patterns.{meant, second_meant}
use Rattle.clock_spec.specs.Store.{unused_clear, fetch, put, act}
use Rattle.clock_spec.specs.Phase.{between, hear, shown_level, accepted_phase}
use Rattle.clock.specs.Step.{next, acts, step_wires}
use Rattle.disk_lines.specs.Lines.{lines_off, with_level, line_levels, lines_of}
use Rattle.disk_spec.specs.Sense.{accepted_drive}
use Rattle.disk_spec.specs.Strobe.{accepted_strobe}
use Rattle.disk_spec.specs.Drives.{accepted_drives}
use Rattle.item_spec.specs.Addresses.{place_from, found_of}
use Rattle.item_spec.specs.Items.{read_record, write_record, plain_record, power_record}
use Rattle.item_spec.specs.Kinds.{is_kind, decoded_of}
use Rattle.machine_spec.specs.Pins.{wires_of, sel_of}
use Rattle.machine_spec.specs.Wiring.{inputs_of, interrupt_level}
use Rattle.machine_spec.specs.Machine.{accepted_of}
use Rattle.machine_spec.specs.Accesses.{via_read}
use Rattle.machine_spec.specs.Action.{event_of, acted_of}
use Rattle.machine_spec.specs.Stages.{item_wait, refuses_of}
use Rattle.machine_spec.specs.Step.{step_of, answer_of}
use Rattle.run_spec.specs.Turn.{turn_of}
use Rattle.run_spec.specs.Outcome.{cut, pieces_from, onto, on_piece, run_pieces, run_of}
use Rattle.history.specs.History.{wires_at, rises, ending_at, protect_at, ending_clear, last, seconds_at}
use Rattle.history.specs.Items.{state_after, history_of}
use Rattle.demand3.specs.Runs.{answered_after}
use Rattle.demand3_reads.specs.Shown.{read_at, sent_at, shown_at}
use Rattle.demand3_reads.specs.Samples.{ReadSamples}

pub read_samples : ReadSamples
unfolding run_of run_pieces on_piece onto pieces_from cut turn_of frame_of le16_of le32_of decoded_of is_kind read_record write_record plain_record power_record found_of place_from answer_bytes
    step_of answer_of item_wait event_of acted_of via_read refuses_of accepted_of accepted_drives accepted_drive accepted_strobe all_below lines_off with_level line_levels lines_of
    accepted_via fresh_via port_level tick_of ticks raised_of asking level_of via_written ports_written register_read wires_of sel_of inputs_of interrupt_level
    accepted_phase unused_clear shown_level step_wires between next acts act put hear meant second_meant fetch replace
    answered_after state_after history_of wires_at rises ending_at protect_at ending_clear last seconds_at read_at sent_at shown_at
read_samples = record {
  cell_read = refl;
  cell_told = refl;
  protected_read = refl;
  seconds_read = refl;
  seconds_told = refl;
  seconds_then = refl;
  cut_read = refl;
  extended_read = refl;
  extended_told = refl;
  first_ignores = refl;
}
