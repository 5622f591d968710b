-- The runs of the shift register, computed.
use mathlib.Core.Path.{refl}
use Rattle.levels.specs.Levels.{all_below}
use Rattle.via.specs.Via.{fresh_via, port_level, latch_of, tick_of, ticks, raised_of, reset_of, asking, level_of, accepted_via}
use Rattle.via.specs.Writes.{via_written}
use Rattle.via.specs.Registers.{register_read}
use Rattle.via.specs.Shift.{pulse_of}
use Rattle.clock_spec.specs.Patterns.{meant, second_meant}
use Rattle.clock_spec.specs.Store.{unused_clear, fetch, put, act}
use Rattle.clock_spec.specs.Phase.{between, hear, shown_level, accepted_phase}
use Rattle.clock.specs.Step.{next, acts, step_wires}
use Rattle.disk_lines.specs.Lines.{lines_off, with_level, after_access, sense_at, read_line}
use Rattle.disk_spec.specs.Sense as sense
use Rattle.disk_spec.specs.Drive.{neighbour, tick_drive, drive_ticks}
use Rattle.disk_spec.specs.Control.{register_written}
use Rattle.disk_spec.specs.Sense.{is_drive_sense, sense_shown, accepted_drive}
use Rattle.disk_spec.specs.Watched.{held_still, unspoilt, register_of}
use Rattle.disk_spec.specs.Strobe.{tick_strobe, strobe_ticks, strobe_after, long_enough, strobe_writes, accepted_strobe}
use Rattle.disk_spec.specs.Drives.{drives_ticks, drives_disk_moved, place_refused, drives_powered, drives_after, drives_shown, accepted_drives}
use Rattle.machine_spec.specs.Pins.{wires_of, sel_of}
use Rattle.disk_spec.specs.Watched.{watched_of}
use Rattle.machine_spec.specs.Wiring.{inputs_of, interrupt_level}
use Rattle.octets.specs.Octets.{le16_of, le32_of}
use Rattle.item_spec.specs.Record.{frame_of, answer_bytes}
use Rattle.item_spec.specs.Addresses.{place_from, found_of}
use Rattle.item_spec.specs.Items.{write_record, plain_record, power_record}
use Rattle.item_spec.specs.Ranged.{disk_record}
use Rattle.item_spec.specs.Kinds.{is_kind, decoded_of}
use Rattle.item_spec.specs.Items as items
use Rattle.item_spec.specs.Ranged as ranged
use Rattle.machine_spec.specs.Machine.{accepted_of}
use Rattle.machine_spec.specs.Accesses.{via_read, iwm_read, keyboard_pulse}
use Rattle.machine_spec.specs.Action.{acted_of}
use Rattle.machine_spec.specs.Stages.{item_wait, refuses_of}
use Rattle.machine_spec.specs.Step.{step_of, answer_of}
use Rattle.run_spec.specs.Turn.{turn_of}
use Rattle.run_spec.specs.Outcome.{cut, pieces_from, onto, on_piece, run_pieces, run_of}
use Rattle.samples.specs.Lists.{sent}
use Rattle.samples.specs.Samples.{values}
use Rattle.samples.specs.Keyboard.{pulses_of, levels, KeyboardSamples}

pub keyboard_samples : KeyboardSamples
unfolding all_below fresh_via port_level latch_of tick_of ticks raised_of asking level_of accepted_via via_written register_read meant second_meant hear unused_clear between fetch next acts put act
    step_wires shown_level accepted_phase lines_off wires_of sel_of inputs_of interrupt_level le16_of le32_of frame_of answer_bytes is_kind place_from found_of write_record plain_record
    decoded_of items.read_record accepted_of accepted_drives accepted_drive accepted_strobe item_wait via_read acted_of step_of refuses_of answer_of cut pieces_from turn_of onto on_piece run_pieces run_of sent values power_record reset_of drives_powered ranged.pulse_record keyboard_pulse pulse_of pulses_of levels
keyboard_samples =
    record {
      byte_in = refl;
      level = refl;
      byte_out = refl;
      other_mode = refl;
      refused = refl;
      refused_in = refl;
      after_read = refl;
      after_write = refl;
      after_reset = refl;
      after_power = refl;
      after_clear = refl;
      after_mode = refl;
      wait = refl;
      quiet = refl;
    }
