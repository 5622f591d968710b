-- Whole states, computed.
use mathlib.Core.Path.{refl}
use Rattle.levels.specs.Levels.{all_below}
use Rattle.octets.specs.Octets.{le16_of, le32_of, replace}
use Rattle.via_bits.specs.Bytes.{port_a_flags, enabled_by}
use Rattle.via.specs.Via.{fresh_via, port_level, latch_of, tick_of, ticks, raised_of, asking, level_of, reset_of, accepted_via}
use Rattle.via.specs.Writes.{ports_written, timer1_written, timer2_written, flags_written, via_written}
use Rattle.via.specs.Registers.{flags_byte, value_read, flags_read, register_read}
use Rattle.clock_spec.specs.Patterns.{meant, second_meant}
use Rattle.clock_spec.specs.Store.{unused_clear, fetch, put, act}
use Rattle.clock_spec.specs.Phase.{between, hear, shown_level, more_follows, accepted_phase}
use Rattle.clock.specs.Step.{next, acts, step_wires}
use Rattle.disk_lines.specs.Lines.{lines_off, after_access, with_level, line_levels, lines_of, sense_at, read_line}
use Rattle.disk_spec.specs.Watched.{watched_of, held_still, unspoilt, register_of}
use Rattle.disk_spec.specs.Drive.{neighbour, tick_drive, drive_ticks}
use Rattle.disk_spec.specs.Control.{register_written}
use Rattle.disk_spec.specs.Sense.{is_drive_sense, drive_sense, sense_shown, accepted_drive}
use Rattle.disk_spec.specs.Strobe.{tick_strobe, strobe_ticks, strobe_after, long_enough, strobe_writes, accepted_strobe}
use Rattle.disk_spec.specs.Drives.{drives_ticks, drives_disk_moved, place_refused, drives_powered, drives_after, drives_shown, accepted_drives}
use Rattle.item_spec.specs.Record.{frame_of, answer_bytes}
use Rattle.machine_spec.specs.Machine.{accepted_of}
use Rattle.machine_spec.specs.Accesses.{via_read, iwm_read}
use Rattle.machine_spec.specs.Action.{event_of, acted_of}
use Rattle.machine_spec.specs.Stages.{refuses_of, item_wait}
use Rattle.machine_spec.specs.Step.{step_of, answer_of}
use Rattle.machine_spec.specs.Pins.{wires_of, sel_of}
use Rattle.machine_spec.specs.Wiring.{inputs_of, interrupt_level}
use Rattle.image_spec.specs.Layout.{head_bytes}
use Rattle.image_spec.specs.ViaLayout.{via_bytes}
use Rattle.image_spec.specs.ClockLayout.{phase_bytes, second_byte, tail_bytes, register_bytes}
use Rattle.image_spec.specs.DriveLayout.{drive_bytes, strobe_bytes}
use Rattle.image_spec.specs.Image.{image_of}
use Rattle.run_spec.specs.Turn.{turn_of}
use Rattle.run_spec.specs.Outcome.{cut, pieces_from, onto, on_piece, run_pieces, run_of}
use Rattle.samples.specs.States.{StateSamples, with_cell_bytes}

pub state_samples : StateSamples
unfolding all_below le16_of le32_of replace port_a_flags enabled_by fresh_via port_level latch_of tick_of ticks raised_of asking level_of reset_of accepted_via
    ports_written timer1_written timer2_written flags_written via_written flags_byte value_read flags_read register_read meant second_meant hear unused_clear fetch put act between
    shown_level more_follows accepted_phase next acts step_wires lines_off after_access with_level line_levels lines_of sense_at read_line watched_of held_still unspoilt register_of neighbour
    tick_drive drive_ticks register_written is_drive_sense drive_sense sense_shown accepted_drive tick_strobe strobe_ticks strobe_after long_enough strobe_writes
    accepted_strobe drives_ticks drives_disk_moved place_refused drives_powered drives_after drives_shown accepted_drives frame_of answer_bytes accepted_of
    via_read iwm_read event_of acted_of refuses_of item_wait step_of answer_of wires_of sel_of inputs_of interrupt_level head_bytes via_bytes phase_bytes second_byte tail_bytes register_bytes
    drive_bytes strobe_bytes image_of turn_of cut pieces_from onto on_piece run_pieces run_of with_cell_bytes
state_samples =
    record {
      image = refl;
      fresh = refl;
      reset = refl;
      power = refl;
      phases = refl;
      drives = refl;
      lines = refl;
      accepted = refl;
      bounds = refl;
      seven = refl;
      seven_first = refl;
    }
