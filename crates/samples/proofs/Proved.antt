-- Samples S1 to S10 and the short runs of the drives hold, by computation.
use mathlib.Core.Path.{refl}
use Rattle.levels.specs.Levels.{all_below}
use Rattle.via.specs.Via.{fresh_via, port_level, latch_of, tick_of, ticks, raised_of, reset_of, asking, level_of, accepted_via}
use Rattle.via.specs.Writes.{via_written}
use Rattle.via.specs.Registers.{register_read}
use Rattle.clock_spec.specs.Patterns.{meant, second_meant}
use Rattle.clock_spec.specs.Store.{unused_clear, fetch, put, act}
use Rattle.clock_spec.specs.Phase.{between, hear, shown_level, accepted_phase}
use Rattle.clock.specs.Step.{next, acts, step_wires}
use Rattle.disk_lines.specs.Lines.{lines_off, with_level, after_access, sense_at, read_line}
use Rattle.disk_spec.specs.Sense as sense
use Rattle.disk_spec.specs.Drive.{neighbour, tick_drive, drive_ticks}
use Rattle.disk_spec.specs.Control.{register_written}
use Rattle.disk_spec.specs.Sense.{is_drive_sense, sense_shown, accepted_drive}
use Rattle.disk_spec.specs.Watched.{held_still, unspoilt, register_of}
use Rattle.disk_spec.specs.Strobe.{tick_strobe, strobe_ticks, strobe_after, long_enough, strobe_writes, accepted_strobe}
use Rattle.disk_spec.specs.Drives.{drives_ticks, drives_disk_moved, place_refused, drives_powered, drives_after, drives_shown, accepted_drives}
use Rattle.machine_spec.specs.Pins.{wires_of, sel_of}
use Rattle.disk_spec.specs.Watched.{watched_of}
use Rattle.machine_spec.specs.Wiring.{inputs_of, interrupt_level}
use Rattle.octets.specs.Octets.{le16_of, le32_of}
use Rattle.item_spec.specs.Record.{frame_of, answer_bytes}
use Rattle.item_spec.specs.Addresses.{place_from, found_of}
use Rattle.item_spec.specs.Items.{write_record, plain_record, power_record}
use Rattle.item_spec.specs.Ranged.{disk_record}
use Rattle.item_spec.specs.Kinds.{is_kind, decoded_of}
use Rattle.item_spec.specs.Items as items
use Rattle.item_spec.specs.Ranged as ranged
use Rattle.machine_spec.specs.Machine.{accepted_of}
use Rattle.machine_spec.specs.Accesses.{via_read, iwm_read}
use Rattle.machine_spec.specs.Action.{acted_of}
use Rattle.machine_spec.specs.Stages.{item_wait, refuses_of}
use Rattle.machine_spec.specs.Step.{step_of, answer_of}
use Rattle.run_spec.specs.Turn.{turn_of}
use Rattle.run_spec.specs.Outcome.{cut, pieces_from, onto, on_piece, run_pieces, run_of}
use Rattle.samples.specs.Lists.{sent}
use Rattle.samples.specs.Samples.{Samples, values}
use Rattle.samples.specs.Drives.{DriveSamples}

pub samples : Samples
unfolding all_below fresh_via port_level latch_of tick_of ticks raised_of asking level_of accepted_via via_written register_read meant second_meant hear unused_clear between fetch next acts put act
    step_wires shown_level accepted_phase lines_off wires_of sel_of inputs_of interrupt_level le16_of le32_of frame_of answer_bytes is_kind place_from found_of write_record plain_record
    decoded_of items.read_record accepted_of accepted_drives accepted_drive accepted_strobe item_wait via_read acted_of step_of refuses_of answer_of cut pieces_from turn_of onto on_piece run_pieces run_of sent values
samples =
    record {
      S1 = refl;
      S2 = refl;
      S3 = refl;
      S4 = refl;
      S5 = refl;
      S6 = refl;
      S7 = refl;
      S7-protected = refl;
      S8 = refl;
      S9-B5 = refl;
      S9-B1 = refl;
      S10 = refl;
      W206-rise24 = refl;
      W206-rise23 = refl;
      W206-cell0 = refl;
      W206-cell0-short = refl;
      W206-read = refl;
      W206-other-form = refl;
      W206-first-chip = refl;
      W206-cell16 = refl;
      W206-cell16-first = refl;
    }

pub drive_samples : DriveSamples
unfolding all_below fresh_via tick_of ticks reset_of asking level_of accepted_via via_written unused_clear between step_wires next acts act shown_level accepted_phase lines_off with_level after_access
    sense_at read_line wires_of sel_of watched_of le16_of le32_of frame_of answer_bytes is_kind place_from found_of write_record plain_record power_record disk_record decoded_of items.read_record ranged.is_retired ranged.sense_record
    register_written neighbour tick_drive drive_ticks is_drive_sense sense.drive_sense sense_shown accepted_drive tick_strobe strobe_ticks held_still unspoilt strobe_after register_of
    long_enough strobe_writes accepted_strobe drives_ticks drives_disk_moved place_refused drives_powered drives_after drives_shown accepted_drives
    accepted_of item_wait iwm_read acted_of step_of refuses_of answer_of cut pieces_from turn_of onto on_piece run_pieces run_of values
drive_samples =
    record {
      refusals = refl;
      step = refl;
      short = refl;
      spoilt = refl;
      no_disk = refl;
      motor = refl;
      over_reset = refl;
      over_power = refl;
    }
