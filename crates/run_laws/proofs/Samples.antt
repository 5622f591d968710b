-- The samples of W-212 hold on either chip, by computation; and a wait above 65,535 VIA ticks, by the law.
use mathlib.Core.Path.{◌≡◌, refl}
use Rattle.levels.specs.Levels.{all_below}
use Rattle.octets.specs.Octets.{le16_of}
use Rattle.via.specs.Via.{fresh_via, latch_of, tick_of, ticks, raised_of, reset_of, asking, level_of, accepted_via}
use Rattle.via.specs.Writes.{via_written}
use Rattle.clock_spec.specs.Store.{unused_clear, act}
use Rattle.clock_spec.specs.Phase.{between, shown_level, accepted_phase}
use Rattle.clock.specs.Step.{next, acts, step_wires}
use Rattle.clock_spec.specs.declared.Chip.{Chip}
use Rattle.clock_spec.specs.declared.Chip.TheVariants.{First, Later}
use Rattle.disk_lines.specs.Lines.{lines_off, after_access, with_level, line_levels, lines_of}
use Rattle.disk_spec.specs.Drive.{drive_ticks, tick_drive}
use Rattle.disk_spec.specs.Sense.{accepted_drive}
use Rattle.disk_spec.specs.Watched.{watched_of, held_still, unspoilt, register_of}
use Rattle.disk_spec.specs.Strobe.{tick_strobe, strobe_ticks, strobe_after, long_enough, strobe_writes, accepted_strobe}
use Rattle.disk_spec.specs.Drives.{drives_ticks, drives_powered, drives_after, accepted_drives}
use Rattle.item_spec.specs.Record.{frame_of, answer_bytes}
use Rattle.item_spec.specs.Items.{plain_record}
use Rattle.item_spec.specs.Kinds.{is_kind, decoded_of}
use Rattle.machine_spec.specs.declared.Machine.{Machine}
use Rattle.machine_spec.specs.Pins.{wires_of, sel_of}
use Rattle.machine_spec.specs.Wiring.{interrupt_level}
use Rattle.machine_spec.specs.Machine.{accepted_of}
use Rattle.machine_spec.specs.Action.{acted_of}
use Rattle.machine_spec.specs.Stages.{item_wait, refuses_of, after_wait}
use Rattle.machine_spec.specs.Step.{step_of, answer_of}
use Rattle.run_spec.specs.Turn.{turn_of}
use Rattle.run_spec.specs.Outcome.{cut, pieces_from, onto, on_piece, run_pieces, run_of}
use Rattle.run_laws.specs.Laws.{wait_between, seconds_off, room_left}
use Rattle.run_laws.specs.Samples.{Samples}
use Rattle.run_laws.proofs.Proved.{laws}

pub samples : (k : Chip) → Samples k
unfolding wait_between seconds_off room_left step_of answer_of item_wait refuses_of acted_of accepted_of wires_of sel_of interrupt_level fresh_via latch_of tick_of ticks raised_of reset_of asking level_of
    accepted_via via_written unused_clear act between shown_level accepted_phase next acts step_wires lines_off after_access with_level line_levels lines_of drive_ticks tick_drive accepted_drive watched_of
    held_still unspoilt register_of tick_strobe strobe_ticks strobe_after long_enough strobe_writes accepted_strobe drives_ticks drives_powered drives_after accepted_drives all_below
    le16_of frame_of answer_bytes plain_record is_kind decoded_of turn_of cut pieces_from onto on_piece run_pieces run_of
samples First =
    record {
      wait2 = refl;
      wait2then3 = refl;
      wait5 = refl;
      reset = refl;
      reset_twice = refl;
      reset_apart = refl;
      sum_small = refl;
      sum_wrapped = refl;
      power_cuts = refl;
      power_cuts_long = refl;
      power_cut_one = refl;
      stopped = refl;
      stopped_one = refl;
      first = refl;
      left = refl;
      second = refl;
      second_in_all = refl;
      together = refl;
      inside_record = refl;
    }
samples Later =
    record {
      wait2 = refl;
      wait2then3 = refl;
      wait5 = refl;
      reset = refl;
      reset_twice = refl;
      reset_apart = refl;
      sum_small = refl;
      sum_wrapped = refl;
      power_cuts = refl;
      power_cuts_long = refl;
      power_cut_one = refl;
      stopped = refl;
      stopped_one = refl;
      first = refl;
      left = refl;
      second = refl;
      second_in_all = refl;
      together = refl;
      inside_record = refl;
    }

-- A wait that no item can carry, in two that items can.
pub above-65535 : (m : Machine) → after_wait 4465 (after_wait 65535 m) ≡ after_wait 70000 m
above-65535 m = (laws m).waits 65535 4465
