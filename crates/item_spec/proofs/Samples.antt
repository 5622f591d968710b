-- The samples of records and answers, computed.
use mathlib.Core.Path.{refl}
use Rattle.octets.specs.Octets.{le16_of, le32_of}
use Rattle.item_spec.specs.Addresses.{place_from, found_of}
use Rattle.item_spec.specs.Record.{frame_of, answer_bytes}
use Rattle.item_spec.specs.Items.{plain_record, read_record, write_record, power_record}
use Rattle.item_spec.specs.Ranged.{line_record, is_retired, sense_record, disk_record, pulse_record}
use Rattle.item_spec.specs.Many.{counted_record, many_record}
use Rattle.item_spec.specs.Kinds.{is_kind, decoded_of}
use Rattle.item_spec.specs.Samples.{Samples}

pub samples : Samples
unfolding le16_of le32_of is_kind place_from found_of plain_record read_record write_record line_record is_retired sense_record power_record disk_record pulse_record counted_record many_record decoded_of frame_of answer_bytes
samples =
    record {
      s2 = refl;
      s4 = refl;
      read_via = refl;
      read_iwm = refl;
      write_via = refl;
      write_iwm = refl;
      blank = refl;
      second = refl;
      reset = refl;
      line = refl;
      sense = refl;
      power = refl;
      insert = refl;
      remove = refl;
      many_via = refl;
      many_iwm = refl;
      singles_via = refl;
      singles_iwm = refl;
      pulse = refl;
      kinds = refl;
      reads = refl;
      writes = refl;
      blanks = refl;
      seconds = refl;
      resets = refl;
      lines = refl;
      senses = refl;
      powers = refl;
      disks = refl;
      pulses = refl;
      addresses = refl;
      line_range = refl;
      sense_range = refl;
      retired = refl;
      disk_range = refl;
      many_short = refl;
      many_count = refl;
      many_length = refl;
      pulse_range = refl;
      whole = refl;
      least = refl;
      low = refl;
      short = refl;
      high = refl;
      stray = refl;
      answer = refl;
      refusal = refl;
    }
