-- The VIA's registers, computed.
use mathlib.Core.Path.{refl}
use Rattle.via_bits.specs.Bytes.{port_a_flags, enabled_by}
use Rattle.via.specs.Via.{fresh_via, port_level, latch_of, tick_of, ticks, raised_of, asking, level_of, reset_of, accepted_via}
use Rattle.via.specs.Writes.{ports_written, timer1_written, timer2_written, flags_written, via_written}
use Rattle.via.specs.Registers.{flags_byte, value_read, flags_read, register_read}
use Rattle.samples.specs.Registers.{RegisterSamples}

pub register_samples : RegisterSamples
unfolding port_a_flags enabled_by fresh_via port_level latch_of tick_of ticks raised_of asking level_of reset_of accepted_via ports_written timer1_written timer2_written
    flags_written via_written flags_byte value_read flags_read register_read
register_samples =
    record {
      reads = refl;
      flags = refl;
      flags_other = refl;
      pulses = refl;
      rest = refl;
      port_a = refl;
      writes = refl;
      writes_other = refl;
      reset = refl;
      reset_other = refl;
      fresh = refl;
      one_shot = refl;
      free_run = refl;
      still = refl;
      unarmed = refl;
    }
