-- Writing the VIA's registers 0 to 15, by document 01: for each part of the state, which register changes it and to what.
use Rattle.std.specs.Prelude.{ℕ, ◌+◌, ◌*◌, ◌%◌, cond, not, ◌&&◌, ◌||◌, eqb}
use Rattle.via.specs.Setters.{with_ports, with_t1, with_t2, with_sr, with_acr, with_pcr, with_flags, with_enables, with_pulses}
use Rattle.via.specs.Shift.{pulses_accessed}
use Rattle.via_bits.specs.Bytes.{clear, port_a_flags, enabled_by}
use Rattle.via.specs.declared.Ports.{Ports}
use Rattle.via.specs.declared.Timer1.{Timer1}
use Rattle.via.specs.declared.Timer2.{Timer2}
use Rattle.via.specs.declared.Via.{Via}

-- ---- writing v to register r
-- "Port B is 0, A is 1 and 15, directions B and A are 2 and 3." "Writing a port sets its output bits".
unfoldable pub ports_written : ℕ → ℕ → Ports → Ports
ports_written r v p =
    record {
      outb = cond (eqb r 0) v p.outb;
      outa = cond (eqb r 1 || eqb r 15) v p.outa;
      dirb = cond (eqb r 2) v p.dirb;
      dira = cond (eqb r 3) v p.dira;
    }

-- "4 and 6 set the low latch; 5 sets the high latch, loads the counter from the latches .. and arms; 7 sets the high latch".
-- "A load by register 5 cancels a load still due."
unfoldable pub timer1_written : ℕ → ℕ → Timer1 → Timer1
timer1_written r v t =
    record {
      counter = cond (eqb r 5) (v * 256 + t.low) t.counter;
      low = cond (eqb r 4 || eqb r 6) v t.low;
      high = cond (eqb r 5 || eqb r 7) v t.high;
      armed = eqb r 5 || t.armed;
      due = not (eqb r 5) && t.due;
    }

-- "Write 8 sets the low latch; 9 loads the counter from value and low latch .. arms."
unfoldable pub timer2_written : ℕ → ℕ → Timer2 → Timer2
timer2_written r v t =
    record {
      counter = cond (eqb r 9) (v * 256 + t.low) t.counter;
      low = cond (eqb r 8) v t.low;
      armed = eqb r 9 || t.armed;
    }

-- Register 1 clears port_a_flags; 5 and 7 clear flag 6, 9 flag 5. W-210: "writing register 10 clears flag 2 too". "Writing 13 clears flags where bits 0 to 6
-- are 1." "register 15 clears none".
unfoldable pub flags_written : ℕ → ℕ → Via → ℕ
flags_written r v s =
    cond (eqb r 1) (clear s.flags (port_a_flags s.pcr))
    (cond (eqb r 5 || eqb r 7) (clear s.flags 64)
    (cond (eqb r 9) (clear s.flags 32)
    (cond (eqb r 10) (clear s.flags 4)
    (cond (eqb r 13) (clear s.flags (v % 128))
    s.flags))))

-- "Registers 10 to 12 store."
unfoldable pub via_written : ℕ → ℕ → Via → Via
unfolding ports_written timer1_written timer2_written port_a_flags flags_written enabled_by pulses_accessed
via_written r v s =
    with_pulses
    (with_enables
    (with_flags
    (with_pcr
    (with_acr
    (with_sr
    (with_t2
    (with_t1
    (with_ports s
    (ports_written r v s.ports))
    (timer1_written r v s.t1))
    (timer2_written r v s.t2))
    (cond (eqb r 10) v s.sr))
    (cond (eqb r 11) v s.acr))
    (cond (eqb r 12) v s.pcr))
    (flags_written r v s))
    (cond (eqb r 14) (enabled_by v s.enables) s.enables))
    (pulses_accessed r s.pulses)
