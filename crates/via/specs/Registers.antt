-- Reading the VIA's registers 0 to 15, by document 01 and W-210: the value, the flags that the read clears, and the count that it starts anew.
use Rattle.std.specs.Prelude.{ℕ, ◌+◌, ◌/◌, ◌%◌, cond, eqb}
use Rattle.via.specs.Setters.{with_flags, with_pulses}
use Rattle.via.specs.Shift.{pulses_accessed}
use Rattle.via_bits.specs.Bytes.{clear, port_a_flags}
use Rattle.via.specs.Via.{port_level, asking}
use Rattle.via.specs.declared.Via.{Via}
use Rattle.via.specs.declared.Inputs.{Inputs}
use Rattle.via.specs.declared.Access.{Access}

-- ---- reading register r with these levels on the input lines
-- "Reading 13 gives the flags, bit 7 set when an enabled flag is set."
unfoldable pub flags_byte : Via → ℕ
flags_byte s = cond (asking s) (s.flags % 128 + 128) (s.flags % 128)

-- Reading a port "gives the levels; directions read as written". T1: "4 and 5 the counter, 6 and 7 the latches". T2: "8 is the
-- low counter .. 9 is the high counter". "Reading 14 gives the enables with bit 7 as 1."
unfoldable pub value_read : ℕ → Inputs → Via → ℕ
unfolding port_level asking flags_byte
value_read r i s =
    cond (eqb r 0) (port_level s.ports.outb s.ports.dirb i.b)
    (cond (eqb r 1) (port_level s.ports.outa s.ports.dira i.a)
    (cond (eqb r 2) s.ports.dirb
    (cond (eqb r 3) s.ports.dira
    (cond (eqb r 4) (s.t1.counter % 256)
    (cond (eqb r 5) (s.t1.counter / 256)
    (cond (eqb r 6) s.t1.low
    (cond (eqb r 7) s.t1.high
    (cond (eqb r 8) (s.t2.counter % 256)
    (cond (eqb r 9) (s.t2.counter / 256)
    (cond (eqb r 10) s.sr
    (cond (eqb r 11) s.acr
    (cond (eqb r 12) s.pcr
    (cond (eqb r 13) (flags_byte s)
    (cond (eqb r 14) (s.enables % 128 + 128)
    (port_level s.ports.outa s.ports.dira i.a)))))))))))))))

-- Register 1 as above; "reading 4 clears flag 6 after the value is taken"; "Read 8 .. clears flag 5"; W-210: "reading .. register 10 clears flag 2 too".
unfoldable pub flags_read : ℕ → Via → ℕ
unfolding port_a_flags
flags_read r s =
    cond (eqb r 1) (clear s.flags (port_a_flags s.pcr))
    (cond (eqb r 4) (clear s.flags 64)
    (cond (eqb r 8) (clear s.flags 32)
    (cond (eqb r 10) (clear s.flags 4)
    s.flags)))

unfoldable pub register_read : ℕ → Inputs → Via → Access
unfolding value_read flags_read pulses_accessed
register_read r i s = record { via = with_pulses (with_flags s (flags_read r s)) (pulses_accessed r s.pulses); value = value_read r i s }
