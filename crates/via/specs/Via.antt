-- The VIA by document 01: fresh, its ports, its timers tick by tick, its flags and its level, reset.
use Rattle.std.specs.Prelude.{ℕ, zero, suc, ◌+◌, ◌*◌, Bool, false, cond, not, ◌&&◌, eqb, leb, ltb}
use Rattle.std.specs.Int.Bits.{bit_and, bit_or}
use Rattle.via_bits.specs.Bytes.{bit, clear}
use Rattle.via_timer.specs.Timer.{at, step}
use Rattle.via_timer.specs.declared.Counter.{Counter}
use Rattle.via.specs.declared.Timer1.{Timer1}
use Rattle.via.specs.declared.Timer2.{Timer2}
use Rattle.via.specs.declared.Via.{Via}
use Rattle.via.specs.Setters.{with_counter1, with_armed1, with_due1, with_counter2, with_armed2, with_t1, with_t2, with_sr, with_flags}

-- "Fresh: all zero, timers disarmed, no load due". "PW makes all fresh".
unfoldable pub fresh_via : Via
fresh_via =
    record {
      ports = record { outb = 0; outa = 0; dirb = 0; dira = 0 };
      t1 = record { counter = 0; low = 0; high = 0; armed = false; due = false };
      t2 = record { counter = 0; low = 0; armed = false };
      sr = 0;
      acr = 0;
      pcr = 0;
      flags = 0;
      enables = 0;
      pulses = 0;
    }

-- ---- ports
-- "A port bit's level is the output bit where its direction is 1. Otherwise it is the input".
unfoldable pub port_level : ℕ → ℕ → ℕ → ℕ
port_level out dir input = bit_or (bit_and out dir) (clear input dir)

-- ---- timers
-- T1's latches as the number that they load.
unfoldable pub latch_of : Timer1 → ℕ
latch_of t = t.high * 256 + t.low

-- A timer as a counter that has not fired.
abbrev pub counter1 : Timer1 → Counter
counter1 t = at t.counter t.armed t.due false

abbrev pub counter2 : Timer2 → Counter
counter2 t = at t.counter t.armed false false

-- The VIA whose timers came to a and b: "At that passage, if armed, flag 6 is set", of T2 "flag 5 is set".
abbrev pub with_counters : Via → Counter → Counter → Via
with_counters v a b =
    with_flags
    (with_t2
    (with_t1 v (with_due1 (with_armed1 (with_counter1 v.t1 a.value) a.armed) a.due))
    (with_armed2 (with_counter2 v.t2 b.value) b.armed))
    (bit_or (bit_or v.flags (cond a.fired 64 0)) (cond b.fired 32 0))

-- One tick. T1 runs free with ACR bit 6 set; T2 "stands still while ACR bit 5 is 1".
unfoldable pub tick_of : Via → Via
unfolding latch_of
tick_of v =
    with_counters v (step (bit 6 v.acr) (latch_of v.t1) (counter1 v.t1))
    (cond (bit 5 v.acr) (counter2 v.t2) (step false 0 (counter2 v.t2)))

-- n ticks, one after the other.
unfoldable pub ticks : ℕ → Via → Via
ticks zero v = v
ticks (suc n) v = tick_of (ticks n v)

-- Whether n ticks do no more than take n from both counters.
unfoldable pub only_counts : ℕ → Via → Bool
only_counts n v = not v.t1.due && (not (bit 5 v.acr) && (leb n v.t1.counter && leb n v.t2.counter))

-- ---- flags
-- "VB sets flag 1, SE flag 0, whatever PCR says": the mask is 2 or 1.
unfoldable pub raised_of : ℕ → Via → Via
raised_of mask v = with_flags v (bit_or v.flags mask)

-- An enabled flag, 0 to 6, is set.
unfoldable pub asking : Via → Bool
asking v = not (eqb (bit_and (bit_and v.flags v.enables) 127) 0)

-- "The level is 1 if an enabled flag is set, else 0." Since W-205 it is the VIA's part of the level.
unfoldable pub level_of : Via → ℕ
level_of v = cond (asking v) 1 0

-- ---- reset
-- "RS clears the VIA but for counters, latches and register 10, disarms, drops a load due". W-210: "RS and PW start the count anew."
unfoldable pub reset_of : Via → Via
unfolding fresh_via
reset_of v =
    with_sr
    (with_t2
    (with_t1 fresh_via (with_due1 (with_armed1 v.t1 false) false))
    (with_armed2 v.t2 false))
    v.sr

-- ---- accepted states
-- "Registers, counters, latches, flags .. and a load due are free; room not in use holds 0": flags and enables have seven bits. W-210's pulses are counted
-- from 0 to 7.
unfoldable pub accepted_via : Via → Bool
accepted_via v = ltb v.flags 128 && (ltb v.enables 128 && ltb v.pulses 8)
