-- Writing or reading a register and a pulse keep an accepted VIA accepted.
use mathlib.Core.Path.{◌≡◌}
use mathlib.Core.Bool.{true, ◌||◌}
use Prim.Native.Nat.{ℕ, ◌+◌, ◌-◌, ◌%◌, ◌<◌}
use native.Mathlib.Nat.{mod-lt, lt_of_le_of_lt}
use native.Mathlib.Omega.{arith}
use lib.Dec.{eqb}
use lib.Bits.{bit_or, or_lt, and_le_l}
use Rattle.via_bits.specs.Bytes.{bit, clear, port_a_flags}
use Rattle.via.specs.Via.{accepted_via}
use Rattle.via.specs.declared.Inputs.{Inputs}
use Rattle.via.specs.declared.Via.{Via}
use Rattle.via.proofs.Accepted.{below, accept, either}
use Rattle.via.specs.Setters.{with_flags, with_pulses}
use Rattle.via.specs.Shift.{pulse_of}
use Rattle.via.proofs.Pulses.{moved_up, pulse-cases}
use Rattle.via.specs.Writes.{via_written}
use Rattle.via.specs.Registers.{register_read}

cleared : (a m : ℕ) → a < 128 → clear a m < 128
cleared a m h = lt_of_le_of_lt (and_le_l a (255 - m)) h

pub written-accepted : (r value : ℕ) (v : Via) → accepted_via v ≡ true → accepted_via (via_written r value v) ≡ true
unfolding via_written
written-accepted r value v h =
    let f = v.flags in
    let e = v.enables in
    let g = (below v h).0 in
    let k = (below v h).1 in
    accept (via_written r value v)
    (either (eqb r 1) _ _ (cleared f (port_a_flags v.pcr) g)
    (either (eqb r 5 || eqb r 7) _ _ (cleared f 64 g)
    (either (eqb r 9) _ _ (cleared f 32 g)
    (either (eqb r 10) _ _ (cleared f 4 g)
    (either (eqb r 13) _ _ (cleared f (value % 128) g) g)))))
    (either (eqb r 14) _ _
    (either (bit 7 value) _ _ (or_lt 7 e (value % 128) k (mod-lt value (omega arith))) (cleared e (value % 128) k))
    k)
    (either (eqb r 10) _ _ (omega arith) (below v h).2)

pub read-accepted : (r : ℕ) (i : Inputs) (v : Via) → accepted_via v ≡ true → accepted_via (register_read r i v).via ≡ true
unfolding register_read
read-accepted r i v h =
    let f = v.flags in
    let g = (below v h).0 in
    accept (register_read r i v).via
    (either (eqb r 1) _ _ (cleared f (port_a_flags v.pcr) g)
    (either (eqb r 4) _ _ (cleared f 64 g)
    (either (eqb r 8) _ _ (cleared f 32 g)
    (either (eqb r 10) _ _ (cleared f 4 g) g))))
    (below v h).1
    (either (eqb r 10) _ _ (omega arith) (below v h).2)

pub pulse-accepted : (level : ℕ) (v : Via) → accepted_via v ≡ true → accepted_via (pulse_of level v).via ≡ true
pulse-accepted level v h =
    let b = below v h in
    pulse-cases level v (λ u. accepted_via u ≡ true)
    (λ x l. accept (with_pulses (moved_up x v) (v.pulses + 1)) b.0 b.1 (omega arith))
    (λ x. accept (with_pulses (with_flags (moved_up x v) (bit_or v.flags 4)) 0) (or_lt 7 v.flags 4 b.0 (omega arith)) b.1 (omega arith))
    h
