-- Time, an edge of VB or SE, reset and a power cut keep an accepted VIA accepted.
use mathlib.Core.Path.{◌≡◌, refl, ap, ◌∙◌}
use mathlib.Core.Bool.{Bool, true, false, cond}
use Prim.Native.Nat.{ℕ, ◌<◌}
use native.Mathlib.Omega.{arith}
use borrow.Author.Tests.{lt-ltb, ltb-true}
use lib.Dec.{ltb}
use lib.Bits.{bit_or, or_lt}
use Rattle.levels.proofs.Laws.{both, joined}
use Rattle.via_bits.specs.Bytes.{bit}
use Rattle.via.specs.Via.{fresh_via, ticks, raised_of, reset_of, accepted_via}
use Rattle.via.specs.declared.Via.{Via}
use Rattle.via.proofs.Waits.{first, second, waits}

-- What accepted says, as three bounds: of flags, enables and pulses.
pub below : (v : Via) → accepted_via v ≡ true → (v.flags < 128) × (v.enables < 128) × (v.pulses < 8)
unfolding accepted_via
below v h =
    let p = both (ltb v.flags 128) _ h in
    let q = both (ltb v.enables 128) _ p.1 in
    (ltb-true v.flags 128 p.0, ltb-true v.enables 128 q.0, ltb-true v.pulses 8 q.1)

pub accept : (v : Via) → v.flags < 128 → v.enables < 128 → v.pulses < 8 → accepted_via v ≡ true
unfolding accepted_via
accept v f e n =
    joined (ltb v.flags 128) _ (lt-ltb v.flags 128 f) (joined (ltb v.enables 128) _ (lt-ltb v.enables 128 e) (lt-ltb v.pulses 8 n))

pub either : {n : ℕ} (t : Bool) (x y : ℕ) → x < n → y < n → cond t x y < n
either true x y h k = h
either false x y h k = k

pub fresh-accepted : accepted_via fresh_via ≡ true
unfolding accepted_via fresh_via
fresh-accepted = refl

pub reset-accepted : (v : Via) → accepted_via (reset_of v) ≡ true
unfolding accepted_via reset_of
reset-accepted v = refl

pub raised-accepted : (mask : ℕ) (v : Via) → mask < 128 → accepted_via v ≡ true → accepted_via (raised_of mask v) ≡ true
unfolding raised_of
raised-accepted mask v m h =
    accept (raised_of mask v) (or_lt 7 v.flags mask (below v h).0 m) (below v h).1 (below v h).2

pub ticks-accepted : (n : ℕ) (v : Via) → accepted_via v ≡ true → accepted_via (ticks n v) ≡ true
ticks-accepted n v h =
    let a = (first n v).fired in
    let b = (second (bit 5 v.acr) n v.t2).fired in
    ap accepted_via (waits n v)
    ∙ accept _
    (or_lt 7 (bit_or v.flags (cond a 64 0)) (cond b 32 0)
    (or_lt 7 v.flags (cond a 64 0) (below v h).0 (either a 64 0 (omega arith) (omega arith)))
    (either b 32 0 (omega arith) (omega arith)))
    (below v h).1
    (below v h).2
