-- Document 01's sentences on T1 and T2, of the VIA: when flags 6 and 5 are set, for every load and every wait.
use mathlib.Core.Path.{◌≡◌, refl, ap, ap₂, ◌∙◌}
use mathlib.Core.Bool.{Bool, true, false, cond, ◌||◌, and-false, or-false}
use Prim.Native.Nat.{ℕ, ◌+◌, ◌*◌}
use native.Mathlib.Omega.{arith}
use lib.Dec.{ltb}
use lib.Bits.{bit_or}
use Rattle.via_timer.specs.Timer.{at, steps}
use Rattle.via_timer.specs.declared.Counter.{Counter}
use Rattle.via_timer.proofs.Exact.{exactly, passages, again, unarmed}
use Rattle.via.specs.Setters.{with_flags}
use Rattle.via_bits.specs.Bytes.{bit, clear}
use Rattle.via.specs.Via.{latch_of, counter1, with_counters, ticks}
use Rattle.via.specs.Writes.{via_written}
use Rattle.via.specs.declared.Via.{Via}
use Rattle.via.proofs.Bits.{or-bit, clear-bit}
use Rattle.via.proofs.Waits.{first, second, waits}

-- ---- what a wait makes of flags 6 and 5
is6 : (a : Bool) → bit 6 (cond a 64 0) ≡ a
is6 true = refl
is6 false = refl

not6 : (b : Bool) → bit 6 (cond b 32 0) ≡ false
not6 true = refl
not6 false = refl

is5 : (b : Bool) → bit 5 (cond b 32 0) ≡ b
is5 true = refl
is5 false = refl

not5 : (a : Bool) → bit 5 (cond a 64 0) ≡ false
not5 true = refl
not5 false = refl

or3 : (k f x y : ℕ) → bit k (bit_or (bit_or f x) y) ≡ (bit k f || bit k x || bit k y)
or3 k f x y = or-bit k (bit_or f x) y ∙ ap (λ (t : Bool). t || bit k y) (or-bit k f x)

pub flag-6 : (n : ℕ) (v : Via) → bit 6 (ticks n v).flags ≡ (bit 6 v.flags || (first n v).fired)
flag-6 n v =
    let a = (first n v).fired in
    let b = (second (bit 5 v.acr) n v.t2).fired in
    ap (λ (x : Via). bit 6 x.flags) (waits n v)
    ∙ or3 6 v.flags (cond a 64 0) (cond b 32 0)
    ∙ ap₂ (λ (x y : Bool). bit 6 v.flags || x || y) (is6 a) (not6 b)
    ∙ or-false (bit 6 v.flags || a)

pub flag-5 : (n : ℕ) (v : Via) → bit 5 (ticks n v).flags ≡ (bit 5 v.flags || (second (bit 5 v.acr) n v.t2).fired)
flag-5 n v =
    let a = (first n v).fired in
    let b = (second (bit 5 v.acr) n v.t2).fired in
    ap (λ (x : Via). bit 5 x.flags) (waits n v)
    ∙ or3 5 v.flags (cond a 64 0) (cond b 32 0)
    ∙ ap₂ (λ (x y : Bool). bit 5 v.flags || x || y) (not5 a) (is5 b)
    ∙ ap (λ (x : Bool). x || b) (or-false (bit 5 v.flags))

-- A flag just cleared is clear.
off6 : (f : ℕ) → bit 6 (clear f 64) ≡ false
off6 f = clear-bit 6 f 64 (omega arith) (omega arith) ∙ and-false (bit 6 f)

off5 : (f : ℕ) → bit 5 (clear f 32) ≡ false
off5 f = clear-bit 5 f 32 (omega arith) (omega arith) ∙ and-false (bit 5 f)

-- ---- T1
-- What writing this value to register 5 loads T1 with.
abbrev pub load1 : ℕ → Via → ℕ
load1 value v = value * 256 + v.t1.low

-- "an armed T1 loaded with N raises its flag exactly N+1 ticks later": n ticks after the load flag 6 is set exactly where N is
-- below n.
pub t1-exactly : (value n : ℕ) (v : Via) → bit 6 (ticks n (via_written 5 value v)).flags ≡ ltb (load1 value v) n
unfolding via_written latch_of
t1-exactly value n v =
    flag-6 n (via_written 5 value v)
    ∙ ap₂ (λ (x y : Bool). x || y) (off6 v.flags)
    (exactly (bit 6 v.acr) (load1 value v) (load1 value v) n)

-- The VIA at T1's passage number q + 1 after the load, in free run, N+1 + q (N+2) ticks after it.
abbrev pub passage : ℕ → ℕ → Via → Via
passage q value v = ticks (load1 value v + 1 + q * (load1 value v + 2)) (via_written 5 value v)

-- "and in free run every N+2 ticks after": cleared at any passage, as by reading register 4, flag 6 is set n ticks later exactly
-- where N+1 is below n.
pub t1-every : (value q n : ℕ) (v : Via) → bit 6 v.acr ≡ true
    → bit 6 (ticks n (with_flags (passage q value v) (clear (passage q value v).flags 64))).flags ≡ ltb (load1 value v + 1) n
unfolding via_written latch_of
t1-every value q n v free =
    let l = load1 value v in
    let m = l + 1 + q * (l + 2) in
    let w = via_written 5 value v in
    let b = second (bit 5 v.acr) m v.t2 in
    let top = at 65535 true true true in
    let seen : Via → Via = λ u. with_flags u (clear u.flags 64) in
    let came : first m w ≡ top = ap (λ (t : Bool). steps m t l (at l true false false)) free ∙ passages l q in
    ap (λ (u : Via). bit 6 (ticks n (seen u)).flags) (waits m w ∙ ap (λ (a : Counter). with_counters w a b) came)
    ∙ flag-6 n (seen (with_counters w top b))
    ∙ ap₂ (λ (x y : Bool). x || y) (off6 (with_counters w top b).flags)
    (ap (λ (t : Bool). (steps n t l (at 65535 true true false)).fired) free ∙ again l n)

-- A T1 that is not armed sets no flag.
pub t1-unarmed : (n : ℕ) (v : Via) → v.t1.armed ≡ false → bit 6 (ticks n v).flags ≡ bit 6 v.flags
t1-unarmed n v e =
    flag-6 n v
    ∙ ap (λ (x : Bool). bit 6 v.flags || x) (unarmed n (bit 6 v.acr) (latch_of v.t1) (counter1 v.t1) e).1
    ∙ or-false (bit 6 v.flags)

-- ---- T2
-- "9 loads the counter from value and low latch, clears flag 5, arms .. at that passage, if armed, flag 5 is set": n ticks after a
-- load with N flag 5 is set exactly where N is below n.
pub t2-exactly : (value n : ℕ) (v : Via) → bit 5 v.acr ≡ false
    → bit 5 (ticks n (via_written 9 value v)).flags ≡ ltb (value * 256 + v.t2.low) n
unfolding via_written
t2-exactly value n v e =
    let l = value * 256 + v.t2.low in
    flag-5 n (via_written 9 value v)
    ∙ ap₂ (λ (x y : Bool). x || y) (off5 v.flags)
    (ap (λ (s : Bool). (second s n (via_written 9 value v).t2).fired) e ∙ exactly false 0 l n)

-- "It stands still while ACR bit 5 is 1."
pub t2-still : (n : ℕ) (v : Via) → bit 5 v.acr ≡ true → ((ticks n v).t2 ≡ v.t2) × (bit 5 (ticks n v).flags ≡ bit 5 v.flags)
t2-still n v e = (
  ap (λ (x : Via). x.t2) (waits n v ∙ ap (λ (s : Bool). with_counters v (first n v) (second s n v.t2)) e),
  flag-5 n v ∙ ap (λ (s : Bool). bit 5 v.flags || (second s n v.t2).fired) e ∙ or-false (bit 5 v.flags),
)
