-- The cases of a pulse of the keyboard's clock, and eight of them in a row.
use mathlib.Core.Path.{◌≡◌, refl}
use mathlib.Core.Bool.{Bool, true, false, cond}
use Prim.Native.Nat.{ℕ, ◌+◌, ◌*◌, ◌/◌, ◌%◌, ◌<◌}
use lib.Dec.{eqb, ltb}
use borrow.Author.Tests.{ltb-true}
use lib.Bits.{bit_or}
use Rattle.via.specs.Setters.{with_sr, with_flags, with_pulses}
use Rattle.via.specs.Shift.{shifted_of, pulse_of}
use Rattle.via.specs.declared.Access.{Access}
use Rattle.via.specs.declared.Via.{Via}

-- Register 10 moved up, with x as bit 0.
abbrev pub moved_up : ℕ → Via → Via
moved_up x v = with_sr v (v.sr % 128 * 2 + x)

-- what holds where a pulse moves register 10, be it the eighth or not, and where nothing moves, holds after any pulse
pub pulse-cases : (level : ℕ) (v : Via) (P : Via → Type 0)
    → ((x : ℕ) → v.pulses < 7 → P (with_pulses (moved_up x v) (v.pulses + 1)))
    → ((x : ℕ) → P (with_pulses (with_flags (moved_up x v) (bit_or v.flags 4)) 0))
    → P v
    → P (pulse_of level v).via
unfolding pulse_of shifted_of
pulse-cases level v P moved eighth still = go (eqb (v.acr / 4 % 8) 3) (eqb (v.acr / 4 % 8) 7)
  where
    each : (x : ℕ) (t : Bool) → ltb v.pulses 7 ≡ t → P (cond t (with_pulses (moved_up x v) (v.pulses + 1)) (with_pulses (with_flags (moved_up x v) (bit_or v.flags 4)) 0))
    each x true e = moved x (ltb-true v.pulses 7 e)
    each x false e = eighth x

    shift : (x : ℕ) → P (shifted_of x v)
    shift x = each x (ltb v.pulses 7) refl

    go : (a b : Bool)
        → P (cond {A = Access} a (record { via = shifted_of level v; value = 0 }) (cond b (record { via = shifted_of (v.sr / 128) v; value = v.sr / 128 }) (record { via = v; value = 0 }))).via
    go true b = shift level
    go false true = shift (v.sr / 128)
    go false false = still
