-- What a pulse of the keyboard's clock leaves of the VIA.
use Prim.Native.Nat.{ℕ}
use mathlib.Core.Path.{◌≡◌, refl}
use Rattle.via.specs.declared.Via.{Via}
use Rattle.via.specs.Setters.{with_sr, with_flags, with_pulses}
use Rattle.via.specs.Shift.{pulse_of}
use Rattle.via.proofs.Pulses.{pulse-cases}

-- A pulse changes register 10, the flags and the count of pulses, and nothing else.
pub pulse-shift : (level : ℕ) (v : Via) → with_pulses (with_flags (with_sr v (pulse_of level v).via.sr) (pulse_of level v).via.flags) (pulse_of level v).via.pulses ≡ (pulse_of level v).via
pulse-shift level v = pulse-cases level v (λ u. with_pulses (with_flags (with_sr v u.sr) u.flags) u.pulses ≡ u) (λ x l. refl) (λ x. refl) refl
