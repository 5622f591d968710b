-- What an access and a pulse leave alone: only writing moves the ports, and nothing but the rule of document 01 moves them then.
use mathlib.Core.Path.{◌≡◌, refl}
use Prim.Native.Nat.{ℕ}
use Rattle.via.specs.declared.Inputs.{Inputs}
use Rattle.via.specs.declared.Via.{Via}
use Rattle.via.specs.Writes.{ports_written, via_written}
use Rattle.via.specs.Registers.{register_read}
use Rattle.via.specs.Shift.{pulse_of}
use Rattle.via.proofs.Pulses.{pulse-cases}

pub read-ports : (r : ℕ) (i : Inputs) (v : Via) → (register_read r i v).via.ports ≡ v.ports
unfolding register_read
read-ports r i v = refl

pub written-ports : (r value : ℕ) (v : Via) → (via_written r value v).ports ≡ ports_written r value v.ports
unfolding via_written
written-ports r value v = refl

pub pulse-ports : (level : ℕ) (v : Via) → (pulse_of level v).via.ports ≡ v.ports
pulse-ports level v = pulse-cases level v (λ u. u.ports ≡ v.ports) (λ x l. refl) (λ x. refl) refl

-- a pulse moves neither T1 nor ACR
pub pulse-timers : (level : ℕ) (v : Via) → ((pulse_of level v).via.t1 ≡ v.t1) × ((pulse_of level v).via.acr ≡ v.acr)
pulse-timers level v = pulse-cases level v (λ u. (u.t1 ≡ v.t1) × (u.acr ≡ v.acr)) (λ x l. (refl, refl)) (λ x. (refl, refl)) (refl, refl)
