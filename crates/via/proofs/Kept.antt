-- Time and the edges of VB and SE leave the ports alone.
use mathlib.Core.Path.{◌≡◌, refl, ap}
use Prim.Native.Nat.{ℕ}
use Rattle.via.specs.Via.{ticks, raised_of}
use Rattle.via.specs.declared.Via.{Via}
use Rattle.via.proofs.Waits.{waits}

pub ticks-ports : (n : ℕ) (v : Via) → (ticks n v).ports ≡ v.ports
ticks-ports n v = ap (λ (x : Via). x.ports) (waits n v)

pub raised-ports : (mask : ℕ) (v : Via) → (raised_of mask v).ports ≡ v.ports
unfolding raised_of
raised-ports mask v = refl
