-- W-204: "While either bit is 1, neither SE nor time off moves the seconds."
use mathlib.Core.Path.{◌≡◌, refl}
use mathlib.Core.Bool.{true}
use Prim.Native.Nat.{ℕ}
use Rattle.clock_spec.specs.Shared.{Event, quiet, second, off, elapse}

pub stopped-still : (e : Event) (s : ℕ) → elapse true e s ≡ s
stopped-still quiet s = refl
stopped-still second s = refl
stopped-still (off n) s = refl
