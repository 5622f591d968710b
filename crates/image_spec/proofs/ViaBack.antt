-- The VIA's part: as long as the layout says, and read back what was written.
use Prim.Native.Nat.{ℕ}
use mathlib.Core.Path.{◌≡◌, refl}
use mathlib.Core.List.{List}
use lib.ListN.{length}
use Rattle.via.specs.declared.Via.{Via}
use Rattle.image_spec.specs.Layout.{via_length}
use Rattle.image_spec.proofs.Numbers.{flag-back, back16, width16}
use Rattle.image_spec.specs.ViaLayout.{via_bytes, via_of, ViaTyped}

pub via-long : (v : Via) → length (via_bytes v) ≡ via_length
unfolding via_bytes
via-long v = refl

pub via-back : (v : Via) → ViaTyped v → via_of (via_bytes v) ≡ v
unfolding via_bytes via_of
via-back v t = simp (back16 v.t1.counter t.0, back16 v.t2.counter t.1, flag-back)

pub via-typed : (b : List ℕ) → ViaTyped (via_of b)
unfolding via_of
via-typed b = (width16 b 4, width16 b 10)
