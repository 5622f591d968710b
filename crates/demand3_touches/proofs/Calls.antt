-- W-208 of the C entry: two calls with one image whose sequences of touches agree.
use Rattle.std.specs.Prelude.{Some}
use Rattle.refusal.specs.declared.Refusal.TheVariants.{NotAccepted}
use Prim.Native.Nat.{ℕ}
use mathlib.Core.Path.{◌≡◌, refl, subst⁻¹}
use mathlib.Core.Bool.{Bool, true, false, cond}
use mathlib.Core.List.{List}
use Rattle.machine_spec.specs.declared.Machine.{Machine}
use Rattle.run_spec.specs.Outcome.{halt, run_of}
use Rattle.image_spec.specs.Image.{machine_of, valid_image}
use Rattle.image_spec.proofs.Round.{valid-is}
use Rattle.entry_spec.specs.Call.{call_of}
use Rattle.demand3_touches.specs.Touches.{SameClock, CalledAlike, LeftAlike}
use Rattle.demand3_touches.proofs.Runs.{same, same-clock}

-- The states that the calls reach.
pub calls : (i : List ℕ) → CalledAlike i
unfolding call_of
calls i a b room_a room_b q = go (valid_image i) refl
  where
    m : Machine
    m = machine_of i

    go : (t : Bool) → valid_image i ≡ t → SameClock (cond t (run_of m a room_a) (halt m (Some NotAccepted))).machine.clock (cond t (run_of m b room_b) (halt m (Some NotAccepted))).machine.clock
    go true e = same-clock m (valid-is i e).accepted a b room_a room_b q
    go false e = same m.clock m.clock refl

-- The states of the images that they leave.
pub images : (i : List ℕ) → LeftAlike i
images i a b left_a left_b room_a room_b ea eb q =
    subst⁻¹ (λ (x : Machine). SameClock x.clock (machine_of left_b).clock) ea
    (subst⁻¹ (λ (x : Machine). SameClock (call_of i a room_a).machine.clock x.clock) eb (calls i a b room_a room_b q))
