-- Every record keeps an accepted state accepted.
use Rattle.std.specs.Prelude.{Option, Some, None, Result, Ok, Err}
use Rattle.refusal.specs.declared.Refusal.{Refusal}
use Prim.Native.Nat.{ℕ}
use mathlib.Core.Path.{◌≡◌, refl, ◌∙◌}
use mathlib.Core.Bool.{true}
use mathlib.Core.List.{List}
use Rattle.item_spec.specs.Kinds.{decoded_of}
use Rattle.item_spec.specs.declared.Decoded.{Decoded}
use Rattle.item_spec.specs.declared.Decoded.TheVariants.{One}
use Rattle.item_spec.specs.Many.{values_of, single}
use Rattle.item_spec.proofs.ItemRange.{decoded-range, many-range, single-range}
use Rattle.machine_spec.specs.declared.Machine.{Machine}
use Rattle.machine_spec.specs.Machine.{accepted_of}
use Rattle.machine_spec.specs.Stages.{refuses_of}
use Rattle.machine_spec.proofs.Keeps.{step_keeps, size-kept}
use Rattle.run_spec.specs.Turn.{turn_unless, turn_by, turn_of}
use Rattle.run_spec.proofs.Many.{many-keep}

pub turn-keeps : (m : Machine) (s : List ℕ) → accepted_of m ≡ true → accepted_of (turn_of m s).machine ≡ true
unfolding turn_of
turn-keeps m s e = go (decoded_of s) refl
  where
    go : (d : Result Decoded Refusal) → decoded_of s ≡ d → accepted_of (turn_by m s d).machine ≡ true
    go (Err r) p = e
    go (Ok (Decoded.Many x)) p =
        many-keep (λ (n : Machine). accepted_of n ≡ true) x (λ n w v h. step_keeps n (single x w v) (single-range x (many-range s x p).number w v) h) (values_of s) m x.wait e
    go (Ok (One x)) p = judge (refuses_of m x)
      where
        judge : (o : Option Refusal) → accepted_of (turn_unless m x o).machine ≡ true
        judge None = step_keeps m x (decoded-range s x p) e
        judge (Some r) = e

-- W-206: no record changes which clock chip it is.
pub turn-size : (m : Machine) (s : List ℕ) → (turn_of m s).machine.clock.store.chip ≡ m.clock.store.chip
unfolding turn_of
turn-size m s = go (decoded_of s)
  where
    go : (d : Result Decoded Refusal) → (turn_by m s d).machine.clock.store.chip ≡ m.clock.store.chip
    go (Err r) = refl
    go (Ok (Decoded.Many x)) =
        many-keep (λ (n : Machine). n.clock.store.chip ≡ m.clock.store.chip) x (λ n w v h. size-kept n (single x w v) ∙ h) (values_of s) m x.wait refl
    go (Ok (One x)) = judge (refuses_of m x)
      where
        judge : (o : Option Refusal) → (turn_unless m x o).machine.clock.store.chip ≡ m.clock.store.chip
        judge None = size-kept m x
        judge (Some r) = refl
