-- What one record leaves.
use Rattle.std.specs.Prelude.{Option, Some, None, Result, Ok, Err, is_ok}
use Rattle.refusal.specs.declared.Refusal.{Refusal}
use Rattle.refusal.specs.declared.Refusal.TheVariants.{DiskMismatch}
use Prim.Native.Nat.{ℕ}
use mathlib.Core.Path.{◌≡◌, refl, ◌∙◌}
use mathlib.Core.Bool.{true, false, true≢false}
use mathlib.Core.List.{List}
use lib.Dec.{eqb}
use Rattle.units.specs.declared.WaitTicks.{WaitTicks}
use Rattle.item_spec.specs.declared.Item.{Item}
use Rattle.item_spec.specs.declared.Item.TheVariants.{Disk}
use Rattle.item_spec.specs.declared.Decoded.{Decoded}
use Rattle.item_spec.specs.declared.Decoded.TheVariants.{One}
use Rattle.item_spec.specs.Kinds.{decoded_of}
use Rattle.disk_spec.specs.Drives.{place_refused}
use Rattle.machine_spec.specs.declared.Machine.{Machine}
use Rattle.machine_spec.specs.Stages.{refuses_of}
use Rattle.machine_spec.specs.Step.{step_of}
use Rattle.machine_spec.proofs.Stages.{clash}
use Rattle.run_spec.specs.Turn.{refused_turn, done_turn, turn_unless, turn_by, turn_of}

-- An item that is carried out leaves the state and the answer of one step.
pub carried-out : (m : Machine) (s : List ℕ) (x : Item) → decoded_of s ≡ Ok (One x) → refuses_of m x ≡ None → turn_of m s ≡ done_turn (step_of m x)
unfolding turn_of
carried-out m s x e r = simp (e, r)

-- Refusals 2 to 5 look at the bytes alone, and come before 8: no state changes the number.
pub refused-by-bytes : (m : Machine) (s : List ℕ) (r : Refusal) → decoded_of s ≡ Err r → turn_of m s ≡ refused_turn m r
unfolding turn_of
refused-by-bytes m s r e = simp e

-- A refused item passes no time and changes no state: an answer that is no OK leaves the machine as it was.
pub refused-unchanged : (m : Machine) (s : List ℕ) → is_ok (turn_of m s).answer ≡ false → (turn_of m s).machine ≡ m
unfolding turn_of
refused-unchanged m s h = go (decoded_of s) h
  where
    go : (d : Result Decoded Refusal) → is_ok (turn_by m s d).answer ≡ false → (turn_by m s d).machine ≡ m
    go (Err r) h = refl
    go (Ok (Decoded.Many x)) h = absurd (true≢false h)
    go (Ok (One x)) h = judge (refuses_of m x) h
      where
        judge : (o : Option Refusal) → is_ok (turn_unless m x o).answer ≡ false → (turn_unless m x o).machine ≡ m
        judge None h = absurd (true≢false h)
        judge (Some r) h = refl

-- DI where a disk is, or a removal where none is: refusal 8, and the machine as it was, its counters too.
pub clash-refused : (m : Machine) (s : List ℕ) (w : WaitTicks) (d i l b : ℕ) → decoded_of s ≡ Ok (One (Disk w d i l b)) → place_refused (eqb d 1) (eqb i 1) m.drives ≡ true
    → turn_of m s ≡ refused_turn m DiskMismatch
unfolding turn_of
clash-refused m s w d i l b e h = simp (e, clash m w d i l b h)
