-- W-205: "Levels 3 and 7 never appear", in the answer to any record.
use Rattle.std.specs.Prelude.{Option, Some, None, Result, Ok, Err}
use Rattle.refusal.specs.declared.Refusal.{Refusal}
use Prim.Native.Nat.{ℕ}
use mathlib.Core.Path.{◌≡◌, refl, subst}
use mathlib.Core.Bool.{true}
use mathlib.Core.List.{List}
use native.Mathlib.Omega.{arith}
use lib.ListN.{get_or}
use Rattle.item_spec.specs.declared.Shown.{Shown}
use Rattle.item_spec.specs.Record.{answer_level}
use Rattle.levels.proofs.Laws.{level-at}
use Rattle.via.specs.Via.{level_of}
use Rattle.machine_spec.proofs.Interrupts.{never}
use Rattle.item_spec.specs.declared.Decoded.{Decoded}
use Rattle.item_spec.specs.declared.Decoded.TheVariants.{One}
use Rattle.item_spec.specs.Many.{singles_of}
use Rattle.item_spec.specs.Kinds.{decoded_of}
use Rattle.item_spec.proofs.ItemRange.{decoded-range}
use Rattle.machine_spec.specs.declared.Machine.{Machine}
use Rattle.machine_spec.specs.declared.Did.{Did}
use Rattle.machine_spec.specs.Machine.{accepted_of, no_value}
use Rattle.machine_spec.proofs.MachineLaws.{parts}
use Rattle.machine_spec.specs.Stages.{refuses_of}
use Rattle.machine_spec.specs.Step.{step_of, after_items, answer_of}
use Rattle.machine_spec.proofs.Step.{via-level}
use Rattle.machine_spec.proofs.Keeps.{step_keeps}
use Rattle.run_spec.specs.Turn.{turn_unless, turn_by, turn_of}
use Rattle.run_spec.proofs.Keeps.{turn-keeps}

-- Neither level 3 nor level 7.
abbrev pub Ordinary : Result Shown Refusal → Type 0
Ordinary a = (answer_level a ≡ 3 → ⊥) × (answer_level a ≡ 7 → ⊥)

pub no-ordinary : (r : Refusal) → Ordinary (Err r)
no-ordinary r = (λ (e : ◌≡◌ {A = ℕ} 0 3). omega arith, λ (e : ◌≡◌ {A = ℕ} 0 7). omega arith)

done-ordinary : (d : Did) → accepted_of d.machine ≡ true → Ordinary (Ok (answer_of d))
unfolding answer_of
done-ordinary d h =
    let n = d.machine in
    let l = (parts n h).levels.0 in
    never (level_of n.via) (get_or n.inputs 5 0) (get_or n.inputs 6 0) (via-level n.via) (level-at n.inputs 5 l) (level-at n.inputs 6 l)

pub turn-ordinary : (m : Machine) (s : List ℕ) → accepted_of m ≡ true → Ordinary (turn_of m s).answer
unfolding turn_of
turn-ordinary m s h = go (decoded_of s) refl
  where
    go : (d : Result Decoded Refusal) → decoded_of s ≡ d → Ordinary (turn_by m s d).answer
    go (Err r) p = no-ordinary r
    go (Ok (Decoded.Many x)) p = done-ordinary (no_value (after_items m (singles_of x s))) (subst (λ (d : Result Decoded Refusal). accepted_of (turn_by m s d).machine ≡ true) p (turn-keeps m s h))
    go (Ok (One x)) p = judge (refuses_of m x)
      where
        judge : (o : Option Refusal) → Ordinary (turn_unless m x o).answer
        judge None = done-ordinary (step_of m x) (step_keeps m x (decoded-range s x p) h)
        judge (Some r) = no-ordinary r
