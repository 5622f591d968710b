use Rattle.std.proofs.Common.{ℕ, ◌≡◌, List, rules, refl}
use Rattle.std.specs.Prelude.{eqb}
use Rattle.std.specs.Bool.{Decides}
use Rattle.std.specs.List.{All}
use Rattle.std.proofs.lemmas.Bool.Decides.{same_from_decides, Decides-by_and, Decides-eqb}
use Rattle.keyboard.specs.State.{all_zero}
use Rattle.keyboard.proofs.all_zero.Goals as goal

-- The definition decides that every number is 0, as the chain does.
decides : (places : List ℕ) → Decides (all_zero places) (All (λ code. code ≡ 0) places)
unfolding all_zero
decides = Decides-by_and (λ code. eqb code 0) (λ code. code ≡ 0) all_zero (λ code. Decides-eqb code 0) refl (λ _ _. refl)

pub returns : goal.returns
returns c =
    let chain : Decides c.all.result (All (λ code. code ≡ 0) c.args.places.now) = search rules in
    same_from_decides _ _ chain (decides _)
