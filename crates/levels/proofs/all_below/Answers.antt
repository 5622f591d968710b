use Rattle.std.proofs.Common.{ℕ, ◌≡◌, Bool, true, false, ◌&&◌, List, [], ◌∷◌, ◌++◌, rules, refl, ap, ◌∙◌}
use Rattle.std.specs.Prelude.{ltb}
use Rattle.std.proofs.lemmas.Fn.{fold_over, slice_gives, fronts}
use Rattle.levels.specs.Levels.{all_below}
use Rattle.levels.proofs.all_below.Goals as goal

-- What is known of some numbers, and what of one number more.
all_below-push : (limit : ℕ) (numbers : List ℕ) (number : ℕ) → all_below limit (numbers ++ (number ∷ [])) ≡ (all_below limit numbers && ltb number limit)
unfolding all_below
all_below-push limit [] number = whole (ltb number limit)
  where
    whole : (b : Bool) → (b && true) ≡ b
    whole true = refl
    whole false = refl
all_below-push limit (first ∷ rest) number = ap (λ b. ltb first limit && b) (all_below-push limit rest number) ∙ assoc (ltb first limit)
  where
    assoc : (b : Bool) → (b && (all_below limit rest && ltb number limit)) ≡ ((b && all_below limit rest) && ltb number limit)
    assoc true = refl
    assoc false = refl

pub returns : goal.returns
unfolding all_below
returns c =
    let folded : c.fold.result ≡ all_below c.args.limit c.iter.result.rest.now =
    fold_over fronts (λ y. y.now) _ (λ ys all. all ≡ all_below c.args.limit ys) _ (λ ys a x b f' j k. let more = all_below-push c.args.limit ys x.now in search rules)
    _ _ _ _ (slice_gives c.iter.result) refl c.fold.ensures.ran in
    search rules
