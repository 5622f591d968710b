use Rattle.std.proofs.Common.{ℕ, ◌≡◌, List, [], ◌∷◌, ◌++◌, length, ap, ap₂, ◌∙◌, rules}
use Rattle.image_spec.specs.Layout.{phase_length}
use Rattle.image_spec.specs.ClockLayout.{second_of}
use Rattle.image.proofs.Laws.{four, rest-is}
use Rattle.image.proofs.phase_bytes.Goals as goal

pub returns : goal.returns
returns c =
    let n : length c.part.result ≡ phase_length = search rules in
    four c.part.result c.second.result n
    ∙ ap₂ (λ (p : List ℕ) (d : ℕ). p ++ (d ∷ [])) c.part.ensures (c.second.ensures ∙ ap second_of (rest-is c.args.image.now))
