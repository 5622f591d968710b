use Rattle.std.proofs.Common.{ℕ, List, ap, ◌∙◌}
use Rattle.image_spec.specs.Layout.{same_bytes}
use Rattle.image_spec.proofs.Equal.{same-pointwise}
use Rattle.image_layout.proofs.exact.Goals as goal

pub returns : goal.returns
returns g c =
    c.eq.ensures
    ∙ same-pointwise _ _
    ∙ ap (λ (b : List ℕ). same_bytes b c.args.bytes) (c.to_bytes.ensures ∙ ap g.T.Layout.bytes_of c.from_bytes.ensures)
