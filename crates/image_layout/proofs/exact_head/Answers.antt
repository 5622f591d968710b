use Rattle.std.proofs.Common.{ap₂, ◌∙◌}
use Rattle.image_spec.specs.Layout.{same_bytes}
use Rattle.image_spec.proofs.Equal.{same-pointwise}
use Rattle.image_layout.proofs.exact_head.Goals as goal

pub returns : goal.returns
returns c = c.eq.ensures ∙ same-pointwise _ _ ∙ ap₂ same_bytes c.to_bytes.ensures c.part.ensures
