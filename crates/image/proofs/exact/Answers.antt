use Rattle.std.proofs.Common.{◌≡◌, sym, ap, ◌∙◌}
use borrow.Author.Tests.{lt-ltb, le-ltb, eq-eqb, ne_eqb}
use Rattle.image_spec.specs.Image.{image_length, exact_image}
use Rattle.image_spec.specs.Layout.{chip_of}
use Rattle.image_spec.proofs.Round.{exact-parts}
use Rattle.image.proofs.Laws.{chip-head}
use Rattle.image.proofs.exact.Goals as goal

pub returns-then-image-lt-TAIL : goal.returns-then-image-lt-TAIL
unfolding exact_image
returns-then-image-lt-TAIL c = simp (lt-ltb _ _ c.if-image-lt-TAIL.true)

pub exact_parts-requires : goal.exact_parts-requires
exact_parts-requires c =
    c.if-image-image_length.true ∙ c.image_length.ensures
    ∙ ap image_length (c.from_bytes-chip.ensures ∙ ap chip_of c.part.ensures ∙ chip-head c.args.image.now)

pub returns-then-image-image_length : goal.returns-then-image-image_length
unfolding exact_image
returns-then-image-image_length c =
    let n = c.if-image-image_length.true ∙ c.image_length.ensures
    ∙ ap image_length (c.from_bytes-chip.ensures ∙ ap chip_of c.part.ensures ∙ chip-head c.args.image.now) in
    c.exact_parts.ensures ∙ simp (le-ltb _ _ c.if-image-lt-TAIL.false, eq-eqb _ _ n, exact-parts c.args.image.now n)

pub returns-else-image-image_length : goal.returns-else-image-image_length
unfolding exact_image
returns-else-image-image_length c =
    let long : c.image_length.result ≡ image_length (chip_of c.args.image.now) =
    c.image_length.ensures ∙ ap image_length (c.from_bytes-chip.ensures ∙ ap chip_of c.part.ensures ∙ chip-head c.args.image.now) in
    simp (le-ltb _ _ c.if-image-lt-TAIL.false, ne_eqb _ _ (λ e. c.if-image-image_length.false (e ∙ sym long)), ne_eqb _ _ c.if-image-image_length.false)
