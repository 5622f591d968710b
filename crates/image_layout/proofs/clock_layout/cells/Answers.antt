use Rattle.std.proofs.Common.{ℕ, ◌≡◌, ◌-◌, List, length, take, ap₂, ◌∙◌, rules}
use Rattle.octets.specs.Octets.{put_at}
use Rattle.image_spec.specs.Layout.{cells_length}
use Rattle.image_layout.proofs.Laws.{cells-read}
use Rattle.image_layout.proofs.clock_layout.cells.Goals as goal

pub returns : goal.returns
returns c =
    let a = c.args in
    let t : List ℕ = a.tail.now in
    let l : length a.first ≡ cells_length = search rules in
    c.copy-2.ensures
    ∙ ap₂ (λ (d : List ℕ) (k : ℕ). put_at d cells_length (take (k - cells_length) t)) c.copy.ensures c.cell_count-more.ensures
    ∙ cells-read a.chip a.first t l c.requires
