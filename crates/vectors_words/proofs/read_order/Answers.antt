use Rattle.std.proofs.Common.{◌+◌, ◌≤◌, length, sym, subst}
use Rattle.vectors_words.specs.declared.Read.{Read}
use Rattle.vectors_words.proofs.Numbers.{ends}
use Rattle.vectors_words.proofs.read_order.Goals as goal

pub number-second-requires : goal.number-second-requires
number-second-requires c =
    let text = c.args.text.now in
    subst (λ (x : Read). x.end ≤ length text + 1) (sym c.number-first.ensures) (ends text c.requires)
