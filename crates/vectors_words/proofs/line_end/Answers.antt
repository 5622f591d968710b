use Rattle.std.proofs.Common.{ℕ, ◌≡◌, ◌+◌, ◌-◌, length, take, drop, unwrap_or, refl, sym, ap, ◌∙◌, rules}
use Rattle.std.proofs.lemmas.Iterator.{index_from_first}
use Rattle.std.proofs.lemmas.List.{take_rest}
use Rattle.vectors_words.specs.Words.{before, line_end_of}
use Rattle.vectors_words.proofs.Numbers.{at_mark, past}
use Rattle.vectors_words.proofs.line_end.Goals as goal

pub returns-clause-value : goal.returns-clause-value
unfolding before line_end_of
returns-clause-value c =
    let s = c.args.s.now in
    let at = c.args.at in
    let rest = take (length s - at) (drop at s) in
    let end : before 10 rest ≡ unwrap_or c.position-feed.result (length rest) =
    index_from_first (before 10) (λ (x : ℕ). x ≡ 10) (λ (x : ℕ). x ≡ 10 → ⊥) refl (at_mark 10) (past 10) rest c.position-feed.result (search rules) in
    ap (λ (k : ℕ). at + k) (c.unwrap_or.ensures ∙ sym end ∙ ap (before 10) (take_rest s at))
