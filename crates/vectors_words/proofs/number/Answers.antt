use Rattle.std.proofs.Common.{ℕ, ◌≡◌, ◌+◌, false, true, cond, List, length, take, drop, unwrap_or, Bor, refl, sym, ap, ◌∙◌, rules}
use mathlib.Core.Path.{ap₂}
use Rattle.std.proofs.lemmas.Iterator.{index_from_first}
use Rattle.vectors_words.specs.declared.Read.{Read}
use Rattle.vectors_words.specs.Words.{spaced_of, before, value_of, word_of, number_of}
use Rattle.vectors_words.proofs.Numbers.{worded, at_mark, past, part}
use Rattle.vectors_words.proofs.number.Goals as goal
use Rattle.vectors_words.proofs.number.Goals.{then-spaced, else-spaced}

abbrev read_of : ℕ → ℕ → Read
read_of v e = record { value = v; end = e }

pub returns : goal.returns
unfolding number_of before
returns c =
    let text = c.args.text.now in
    let at = c.args.at in
    let rest : c.unwrap_or-rest.result.now ≡ drop (at + 1) text = ap (λ (r : Bor (List ℕ)). r.now) c.unwrap_or-rest.ensures ∙ part text (at + 1) c.get.result _ refl c.get.ensures.lookup.0 in
    let end : before 32 c.unwrap_or-rest.result.now ≡ unwrap_or c.position.result (length c.unwrap_or-rest.result.now) =
    index_from_first (before 32) (λ (x : ℕ). x ≡ 32) (λ (x : ℕ). x ≡ 32 → ⊥) refl (at_mark 32) (past 32) c.unwrap_or-rest.result.now c.position.result (search rules) in
    let start : c.if-spaced.start ≡ cond (spaced_of text at) 0 65536 =
    elim c.if-spaced.branch [
      | then-spaced w ↦ w.start-is ∙ simp (sym c.spaced.ensures ∙ w.if-spaced.true)
      | else-spaced w ↦ w.start-is ∙ simp (sym c.spaced.ensures ∙ w.if-spaced.false)
    ] in
    let count : c.unwrap_or-end.result ≡ before 32 c.unwrap_or-rest.result.now = c.unwrap_or-end.ensures ∙ sym end in
    ap₂ read_of
    (c.value.ensures
    ∙ ap₂ (λ (n k : ℕ). word_of n false true (take k c.unwrap_or-rest.result.now)) start count
    ∙ sym (worded (cond (spaced_of text at) 0 65536) false true c.unwrap_or-rest.result.now)
    ∙ ap (value_of (cond (spaced_of text at) 0 65536) false true) rest)
    (ap (λ (k : ℕ). at + 1 + k) (count ∙ ap (before 32) rest))
