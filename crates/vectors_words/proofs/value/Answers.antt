use Rattle.std.proofs.Common.{◌≡◌, false, ◌&&◌, get_or, sym, ◌∙◌, eqb}
use borrow.Author.Tests.{eq-eqb, ne_eqb}
use Rattle.vectors_words.proofs.Numbers.{dollar, more, stop}
use Rattle.vectors_words.proofs.value.Goals as goal
use Rattle.vectors_words.proofs.value.Goals.{then-first+then-c-eq36, else-first, else-first-via-then-first+else-c-eq36, else-first-via-else-first}

pub loop-c-preserved : goal.loop-c-preserved
loop-c-preserved c =
    let l = c.loop-c in
    let word = c.args.word.now in
    elim c.if-first.branch [
      | then-first+then-c-eq36 w ↦
          rw (w.value-is, w.hex-is, w.first-is)
          (sym (dollar word l.value l.hex l.first l.c-index c.loop-c-test.true (simp (w.if-first.true, eq-eqb (get_or word l.c-index 0) 36 w.if-c-eq36.true))) ∙ l.invariant)
      | else-first w ↦
          let other : (l.first && eqb (get_or word l.c-index 0) 36) ≡ false =
          elim w.else-first.branch [
            | else-first-via-then-first+else-c-eq36 v ↦ simp (v.if-first.true, ne_eqb (get_or word l.c-index 0) 36 v.if-c-eq36.false)
            | else-first-via-else-first v ↦ simp v.if-first.false
          ] in
          rw (w.value-is, w.hex-is, w.first-is, w.grown-value.ensures)
          (sym (more word l.value l.hex l.first l.c-index c.loop-c-test.true other) ∙ l.invariant)
    ]

pub returns : goal.returns
returns c =
    let l = c.loop-c in
    stop c.args.word.now l.value l.hex l.first l.c-index c.loop-c-test.false ∙ l.invariant
