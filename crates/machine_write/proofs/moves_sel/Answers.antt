use Rattle.std.proofs.Common.{ℕ, ◌≡◌, Bool, not, eqb, sym, ap, ◌∙◌}
use mathlib.Core.Bool.{beq}
use Rattle.via.specs.declared.Ports.{Ports}
use Rattle.via.specs.Writes.{ports_written}
use Rattle.machine_spec.specs.Pins.{sel_of}
use Rattle.machine_write.proofs.Values.{sel-found, sel-next, sel-end}
use Rattle.machine_write.proofs.moves_sel.Goals as goal

-- Whether SEL has another level after the value at hand, of what the code has.
test : (x : ℕ) (r v : ℕ) (p q : Ports) (sel : Bool) → q ≡ ports_written r v p → x ≡ sel_of q → not (beq (eqb (sel_of (ports_written r v p)) 1) sel) ≡ not (beq (eqb x 1) sel)
test x r v p q sel e f = ap (λ (n : ℕ). not (beq (eqb n 1) sel)) (sym (f ∙ ap sel_of e))

pub returns-then-sel_of-sel : goal.returns-then-sel_of-sel
returns-then-sel_of-sel c =
    let a = c.args in
    let l = c.loop-value in
    sym (sel-found a.register a.values.now l.value-index a.ports a.sel c.loop-value-test.true (test _ _ _ _ _ a.sel c.ports_written-after.ensures c.sel_of.ensures.0 ∙ c.if-sel_of-sel.true)) ∙ l.invariant

pub loop-value-preserved : goal.loop-value-preserved
loop-value-preserved c =
    let a = c.args in
    let l = c.loop-value in
    sel-next a.register a.values.now l.value-index a.ports a.sel c.loop-value-test.true (test _ _ _ _ _ a.sel c.ports_written-after.ensures c.sel_of.ensures.0 ∙ c.if-sel_of-sel.false) ∙ l.invariant

pub returns : goal.returns
returns c = sym (sel-end c.args.register c.args.values.now c.loop-value.value-index c.args.ports c.args.sel c.loop-value-test.false) ∙ c.loop-value.invariant
