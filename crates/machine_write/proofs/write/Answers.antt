-- Each value is a step, but for the strobe's look, which one look after them all makes up for.
use Rattle.std.proofs.Common.{◌≡◌, false, ◌<◌, length, get_or, sym, ap, ◌∙◌}
use native.Mathlib.Omega.{arith}
use borrow.Author.Tests.{eqb-false}
use Rattle.units.specs.Units.{for_ticks}
use Rattle.disk_spec.specs.Watched.{watched_of}
use Rattle.item_spec.specs.declared.Item.TheVariants.{WriteVia}
use Rattle.machine_spec.specs.Machine.{with_via, with_clock, strobe_levels}
use Rattle.machine_spec.specs.Step.{step_of}
use Rattle.machine_write.proofs.Writes.{look, look-phase, dark-next, dark-first, port-next, port-first, looked-first, write_next, write_end}
use Rattle.machine_write.proofs.write.Goals as goal

pub loop-value-preserved : goal.loop-value-preserved
unfolding watched_of
loop-value-preserved g c =
    let l = c.loop-value in
    let m = c.args.machine.now in
    let n = with_via m l.via in
    let r = c.args.register in
    let v = get_or c.args.values.now l.value-index 0 in
    let off : (strobe_levels m).lstrb ≡ false = sym c.is_on.ensures ∙ c.if-is_on.false in
    let e : look (with_via m c.write-via.result) ≡ (step_of (look n) (WriteVia (for_ticks 0) r v)).machine =
    ap (λ x. look (with_via m x)) c.write-via.ensures ∙ dark-next n r v c.if-register.true off l.invariant.phase in
    record {
      phase = look-phase (look n) (with_via m c.write-via.result) r v l.invariant.phase e;
      left = write_next r c.args.values.now l.value-index (look n) c.loop-value-test.true _ e ∙ l.invariant.left;
    }

pub look-requires : goal.look-requires
look-requires g c = rw (c.wires_of-before.ensures, c.shown_line-line.ensures) c.loop-value-else-register.invariant.phase

pub loop-value-else-register-preserved : goal.loop-value-else-register-preserved
loop-value-else-register-preserved g c =
    let l = c.loop-value-else-register in
    let n = with_via l.machine l.via in
    let r = c.args.register in
    let v = get_or c.args.values.now l.value-index 0 in
    let after = with_via (with_clock l.machine c.look.new.self) c.write-via-in-loop-value-else-register.result in
    let e : look after ≡ (step_of (look n) (WriteVia (for_ticks 0) r v)).machine =
    simp (c.look.ensures, c.write-via-in-loop-value-else-register.ensures, c.wires_of-before.ensures, c.wires_of-after.ensures, c.shown_line-line.ensures)
    (port-next n r v c.if-register.false) in
    record {
      phase = look-phase (look n) after r v l.invariant.phase e;
      left = write_next r c.args.values.now l.value-index (look n) c.loop-value-else-register-test.true _ e ∙ l.invariant.left;
    }

pub returns-after-loop-value : goal.returns-after-loop-value
unfolding watched_of
returns-after-loop-value g c =
    let l = c.loop-value in
    let m = c.args.machine.now in
    let r = c.args.register in
    let vs = c.args.values.now in
    let off : (strobe_levels m).lstrb ≡ false = sym c.is_on.ensures ∙ c.if-is_on.false in
    let h : 0 < length vs = omega (arith, eqb-false (length vs) 0 (sym c.is_empty.ensures ∙ c.if-is_empty.false)) in
    c.strobe.ensures ∙ sym (write_end r vs l.value-index (look (with_via m l.via)) c.loop-value-test.false) ∙ l.invariant.left
    ∙ looked-first m r vs h (λ v. dark-first m r v c.if-register.true off c.requires)

pub returns-after-loop-value-else-register : goal.returns-after-loop-value-else-register
returns-after-loop-value-else-register g c =
    let l = c.loop-value-else-register in
    let m = c.args.machine.now in
    let r = c.args.register in
    let vs = c.args.values.now in
    let h : 0 < length vs = omega (arith, eqb-false (length vs) 0 (sym c.is_empty.ensures ∙ c.if-is_empty.false)) in
    c.strobe-else-register.ensures ∙ sym (write_end r vs l.value-index (look (with_via l.machine l.via)) c.loop-value-else-register-test.false) ∙ l.invariant.left
    ∙ looked-first m r vs h (λ v. port-first m r v c.if-register.false)
