use Rattle.std.proofs.Common.{sym, ap, ◌∙◌, true, false}
use Rattle.std.proofs.lemmas.Result.{err_from_is_err_and}
use Rattle.clock_spec.specs.Store.{unused_clear}
use Rattle.machine_spec.specs.declared.Machine.{Machine}
use Rattle.image_spec.proofs.Round.{exact-is, inexact, exact-then, image-clear}
use Rattle.transaction_entry.proofs.Laws.{not-valid, none-asked, asked}
use Rattle.transaction_entry.proofs.answer.Goals as goal

pub returns-then-not-exact : goal.returns-then-not-exact
returns-then-not-exact c =
    let a = c.args in
    let p = not-valid a.image.now a.out.now (inexact a.image.now (sym c.exact.ensures ∙ c.if-not-exact.true)) a.request in
    record { value = p.0; out_after = p.1 }

pub load-machine-requires : goal.load-machine-requires
load-machine-requires c = (exact-is _ (sym c.exact.ensures ∙ c.if-not-exact.false)).long

pub accepted_cleared-requires : goal.accepted_cleared-requires
accepted_cleared-requires c =
    let i = c.args.image.now in
    ap (λ (m : Machine). unused_clear m.clock.store) c.load-machine.ensures ∙ image-clear i (exact-is i (sym c.exact.ensures ∙ c.if-not-exact.false)).long

pub returns-then-not-accepted_cleared : goal.returns-then-not-accepted_cleared
returns-then-not-accepted_cleared c =
    let a = c.args in
    let v =
    exact-then a.image.now c.load-machine.result false (sym c.exact.ensures ∙ c.if-not-exact.false) c.load-machine.ensures
    (sym c.accepted_cleared.ensures ∙ c.if-not-accepted_cleared.true) in
    let p = not-valid a.image.now a.out.now v a.request in
    record { value = p.0; out_after = p.1 }

pub returns-in_err-ask : goal.returns-in_err-ask
returns-in_err-ask c =
    let a = c.args in
    let v =
    exact-then a.image.now c.load-machine.result true (sym c.exact.ensures ∙ c.if-not-exact.false) c.load-machine.ensures
    (sym c.accepted_cleared.ensures ∙ c.if-not-accepted_cleared.false) in
    let p = none-asked a.image.now a.out.now v a.request c.in_err-ask.field-0.0 (sym c.ok_or.ensures.value ∙ c.in_err-ask.was) in
    let r = err_from_is_err_and c.from_residual.result c.from_residual.ensures.1 in
    record { value = rw (r.1, r.2) p.0; out_after = p.1 }

pub returns : goal.returns
returns c =
    let a = c.args in
    let v =
    exact-then a.image.now c.load-machine.result true (sym c.exact.ensures ∙ c.if-not-exact.false) c.load-machine.ensures
    (sym c.accepted_cleared.ensures ∙ c.if-not-accepted_cleared.false) in
    let w = c.write_transaction in
    let p =
    asked a.image.now a.out.now v a.request c.in_ok-ask.ask (sym c.ok_or.ensures.value ∙ c.in_ok-ask.was) c.load-machine.result c.load-machine.ensures w.result w.ensures.value w.new.out w.ensures.out_after in
    record { value = p.0; out_after = p.1 }
