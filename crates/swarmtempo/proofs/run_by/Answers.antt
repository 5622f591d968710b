use Rattle.std.proofs.Common.{sym, ap, ◌∙◌, true, false, length}
use Rattle.clock_spec.specs.Store.{unused_clear}
use Rattle.machine_spec.specs.declared.Machine.{Machine}
use Rattle.image_spec.specs.Image.{image_length}
use Rattle.image_spec.proofs.Round.{exact-is, inexact, exact-then, image-chip, image-clear}
use Rattle.run_spec.proofs.Users.{size-kept}
use Rattle.entry_spec.proofs.Entry as call
use Rattle.swarmtempo.proofs.run_by.Goals as goal

pub returns-then-not-exact : goal.returns-then-not-exact
returns-then-not-exact g c =
    let a = c.args in
    let p = call.refused a.image.now a.list.now a.answers.now (inexact a.image.now (sym c.exact.ensures ∙ c.if-not-exact.true)) in
    record {
      value = c.stop_number.ensures ∙ p.0;
      consumed_after = p.1.0;
      written_after = p.1.1.0;
      image_after = p.1.1.1.0;
      answers_after = p.1.1.1.1.0;
      validity_kept = p.1.1.1.1.1.0;
      state_reached = p.1.1.1.1.1.1.0;
      run3 = p.1.1.1.1.1.1.1;
    }

pub load-machine-requires : goal.load-machine-requires
load-machine-requires g c = (exact-is _ (sym c.exact.ensures ∙ c.if-not-exact.false)).long

pub accepted_cleared-requires : goal.accepted_cleared-requires
accepted_cleared-requires g c =
    let i = c.args.image.now in
    ap (λ (m : Machine). unused_clear m.clock.store) c.load-machine.ensures ∙ image-clear i (exact-is i (sym c.exact.ensures ∙ c.if-not-exact.false)).long

pub returns-then-not-accepted_cleared : goal.returns-then-not-accepted_cleared
returns-then-not-accepted_cleared g c =
    let a = c.args in
    let v =
    exact-then a.image.now c.load-machine.result false (sym c.exact.ensures ∙ c.if-not-exact.false) c.load-machine.ensures
    (sym c.accepted_cleared.ensures ∙ c.if-not-accepted_cleared.true) in
    let p = call.refused a.image.now a.list.now a.answers.now v in
    record {
      value = c.stop_number-then-not-accepted_cleared.ensures ∙ p.0;
      consumed_after = p.1.0;
      written_after = p.1.1.0;
      image_after = p.1.1.1.0;
      answers_after = p.1.1.1.1.0;
      validity_kept = p.1.1.1.1.1.0;
      state_reached = p.1.1.1.1.1.1.0;
      run3 = p.1.1.1.1.1.1.1;
    }

pub run_accepted-ran-requires : goal.run_accepted-ran-requires
run_accepted-ran-requires g c = sym c.accepted_cleared.ensures ∙ c.if-not-accepted_cleared.false

pub save-requires : goal.save-requires
save-requires g c =
    let a = c.args in
    (exact-is a.image.now (sym c.exact.ensures ∙ c.if-not-exact.false)).long
    ∙ ap image_length (sym (ap (λ (x : Machine). x.clock.store.chip) c.run_accepted-ran.ensures.machine_after
    ∙ size-kept c.load-machine.result a.list.now (length a.answers.now)
    ∙ ap (λ (x : Machine). x.clock.store.chip) c.load-machine.ensures
    ∙ image-chip a.image.now))

pub returns : goal.returns
returns g c =
    let a = c.args in
    let v =
    exact-then a.image.now c.load-machine.result true (sym c.exact.ensures ∙ c.if-not-exact.false) c.load-machine.ensures
    (sym c.accepted_cleared.ensures ∙ c.if-not-accepted_cleared.false) in
    let p =
    call.ran a.image.now a.list.now a.answers.now v c.load-machine.result c.run_accepted-ran.new.machine c.load-machine.ensures c.run_accepted-ran.ensures.machine_after c.run_accepted-ran.result c.run_accepted-ran.ensures.value
    c.run_accepted-ran.new.answers c.run_accepted-ran.ensures.answers_after c.save.new.image c.save.ensures.image_after c.save.ensures.given_back c.save.ensures.valid_after in
    record {
      value = c.stop_number-2.ensures ∙ p.0;
      consumed_after = p.1.0;
      written_after = p.1.1.0;
      image_after = p.1.1.1.0;
      answers_after = p.1.1.1.1.0;
      validity_kept = p.1.1.1.1.1.0;
      state_reached = p.1.1.1.1.1.1.0;
      run3 = p.1.1.1.1.1.1.1;
    }
