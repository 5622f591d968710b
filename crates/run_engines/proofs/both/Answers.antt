-- Both runs give what the contract of `run` says, and that does not speak of the look-up.
use Rattle.std.proofs.Common.{ℕ, List, ◌∙◌, sym, ap, length}
use Rattle.run_spec.specs.Outcome.{Out, run_of, ran_of, over}
use Rattle.run_spec.specs.declared.Ran.{Ran}
use Rattle.run_engines.proofs.both.Goals as goal

pub returns : goal.returns
returns c =
    let e = c.run_by-table.ensures in
    let f = c.run_by-patterns.ensures in
    let o : List ℕ → Out = λ d. run_of c.args.machine c.args.list.now (length d) in
    let r = e.ran ∙ ap (λ (d : List ℕ). ran_of (o d)) c.requires ∙ sym f.ran in
    record {
      state = e.machine_after ∙ ap (λ (d : List ℕ). (o d).machine) c.requires ∙ sym f.machine_after;
      stop = ap (λ (x : Ran). x.stop) r;
      consumed = ap (λ (x : Ran). x.consumed) r;
      written = ap (λ (x : Ran). x.written) r;
      answers = e.answers_after ∙ ap (λ (d : List ℕ). over (o d) d) c.requires ∙ sym f.answers_after;
    }
