use Rattle.std.proofs.Common.{ℕ, ◌≡◌, Bool, true, cond, List, Option, Some, None, sym, ap, ◌∙◌}
use Rattle.capture_spec.specs.Capture.{retired_of}
use Rattle.capture_spec.proofs.Records.{retired-long}
use Rattle.capture_record.proofs.Judged.{chunk}
use Rattle.capture_record.proofs.retired.Goals as goal

pub returns-then-is_retired : goal.returns-then-is_retired
returns-then-is_retired c =
    let t : retired_of c.args.row.now ≡ true = sym c.is_retired.ensures ∙ c.if-is_retired.true in
    chunk c.first_chunk.result c.args.row.now (retired-long c.args.row.now t) c.first_chunk.ensures.cases
    ∙ ap (λ (b : Bool). cond {A = Option (List ℕ)} b (Some c.args.row.now) None) (sym t)
