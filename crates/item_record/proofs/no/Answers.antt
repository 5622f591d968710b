use Rattle.std.proofs.Common.{ap, ◌∙◌}
use Rattle.item_record.specs.Refused.{no_bytes}
use Rattle.item_record.proofs.Laws.{no-answer}
use Rattle.item_record.proofs.no.Goals as goal

pub returns-clause-of_refusal : goal.returns-clause-of_refusal
unfolding no_bytes
returns-clause-of_refusal c r e = ap no_bytes e ∙ no-answer r
