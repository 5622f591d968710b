use Rattle.std.proofs.Common.{Err, sym, ap, ◌∙◌}
use Rattle.capture_record.proofs.Judged.{sense-nine, sense-other, sense-ok}
use Rattle.capture_record.proofs.is_retired.Goals as goal

pub returns-in_default-sense_item : goal.returns-in_default-sense_item
returns-in_default-sense_item c = sense-ok c.args.row.now c.sense_item.result (sym c.is_sense.ensures ∙ c.if-not-is_sense.false) c.sense_item.ensures c.in_default-sense_item.field-0 c.in_default-sense_item.is

pub returns-in-RetiredRegister : goal.returns-in-RetiredRegister
returns-in-RetiredRegister c =
    sense-nine c.args.row.now c.sense_item.result (sym c.is_sense.ensures ∙ c.if-not-is_sense.false) c.sense_item.ensures (c.in-Err.is ∙ ap Err c.in-RetiredRegister.is)

pub returns-in_default-matches : goal.returns-in_default-matches
returns-in_default-matches c =
    sense-other c.args.row.now c.sense_item.result (sym c.is_sense.ensures ∙ c.if-not-is_sense.false) c.sense_item.ensures c.in-Err.refusal c.in-Err.is c.in_default-matches.not-RetiredRegister
