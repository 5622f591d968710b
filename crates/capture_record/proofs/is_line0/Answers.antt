use Rattle.std.proofs.Common.{sym, ◌∙◌, arith}
use Rattle.capture_record.proofs.Judged.{line-refused, line-ok, eight}
use Rattle.capture_record.proofs.is_line0.Goals as goal

pub returns-in_default-line_item : goal.returns-in_default-line_item
returns-in_default-line_item c = line-refused c.args.row.now c.line_item.result (sym c.is_line.ensures ∙ c.if-not-is_line.false) c.line_item.ensures c.in_default-line_item.field-0 c.in_default-line_item.is

pub bounds-row-6 : goal.bounds-row-6
bounds-row-6 c = let e = eight c.args.row.now c.line_item.result (sym c.is_line.ensures ∙ c.if-not-is_line.false) c.line_item.ensures c.in-Ok.field-0 c.in-Ok.is in omega arith

pub returns : goal.returns
returns c = line-ok c.args.row.now c.line_item.result (sym c.is_line.ensures ∙ c.if-not-is_line.false) c.line_item.ensures c.in-Ok.field-0 c.in-Ok.is
