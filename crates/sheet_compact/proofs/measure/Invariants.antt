use Rattle.std.proofs.Common.{◌≡◌}
use Rattle.sheet_record.specs.Walk.{left_of}
use Rattle.sheet_compact.proofs.Leaves.{Pass}
use Rattle.sheet_compact.proofs.measure.Given as goal

abbrev pub invariant-loop-record : goal.invariant-loop-record
invariant-loop-record l = record {
  can : (goal.iterator-loop-record).can_next l.record-iterator;
  finite : (goal.iterator-loop-record).is_finite l.record-iterator;
  same : l.record-iterator.sheet.now ≡ l.sheet;
  pass : Pass l.sheet (left_of l.record-iterator) l.record-iterator.at l.size;
}
