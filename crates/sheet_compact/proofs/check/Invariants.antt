use Rattle.std.proofs.Common.{◌≡◌}
use Rattle.sheet_spec.specs.Records.{sheet_of, is_broken}
use Rattle.sheet_record.specs.Walk.{left_of}
use Rattle.sheet_compact.proofs.check.Given as goal

abbrev pub invariant-loop-record : goal.invariant-loop-record
invariant-loop-record l = record {
  can : (goal.iterator-loop-record).can_next l.record-iterator;
  finite : (goal.iterator-loop-record).is_finite l.record-iterator;
  whole : is_broken (sheet_of l.sheet) ≡ is_broken (left_of l.record-iterator);
}
