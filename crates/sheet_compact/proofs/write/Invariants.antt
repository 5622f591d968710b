use Rattle.octets.proofs.Writer.{Wrote}
use Rattle.sheet_spec.specs.Records.{sheet_of}
use Rattle.sheet_spec.specs.Compaction.{compact_of}
use Rattle.sheet_record.specs.Walk.{left_of}
use Rattle.sheet_compact.proofs.Leaves.{Pass, todo}
use Rattle.sheet_compact.proofs.write.Given as goal

abbrev pub invariant-loop-record : goal.invariant-loop-record
invariant-loop-record l = record {
  can : (goal.iterator-loop-record).can_next l.record-iterator;
  finite : (goal.iterator-loop-record).is_finite l.record-iterator;
  pass : Pass l.sheet (left_of l.record-iterator) l.record-iterator.at l.at;
  wrote : Wrote l.initial.out (compact_of l.sheet) l.out l.at (todo (sheet_of l.sheet) (left_of l.record-iterator));
}
