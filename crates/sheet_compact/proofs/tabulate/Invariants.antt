use Rattle.sheet_record.specs.Walk.{left_of}
use Rattle.sheet_compact.proofs.Noting.{Noted}
use Rattle.sheet_compact.proofs.tabulate.Given as goal

abbrev pub invariant-loop-record : goal.invariant-loop-record
invariant-loop-record l = record {
  can : (goal.iterator-loop-record).can_next l.record-iterator;
  finite : (goal.iterator-loop-record).is_finite l.record-iterator;
  noted : Noted l.sheet (left_of l.record-iterator) l.record-iterator.at l.versions l.starts;
}
