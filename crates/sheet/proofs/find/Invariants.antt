use Rattle.sheet_spec.specs.Records.{sheet_of}
use Rattle.sheet_record.specs.Walk.{left_of}
use Rattle.sheet.proofs.Best.{Best}
use Rattle.sheet.proofs.find.Given as goal

-- of the records taken so far `counting` counts
abbrev pub invariant-loop-record : goal.invariant-loop-record
invariant-loop-record l = record {
  can : (goal.iterator-loop-record).can_next l.record-iterator;
  finite : (goal.iterator-loop-record).is_finite l.record-iterator;
  best : Best (sheet_of l.sheet) (left_of l.record-iterator) l.record-iterator.at l.setting l.counting;
}
