use Rattle.capture_spec.specs.Capture.{capture_of}
use Rattle.capture.proofs.Passes.{Measured}
use Rattle.capture.proofs.measure.Given as goal

-- `written` bytes and `count` items were measured, and they fit the room
abbrev pub invariant-loop-row : goal.invariant-loop-row
invariant-loop-row l = record {
  can : (goal.iterator-loop-row).can_next l.row-iterator;
  finite : (goal.iterator-loop-row).is_finite l.row-iterator;
  measured : Measured l.list l.room (capture_of l.row-iterator.left.now) l.levels l.written l.count;
}
