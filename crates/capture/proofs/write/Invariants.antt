use Rattle.octets.proofs.Writer.{Wrote}
use Rattle.capture_spec.specs.Capture.{capture_of}
use Rattle.capture_spec.specs.Convert.{turned_from, turned_of}
use Rattle.capture.proofs.write.Given as goal

-- `at` bytes of the conversion are written, and the rest is still to write
abbrev pub invariant-loop-row : goal.invariant-loop-row
invariant-loop-row l = record {
  can : (goal.iterator-loop-row).can_next l.row-iterator;
  finite : (goal.iterator-loop-row).is_finite l.row-iterator;
  wrote : Wrote l.initial.out (turned_of l.list) l.out l.at (turned_from l.levels (capture_of l.row-iterator.left.now));
}
