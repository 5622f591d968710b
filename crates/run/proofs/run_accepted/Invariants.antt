-- What the machine and the buffer are at the head of the loop: `Head`, of the machine and the buffer handed in; and the run has not stopped.
use Rattle.std.proofs.Common.{◌≡◌, length, None}
use Rattle.run.proofs.Loop.{Head}
use Rattle.run.proofs.run_accepted.Given as goal

abbrev pub invariant-records : goal.invariant-records
invariant-records g l = record {
  head : Head l.list l.fn.answers l.fn.machine l.answers l.machine l.rest l.written;
  running : l.stop ≡ None;
}

abbrev pub decreases-records : goal.decreases-records
decreases-records g l = length l.rest
