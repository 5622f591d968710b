use Rattle.std.proofs.Common.{ℕ, ◌≡◌, ◌≤◌, length, sym, arith}
use Rattle.capture_spec.specs.Capture.{capture_of, row}
use Rattle.capture_spec.specs.Convert.{part_of}
use Rattle.capture_spec.proofs.Walk.{lone-fits}
use Rattle.capture_record.proofs.Given.{given-row, given-cut}
use Rattle.capture.proofs.Passes.{Measured, measured-first, measured-end, measured-cut, measured-long, measured-next}
use Rattle.capture.proofs.measure.Goals as goal

pub loop-row-init : goal.loop-row-init
loop-row-init c = record {
  can = tt;
  finite = tt;
  measured = rw (c.into_iter-row-iterator.ensures.into_iter_gives, c.new-row-items.ensures, c.first-levels.ensures) (measured-first c.args.list.now c.args.room);
}

pub returns-in_default : goal.returns-in_default
returns-in_default c =
    let g = given-cut c.loop-row.row-iterator c.next.new.self c.in-Some.row c.in_default.field-0 c.in_default.is c.in-Some.ensures.steps in
    measured-cut c.args.list.now c.args.room c.loop-row.levels c.loop-row.written c.loop-row.count c.loop-row.row-iterator.left.now (rw g.0 at c.loop-row.invariant.measured)

pub returns-then-room-written : goal.returns-then-room-written
returns-then-room-written c =
    let g = given-row c.loop-row.row-iterator c.next.new.self c.in-Some.row c.in-Ok.row c.in-Ok.is c.in-Some.ensures.steps in
    measured-long c.args.list.now c.args.room c.loop-row.levels c.loop-row.written c.loop-row.count c.in-Ok.row.now (capture_of c.next.new.self.left.now) (rw g at c.loop-row.invariant.measured)
    (rw (← c.size-size.ensures) c.if-room-written.true)

pub overflow_add-count : goal.overflow_add-count
overflow_add-count c =
    omega (arith, c.lone-count.ensures, lone-fits c.loop-row.levels c.in-Ok.row.now, c.size-size.ensures, c.if-room-written.false, c.loop-row.invariant.measured, c.ranges.room)

pub loop-row-preserved : goal.loop-row-preserved
loop-row-preserved c =
    let g = given-row c.loop-row.row-iterator c.next.new.self c.in-Some.row c.in-Ok.row c.in-Ok.is c.in-Some.ensures.steps in
    record {
      can = tt;
      finite = tt;
      measured = rw (c.size-size.ensures, c.lone-count.ensures, c.next-levels.ensures)
          (measured-next c.args.list.now c.args.room c.loop-row.levels c.loop-row.written c.loop-row.count c.in-Ok.row.now (capture_of c.next.new.self.left.now) (rw g at c.loop-row.invariant.measured)
          (rw (← c.size-size.ensures) c.if-room-written.false));
    }

pub returns : goal.returns
returns c = measured-end c.args.list.now c.args.room c.loop-row.levels c.loop-row.written c.loop-row.count (rw c.in-None.ensures.steps.0 at c.loop-row.invariant.measured)
