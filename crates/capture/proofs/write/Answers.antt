use Rattle.std.proofs.Common.{sym, ap, ◌∙◌}
use Rattle.octets.proofs.Writer.{wrote-first, wrote-end, wrote-room, wrote-next}
use Rattle.capture_spec.specs.Capture.{capture_of}
use Rattle.capture_spec.specs.Levels.{next_of}
use Rattle.capture_spec.specs.Convert.{part_of, turned_from, turned_of}
use Rattle.capture_record.proofs.Given.{given-row, given-cut}
use Rattle.capture.proofs.Passes.{todo-end, todo-cut, todo-next, whole-todo}
use Rattle.capture.proofs.write.Goals as goal

pub loop-row-init : goal.loop-row-init
loop-row-init c = record {
  can = tt;
  finite = tt;
  wrote = rw (c.into_iter-row-iterator.ensures.into_iter_gives, c.new-row-items.ensures, c.first-levels.ensures, ← whole-todo c.args.list.now) (wrote-first c.args.out.now (turned_of c.args.list.now));
}

pub returns-in_default : goal.returns-in_default
returns-in_default c =
    let g = given-cut c.loop-row.row-iterator c.next.new.self c.in-Some.row c.in_default.field-0 c.in_default.is c.in-Some.ensures.steps in
    (wrote-end c.args.out.now (turned_of c.args.list.now) c.loop-row.out c.loop-row.at (turned_from c.loop-row.levels (capture_of c.loop-row.row-iterator.left.now)) c.loop-row.invariant.wrote (ap (turned_from c.loop-row.levels) g.0 ∙ todo-cut c.loop-row.levels c.loop-row.row-iterator.left.now)).0

pub put-requires : goal.put-requires
put-requires c =
    let g = given-row c.loop-row.row-iterator c.next.new.self c.in-Some.row c.in-Ok.row c.in-Ok.is c.in-Some.ensures.steps in
    wrote-room c.args.out.now (turned_of c.args.list.now) c.loop-row.out c.loop-row.at (turned_from c.loop-row.levels (capture_of c.loop-row.row-iterator.left.now)) c.loop-row.invariant.wrote (part_of c.loop-row.levels c.in-Ok.row.now) (turned_from (next_of c.loop-row.levels c.in-Ok.row.now) (capture_of c.next.new.self.left.now))
    (ap (turned_from c.loop-row.levels) g ∙ todo-next c.loop-row.levels c.in-Ok.row.now (capture_of c.next.new.self.left.now)) c.requires

pub loop-row-preserved : goal.loop-row-preserved
loop-row-preserved c =
    let g = given-row c.loop-row.row-iterator c.next.new.self c.in-Some.row c.in-Ok.row c.in-Ok.is c.in-Some.ensures.steps in
    record {
      can = tt;
      finite = tt;
      wrote = rw (c.size-size.ensures, c.next-levels.ensures)
          (wrote-next c.args.out.now (turned_of c.args.list.now) c.loop-row.out c.loop-row.at (turned_from c.loop-row.levels (capture_of c.loop-row.row-iterator.left.now)) c.loop-row.invariant.wrote (part_of c.loop-row.levels c.in-Ok.row.now) (turned_from (next_of c.loop-row.levels c.in-Ok.row.now) (capture_of c.next.new.self.left.now))
          (ap (turned_from c.loop-row.levels) g ∙ todo-next c.loop-row.levels c.in-Ok.row.now (capture_of c.next.new.self.left.now)) c.requires c.put.new.out c.put.ensures);
    }

pub returns : goal.returns
returns c = (wrote-end c.args.out.now (turned_of c.args.list.now) c.loop-row.out c.loop-row.at (turned_from c.loop-row.levels (capture_of c.loop-row.row-iterator.left.now)) c.loop-row.invariant.wrote (ap (turned_from c.loop-row.levels) c.in-None.ensures.steps.0 ∙ todo-end c.loop-row.levels)).0
