use Rattle.std.proofs.Common.{sym, ap, ◌∙◌}
use Rattle.octets.proofs.Writer.{wrote-first, wrote-end, wrote-room, wrote-next}
use Rattle.sheet_spec.specs.Records.{sheet_of}
use Rattle.sheet_spec.specs.Compaction.{compact_of}
use Rattle.sheet_record.specs.Walk.{left_of}
use Rattle.sheet_record.proofs.Given.{given-row, given-broken}
use Rattle.sheet_compact.proofs.Leaves.{todo, todo-end, todo-broken, pass-first, pass-yes, pass-no, left-yes, left-no}
use Rattle.sheet_compact.proofs.write.Goals as goal

pub loop-record-init : goal.loop-record-init
unfolding compact_of
loop-record-init c = record {
  can = tt;
  finite = tt;
  pass = rw (c.into_iter-record-iterator.ensures.into_iter_gives, c.new-record-items.ensures.sheet, c.new-record-items.ensures.front) (pass-first c.args.sheet.now);
  wrote = rw (c.into_iter-record-iterator.ensures.into_iter_gives, c.new-record-items.ensures.sheet, c.new-record-items.ensures.front) (wrote-first c.args.out.now (compact_of c.args.sheet.now));
}

pub returns-in_default : goal.returns-in_default
returns-in_default c =
    let g = given-broken c.loop-record.record-iterator c.next.new.self c.in-Some.record c.in_default.field-0 c.in_default.is c.in-Some.ensures.steps in
    (wrote-end c.args.out.now (compact_of c.args.sheet.now) c.loop-record.out c.loop-record.at (todo (sheet_of c.args.sheet.now) (left_of c.loop-record.record-iterator)) c.loop-record.invariant.wrote
    (ap (todo (sheet_of c.args.sheet.now)) g.0 ∙ todo-broken (sheet_of c.args.sheet.now))).0

pub copy-requires : goal.copy-requires
copy-requires c =
    let g = given-row c.loop-record.record-iterator c.next.new.self c.in-Some.record c.in-Ok.record c.in-Ok.is c.in-Some.ensures.steps in
    wrote-room c.args.out.now (compact_of c.args.sheet.now) c.loop-record.out c.loop-record.at (todo (sheet_of c.args.sheet.now) (left_of c.loop-record.record-iterator)) c.loop-record.invariant.wrote
    c.in-Ok.record.bytes.now (todo (sheet_of c.args.sheet.now) (left_of c.next.new.self))
    (left-yes c.args.sheet.now c.loop-record.record-iterator c.next.new.self c.in-Ok.record g c.loop-record.at c.loop-record.invariant.pass c.args.starts.now c.requires.table c.counts.ensures.setting
    (sym c.counts.ensures.counts ∙ c.if-counts.true))
    c.requires.room

pub loop-record-preserved-then-counts : goal.loop-record-preserved-then-counts
loop-record-preserved-then-counts c =
    let g = given-row c.loop-record.record-iterator c.next.new.self c.in-Some.record c.in-Ok.record c.in-Ok.is c.in-Some.ensures.steps in
    record {
      can = tt;
      finite = tt;
      pass = pass-yes c.args.sheet.now c.loop-record.record-iterator c.next.new.self c.in-Ok.record g c.loop-record.at c.loop-record.invariant.pass c.args.starts.now c.requires.table c.counts.ensures.setting
          (sym c.counts.ensures.counts ∙ c.if-counts.true);
      wrote = wrote-next c.args.out.now (compact_of c.args.sheet.now) c.loop-record.out c.loop-record.at (todo (sheet_of c.args.sheet.now) (left_of c.loop-record.record-iterator)) c.loop-record.invariant.wrote
          c.in-Ok.record.bytes.now (todo (sheet_of c.args.sheet.now) (left_of c.next.new.self))
          (left-yes c.args.sheet.now c.loop-record.record-iterator c.next.new.self c.in-Ok.record g c.loop-record.at c.loop-record.invariant.pass c.args.starts.now c.requires.table c.counts.ensures.setting
          (sym c.counts.ensures.counts ∙ c.if-counts.true))
          c.requires.room c.copy.new.d c.copy.ensures;
    }

pub loop-record-preserved : goal.loop-record-preserved
loop-record-preserved c =
    let g = given-row c.loop-record.record-iterator c.next.new.self c.in-Some.record c.in-Ok.record c.in-Ok.is c.in-Some.ensures.steps in
    record {
      can = tt;
      finite = tt;
      pass = pass-no c.args.sheet.now c.loop-record.record-iterator c.next.new.self c.in-Ok.record g c.loop-record.at c.loop-record.invariant.pass c.args.starts.now c.requires.table c.counts.ensures.setting
          (sym c.counts.ensures.counts ∙ c.if-counts.false);
      wrote = rw
          (← left-no c.args.sheet.now c.loop-record.record-iterator c.next.new.self c.in-Ok.record g c.loop-record.at c.loop-record.invariant.pass c.args.starts.now c.requires.table c.counts.ensures.setting
          (sym c.counts.ensures.counts ∙ c.if-counts.false))
          c.loop-record.invariant.wrote;
    }

pub returns : goal.returns
returns c =
    (wrote-end c.args.out.now (compact_of c.args.sheet.now) c.loop-record.out c.loop-record.at (todo (sheet_of c.args.sheet.now) (left_of c.loop-record.record-iterator)) c.loop-record.invariant.wrote
    (ap (todo (sheet_of c.args.sheet.now)) c.in-None.ensures.steps.0 ∙ todo-end (sheet_of c.args.sheet.now))).0
