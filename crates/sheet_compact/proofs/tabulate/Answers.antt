use Rattle.sheet_record.proofs.Given.{given-row, given-broken}
use Rattle.sheet_compact.proofs.Noting.{noted-first, noted-next, noted-end, noted-broken}
use Rattle.sheet_compact.proofs.tabulate.Goals as goal

pub loop-record-init : goal.loop-record-init
loop-record-init c = record {
  can = tt;
  finite = tt;
  noted = rw (c.into_iter-record-iterator.ensures.into_iter_gives, c.new-record-items.ensures.sheet, c.new-record-items.ensures.front) (noted-first c.args.sheet.now c.args.versions.now c.args.starts.now c.requires.versions c.requires.starts);
}

pub returns-in_default : goal.returns-in_default
returns-in_default c =
    let g = given-broken c.loop-record.record-iterator c.next.new.self c.in-Some.record c.in_default.field-0 c.in_default.is c.in-Some.ensures.steps in
    noted-broken c.args.sheet.now c.loop-record.record-iterator.at c.loop-record.versions c.loop-record.starts (rw g.0 at c.loop-record.invariant.noted)

pub loop-record-preserved : goal.loop-record-preserved
loop-record-preserved c =
    let g = given-row c.loop-record.record-iterator c.next.new.self c.in-Some.record c.in-Ok.record c.in-Ok.is c.in-Some.ensures.steps in
    record {
      can = tt;
      finite = tt;
      noted = noted-next c.args.sheet.now c.loop-record.record-iterator c.next.new.self c.in-Ok.record g c.loop-record.versions c.loop-record.starts c.loop-record.invariant.noted
          c.note.new.versions c.note.new.starts c.note.ensures.setting c.note.ensures.versions_after c.note.ensures.starts_after;
    }

pub returns : goal.returns
returns c = noted-end c.args.sheet.now c.loop-record.record-iterator.at c.loop-record.versions c.loop-record.starts (rw c.in-None.ensures.steps.0 at c.loop-record.invariant.noted)
