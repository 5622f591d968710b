use Rattle.std.proofs.Common.{◌≡◌, sym, ◌∙◌}
use Rattle.std.proofs.lemmas.Result.{err_from_is_err_and}
use Rattle.sheet_spec.specs.Records.{sheet_of}
use Rattle.sheet_spec.specs.Counting.{version_of}
use Rattle.sheet_spec.proofs.Lead.{lead-first}
use Rattle.sheet.proofs.Best.{bytes_in, version-some, version-none, best-none, best-some, best-broken, best-yes, best-no}
use Rattle.sheet.proofs.find.Goals as goal
use Rattle.sheet.proofs.find.Goals.{in-Some-counting, in-None-counting}

pub loop-record-init : goal.loop-record-init
loop-record-init c = record {
  can = tt;
  finite = tt;
  best = rw (c.into_iter-record-iterator.ensures.into_iter_gives, c.new-record-items.ensures.sheet, c.new-record-items.ensures.front) (lead-first (sheet_of c.args.sheet.now) c.args.setting);
}

pub returns-in_err-record : goal.returns-in_err-record
returns-in_err-record c =
    let p = err_from_is_err_and c.from_residual.result c.from_residual.ensures.1 in
    rw (p.1, p.2)
    (best-broken (sheet_of c.args.sheet.now) c.args.setting c.loop-record.counting c.loop-record.record-iterator c.next.new.self c.in-Some.record c.in-Some.ensures.steps c.loop-record.invariant.best c.in_err-record.field-0.0 c.in_err-record.was)

pub loop-record-preserved-then-beats : goal.loop-record-preserved-then-beats
loop-record-preserved-then-beats c =
    let e : c.match-counting.version ≡ version_of (bytes_in c.loop-record.counting) = elim c.match-counting.branch [
      | in-Some-counting w ↦ version-some _ _ _ (w.version-is ∙ w.version-version.ensures) w.in-Some-counting.is
      | in-None-counting w ↦ version-none _ _ w.version-is w.in-None-counting.is
    ] in
    record {
      can = tt;
      finite = tt;
      best = best-yes (sheet_of c.args.sheet.now) c.args.setting c.loop-record.counting c.loop-record.record-iterator c.next.new.self c.in-Some.record c.in-Some.ensures.steps c.loop-record.invariant.best c.in_ok-record.record c.in_ok-record.was
          (rw (← e) (sym c.beats.ensures ∙ c.if-beats.true));
    }

pub loop-record-preserved : goal.loop-record-preserved
loop-record-preserved c =
    let e : c.match-counting.version ≡ version_of (bytes_in c.loop-record.counting) = elim c.match-counting.branch [
      | in-Some-counting w ↦ version-some _ _ _ (w.version-is ∙ w.version-version.ensures) w.in-Some-counting.is
      | in-None-counting w ↦ version-none _ _ w.version-is w.in-None-counting.is
    ] in
    record {
      can = tt;
      finite = tt;
      best = best-no (sheet_of c.args.sheet.now) c.args.setting c.loop-record.counting c.loop-record.record-iterator c.next.new.self c.in-Some.record c.in-Some.ensures.steps c.loop-record.invariant.best c.in_ok-record.record c.in_ok-record.was
          (rw (← e) (sym c.beats.ensures ∙ c.if-beats.false));
    }

pub returns-in_default : goal.returns-in_default
returns-in_default c = best-none (sheet_of c.args.sheet.now) c.loop-record.record-iterator.at c.args.setting c.loop-record.counting c.in_default.is (rw c.in-None.ensures.steps.0 at c.loop-record.invariant.best)

pub returns : goal.returns
returns c =
    best-some (sheet_of c.args.sheet.now) c.loop-record.record-iterator.at c.args.setting c.loop-record.counting c.in-Some-counting-2.record c.in-Some-counting-2.is
    (rw c.in-None.ensures.steps.0 at c.loop-record.invariant.best)
