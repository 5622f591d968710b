use Rattle.std.proofs.Common.{ℕ, ◌+◌, List, length, sym, ap, ◌∙◌, arith}
use Rattle.octets.specs.Octets.{put_at}
use Rattle.octets.proofs.Laws.{put-length}
use Rattle.capture_spec.specs.Convert.{line_for}
use Rattle.capture_part.proofs.Cases.{least, eighteen, alone, other, put-pair}
use Rattle.capture_part.proofs.put.Goals as goal

pub copy-requires : goal.copy-requires
copy-requires c = omega (arith, least c.args.levels c.in-Some.sense.now c.args.row.now c.in-Some.ensures, c.requires)

pub copy-requires-then-changes : goal.copy-requires-then-changes
copy-requires-then-changes c = omega (arith, least c.args.levels c.in-Some.sense.now c.args.row.now c.in-Some.ensures, eighteen c.args.levels c.in-Some.sense.now c.args.row.now c.in-Some.ensures (sym c.changes.ensures ∙ c.if-changes.true), c.requires, ap length c.copy.ensures, put-length c.args.out.now c.args.at c.line.result (omega (arith, least c.args.levels c.in-Some.sense.now c.args.row.now c.in-Some.ensures, c.requires)))

pub copy-requires-in-None : goal.copy-requires-in-None
copy-requires-in-None c = omega (arith, c.requires, ap length (other c.args.levels c.args.row.now c.in-None.ensures))

pub returns-then-changes : goal.returns-then-changes
returns-then-changes c =
    c.copy-then-changes.ensures
    ∙ ap (λ (t : List ℕ). put_at t (c.args.at + 8) c.disk.result) (c.copy.ensures ∙ ap (put_at c.args.out.now c.args.at) c.line.ensures)
    ∙ ap (put_at (put_at c.args.out.now c.args.at (line_for c.args.levels c.in-Some.sense.now)) (c.args.at + 8)) c.disk.ensures
    ∙ put-pair c.args.out.now c.args.at c.args.levels c.in-Some.sense.now c.args.row.now c.in-Some.ensures (sym c.changes.ensures ∙ c.if-changes.true) c.requires

pub returns-else-changes : goal.returns-else-changes
returns-else-changes c = c.copy.ensures ∙ ap (put_at c.args.out.now c.args.at) (c.line.ensures ∙ sym (alone c.args.levels c.in-Some.sense.now c.args.row.now c.in-Some.ensures (sym c.changes.ensures ∙ c.if-changes.false)))

pub returns-in-None : goal.returns-in-None
returns-in-None c = c.copy-in-None.ensures ∙ ap (put_at c.args.out.now c.args.at) (sym (other c.args.levels c.args.row.now c.in-None.ensures))
