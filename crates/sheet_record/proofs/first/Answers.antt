use Rattle.std.proofs.Common.{arith, sym}
use Rattle.std.proofs.lemmas.List.{length-take-le}
use Rattle.item_spec.proofs.RecordLaws.{whole-fits}
use Rattle.sheet_record.proofs.first.Goals as goal

pub overflow_sub-size : goal.overflow_sub-size
overflow_sub-size c = omega (arith, whole-fits c.args.bytes.now c.in_ok-size.size (sym c.in_ok-size.ensures))

pub slice_bounds-result-end : goal.slice_bounds-result-end
slice_bounds-result-end c = sym (length-take-le c.in_ok-size.size c.args.bytes.now (whole-fits c.args.bytes.now c.in_ok-size.size (sym c.in_ok-size.ensures)).1)
