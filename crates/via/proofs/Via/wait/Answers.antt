use Rattle.std.proofs.Common.{ℕ, sym, ap, ap₂, ◌∙◌, bit_or}
use Rattle.via.specs.Setters.{with_flags}
use Rattle.via.specs.Via.{with_counters, ticks}
use Rattle.via.proofs.Waits.{waits}
use Rattle.via.proofs.Via.wait.Goals as goal

pub returns : goal.returns
returns c =
    let v = c.args.self in
    ap₂ (λ (f g : ℕ). with_flags (with_counters v c.run-t1.result c.run-t2.result) (bit_or (bit_or v.flags f) g)) c.flag.ensures c.flag-2.ensures
    ∙ ap₂ (with_counters v) c.run-t1.ensures c.run-t2.ensures
    ∙ sym (waits c.ticks-n.result v)
    ∙ ap (λ (n : ℕ). ticks n v) c.ticks-n.ensures
