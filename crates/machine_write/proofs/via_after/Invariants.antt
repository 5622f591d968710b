use Rattle.std.proofs.Common.{◌≡◌, drop}
use Rattle.machine_write.specs.Values.{via_after}
use Rattle.machine_write.proofs.via_after.Given as goal

-- the values that are left take the VIA to where all of them take the first one
abbrev pub invariant-loop-value : goal.invariant-loop-value
invariant-loop-value l = via_after l.register (drop l.value-index l.values) l.after ≡ via_after l.register l.values l.fn.via
