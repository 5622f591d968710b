use Rattle.std.proofs.Common.{◌≡◌, drop}
use Rattle.machine_write.specs.Values.{moves_sel}
use Rattle.machine_write.proofs.moves_sel.Given as goal

-- the values that are left move SEL where all of them do
abbrev pub invariant-loop-value : goal.invariant-loop-value
invariant-loop-value l = moves_sel l.register (drop l.value-index l.values) l.ports l.sel ≡ moves_sel l.register l.values l.ports l.sel
