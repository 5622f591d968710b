use Rattle.std.proofs.Common.{◌≡◌, drop}
use Rattle.machine_spec.specs.Machine.{with_via}
use Rattle.machine_spec.specs.Step.{after_items}
use Rattle.machine_write.specs.Values.{PhaseAccepted, writes_of}
use Rattle.machine_write.proofs.Writes.{look}
use Rattle.machine_write.proofs.write.Given as goal

-- the values that are left take the machine with this VIA, once the strobe has looked, to where all of them take the first one, looked at
abbrev pub invariant-loop-value : goal.invariant-loop-value
invariant-loop-value g l = record {
  phase : PhaseAccepted (with_via l.machine l.via);
  left : after_items (look (with_via l.machine l.via)) (writes_of l.register (drop l.value-index l.values)) ≡ after_items (look l.initial.machine) (writes_of l.register l.values);
}

abbrev pub invariant-loop-value-else-register : goal.invariant-loop-value-else-register
invariant-loop-value-else-register g l = record {
  phase : PhaseAccepted (with_via l.machine l.via);
  left : after_items (look (with_via l.machine l.via)) (writes_of l.register (drop l.value-index l.values)) ≡ after_items (look l.initial.machine) (writes_of l.register l.values);
}
