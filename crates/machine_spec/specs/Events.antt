-- What SE and PW leave of the clock's seconds, by document 01 and W-204.
use Rattle.clock_spec.specs.Shared.{Event}
use Rattle.clock_spec.specs.Store.{with_event}
use Rattle.clock.specs.Step.{with_store}
use Rattle.machine_spec.specs.declared.Machine.{Machine}
use Rattle.machine_spec.specs.Machine.{with_clock}

-- SE and the time off reach the clock's seconds.
abbrev pub with_seconds_event : Event → Machine → Machine
with_seconds_event e m = with_clock m (with_store m.clock (with_event e m.clock.store))
