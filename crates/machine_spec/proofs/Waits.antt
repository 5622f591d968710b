-- A wait tick by tick.
use Prim.Native.Nat.{ℕ, ◌+◌}
use mathlib.Core.Path.{◌≡◌, ap₂}
use Rattle.via.specs.declared.Via.{Via}
use Rattle.via.proofs.Waits.{ticks-add}
use Rattle.disk_spec.specs.declared.Drives.{Drives}
use Rattle.disk_spec.proofs.DrivesLaws.{drives_ticks-add}
use Rattle.machine_spec.specs.declared.Machine.{Machine}
use Rattle.machine_spec.specs.Machine.{with_via, with_drives}
use Rattle.machine_spec.specs.Stages.{after_wait}

-- Waiting a and then b VIA ticks leaves the state that a + b leaves, for all whole numbers.
pub waits-add : (a b : ℕ) (m : Machine) → after_wait (a + b) m ≡ after_wait b (after_wait a m)
waits-add a b m =
    ap₂ (λ (v : Via) (d : Drives). with_drives (with_via m v) d) (ticks-add a b m.via) (drives_ticks-add a b m.drives)

-- W-202: "No answer and no state may differ from what document 01 gives tick by tick." A step is defined by `after_wait`, which passes the VIA ticks of an item one
-- after the other, and the code equals it for every list and every state: `step::step` is `step_of`, `run` is `run_of`.
pub tick-by-tick : (n : ℕ) (m : Machine) → after_wait (n + 1) m ≡ after_wait 1 (after_wait n m)
tick-by-tick n m = waits-add n 1 m
