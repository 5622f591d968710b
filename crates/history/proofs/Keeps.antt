-- The chip's step keeps a state accepted; and where the wires stay and nothing happens, as at a refused record, it changes nothing.
use mathlib.Core.Path.{◌≡◌}
use mathlib.Core.Bool.{true}
use mathlib.Core.List.{[], ◌∷◌}
use Prim.Native.Nat.{ℕ}
use Rattle.clock_spec.specs.Shared.{quiet}
use Rattle.clock_spec.specs.Store.{with_event}
use Rattle.clock_spec.specs.Phase.{accepted_phase}
use Rattle.clock.specs.Step.{with_store, step_clock}
use Rattle.clock_spec.specs.declared.Wires.{Wires}
use Rattle.clock.specs.declared.Clock.{Clock}
use Rattle.clock.proofs.Keep.{keeps-step, still}
use Rattle.history.specs.History.{Start, History, wires_at}
use Rattle.history.specs.Start.{start_of, Accepted}
use Rattle.history.specs.Demand3.{clock_after}
use Rattle.history.proofs.Holds.{cells_are, unused-are, small}

-- An accepted state stays one, after every history.
pub accepted-after : (c : Clock) (w : Wires) → Accepted c w → (h : History) → Accepted (clock_after c w h) (wires_at (start_of c w) h)
unfolding clock_after wires_at
accepted-after c w ok h = record { phase = go h; cells = cells_are c w ok h; unused = unused-are c w ok h; seconds = small c w ok h }
  where
    S : Start
    S = start_of c w

    go : (h : History) → accepted_phase (clock_after c w h).store.chip (clock_after c w h).phase (wires_at S h).enable ≡ true
    go [] = ok.phase
    go (e ∷ h) =
        let c' : Clock = clock_after c w h in
        keeps-step (with_store c' (with_event e.event c'.store)) (wires_at S h) e.wires (go h)

-- A refused record.
pub step-still : (c : Clock) (w : Wires) → Accepted c w → step_clock quiet c w w ≡ c
step-still c w ok = still c w ok.phase
