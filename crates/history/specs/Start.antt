-- What a history starts from, by the chip's state and the wires there (W-201); the fresh machine is one such start.
use Rattle.std.specs.Prelude.{◌≡◌, Bool, true, List, [], ◌∷◌, ◌++◌, ℕ, zero, suc, ◌/◌, ◌%◌, ◌^◌, ◌<◌, eqb, length}
use Rattle.std.proofs.Math.Option.{Option, none, some}
use Rattle.clock_spec.specs.Store.{unused_clear}
use Rattle.clock_spec.specs.Phase.{accepted_phase}
use Rattle.clock.specs.Step.{fresh_clock}
use Rattle.clock_spec.specs.declared.Chip.{Chip}
use Rattle.clock_spec.specs.declared.Bytes.{Bytes}
use Rattle.clock_spec.specs.declared.Bytes.TheVariants.{Nothing, One, Two}
use Rattle.clock_spec.specs.declared.Phase.{Phase}
use Rattle.clock_spec.specs.declared.Phase.TheVariants.{Idle, Listening, Sending, Ignoring}
use Rattle.clock_spec.specs.declared.Wires.{Wires}
use Rattle.clock.specs.declared.Clock.{Clock}
use Rattle.history.specs.History.{Start}

-- The n bits of a number, the lowest and newest first.
abbrev pub bits_newest_first : ℕ → ℕ → List Bool
bits_newest_first zero v = []
bits_newest_first (suc n) v = eqb (v % 2) 1 ∷ bits_newest_first n (v / 2)

-- The bits of whole bytes.
abbrev pub bits_of_bytes : Bytes → List Bool
bits_of_bytes Nothing = []
bits_of_bytes (One c) = bits_newest_first 8 c
bits_of_bytes (Two c d) = bits_newest_first 8 d ++ bits_newest_first 8 c

-- "A stretch open in the image begins with the rises and bits already taken, and holds no complete write where the chip sends or ignores."
abbrev pub begun_by : Phase → Option (List Bool)
begun_by Idle = some []
begun_by (Listening bs n v) = some (bits_newest_first n v ++ bits_of_bytes bs)
begun_by (Sending y n) = none
begun_by Ignoring = none

-- "From the cells, seconds, protect, wires and half-made command in the image, instead of from fresh."
abbrev pub start_of : Clock → Wires → Start
start_of c w = record {
  wires = w;
  begun = begun_by c.phase;
  chip = c.store.chip;
  cells = c.store.cells;
  seconds = c.store.seconds;
  protect = c.store.protect;
  test = c.store.test;
}

-- What an accepted state says of the chip and its wires.
pub record Accepted (c : Clock) (w : Wires) : Type 0 where
  pub phase : accepted_phase c.store.chip c.phase w.enable ≡ true
  pub cells : length c.store.cells ≡ 256
  pub unused : unused_clear c.store ≡ true
  pub seconds : c.store.seconds < 2 ^ 32

-- The fresh machine: "undriven lines are 1".
abbrev pub undriven : Wires
undriven = record { enable = true; dataclock = true; dataline = true }

abbrev pub fresh_start : Chip → Start
fresh_start k = start_of (fresh_clock k) undriven
