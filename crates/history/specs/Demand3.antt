-- Demand 3 of document 01, as a statement: the chip's store after a history against the history alone.
use Rattle.std.specs.Prelude.{◌≡◌, true, List, [], ◌∷◌, ◌++◌, ℕ, ◌+◌, ◌<◌, get_or}
use Rattle.clock_spec.specs.Command.{cells_of}
use Rattle.clock_spec.specs.Shared.{wrap}
use Rattle.clock.specs.Step.{step_clock}
use Rattle.clock_spec.specs.declared.Wires.{Wires}
use Rattle.clock_spec.specs.declared.Store.{Store}
use Rattle.clock.specs.declared.Clock.{Clock}
use Rattle.history.specs.History.{Start, Entry, History, wires_at, cell_at, test_at, protect_at, seconds_at, gain_since, Kept}
use Rattle.history.specs.Start.{start_of}

-- The chip after a history that starts with the chip c and the wires w: demand 2's step at each entry.
unfoldable pub clock_after : Clock → Wires → History → Clock
clock_after c w [] = c
clock_after c w (e ∷ h) = step_clock e.event (clock_after c w h) (wires_at (start_of c w) h) e.wires

abbrev pub store_after : Clock → Wires → History → Store
store_after c w h = (clock_after c w h).store

-- What a history from the start S says of a store s: each cell is the byte of the last complete write to it that ended with protect clear, or what it was at the
-- start; test likewise. Protect is bit 7 of the last complete write to it. The seconds are the history's.
pub record StoreIs (S : Start) (h : History) (s : Store) : Type 0 where
  pub cells : (i : ℕ) → i < cells_of S.chip → get_or s.cells i 0 ≡ cell_at S i h
  -- W-206: "chosen at the start".
  pub chip : s.chip ≡ S.chip
  pub seconds : s.seconds ≡ seconds_at S h
  pub protect : s.protect ≡ protect_at S h
  pub test : s.test ≡ test_at S h

-- "Under protect: from the start or an item, if protect is 1 after it, up to any later item, no clearing write having ended since, the cells
-- stay the same and the seconds grow by exactly what the SE and PW done since add, modulo 4,294,967,296": s is the store after h, s' after the entries es too.
abbrev pub UnderProtect : Start → History → List Entry → Store → Store → Type 0
UnderProtect S h es s s' = protect_at S h ≡ true → Kept S h es → (s'.cells ≡ s.cells) × (s'.seconds ≡ wrap (s.seconds + gain_since S h es))

-- Demand 3 of the chip c with the wires w.
pub record Demand3 (c : Clock) (w : Wires) (h : History) : Type 0 where
  pub store : StoreIs (start_of c w) h (store_after c w h)
  pub under_protect : (es : List Entry) → UnderProtect (start_of c w) h es (store_after c w h) (store_after c w (es ++ h))
