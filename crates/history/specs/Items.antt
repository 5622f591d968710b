-- Demand 3 of a machine that holds the chip: items carried out one after the other, "each other the state that the one before left", each with
-- its entries, the newest first; an item of document 01 has one.
use Rattle.std.specs.Prelude.{◌≡◌, List, [], ◌∷◌, ◌++◌}
use Rattle.clock_spec.specs.declared.Wires.{Wires}
use Rattle.clock.specs.declared.Clock.{Clock}
use Rattle.history.specs.History.{Start, Entry, History, wires_at}
use Rattle.history.specs.Start.{start_of, Accepted}
use Rattle.history.specs.Demand3.{clock_after, StoreIs, UnderProtect}

-- The state after some items met, the newest first.
unfoldable pub state_after : {M I : Type 0} (step : I → M → M) → M → List I → M
state_after step m [] = m
state_after step m (i ∷ is) = step i (state_after step m is)

module _ {M I : Type 0} (step : I → M → M) (trace : I → M → List Entry) where
  -- The entries of the items js after the items is.
  unfoldable pub entries_since : M → List I → List I → List Entry
  entries_since m is [] = []
  entries_since m is (j ∷ js) = trace j (state_after step m (js ++ is)) ++ entries_since m is js

  -- Their history: the entries from the start.
  unfoldable pub history_of : M → List I → History
  history_of m [] = []
  history_of m (i ∷ is) = trace i (state_after step m is) ++ history_of m is

-- What is asked of a machine: where the chip and its wires are accepted, an item acts on the chip as its entries do and leaves the wires of the
-- newest of them.
pub record FollowsEntries {M I : Type 0} (clock : M → Clock) (wires : M → Wires) (step : I → M → M) (trace : I → M → List Entry) : Type 0 where
  pub clock-is : (i : I) (m : M) → Accepted (clock m) (wires m) → clock (step i m) ≡ clock_after (clock m) (wires m) (trace i m)
  pub wires-are : (i : I) (m : M) → Accepted (clock m) (wires m) → wires (step i m) ≡ wires_at (start_of (clock m) (wires m)) (trace i m)

module _ {M I : Type 0} (clock : M → Clock) (wires : M → Wires) (step : I → M → M) (trace : I → M → List Entry) where
  abbrev pub start : M → Start
  start m = start_of (clock m) (wires m)

  abbrev pub after : M → List I → Clock
  after m is = clock (state_after step m is)

  -- Demand 3 of the machine m after the items is, by their history from what m starts with; under protect, up to any items js later.
  pub record Machine3 (m : M) (is : List I) : Type 0 where
    pub store : StoreIs (start m) (history_of step trace m is) (after m is).store
    pub under_protect : (js : List I) → UnderProtect (start m) (history_of step trace m is) (entries_since step trace m is js) (after m is).store (after m (js ++ is)).store
