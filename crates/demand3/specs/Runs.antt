-- Demand 3 of a run over a list of bytes: "every list of bytes, every answer room".
use Rattle.std.specs.Prelude.{Result, Ok, Err, is_none}
use Rattle.refusal.specs.declared.Refusal.{Refusal}
use Rattle.std.specs.Prelude.{◌≡◌, cond, List, [], ◌∷◌, ◌++◌, ℕ, ◌-◌, ltb}
use Rattle.clock_spec.specs.Shared.{Event, quiet}
use Rattle.clock.specs.declared.Clock.{Clock}
use Rattle.item_spec.specs.declared.Item.{Item}
use Rattle.item_spec.specs.declared.Decoded.{Decoded}
use Rattle.item_spec.specs.declared.Decoded.TheVariants.{One}
use Rattle.item_spec.specs.Many.{singles_of}
use Rattle.item_spec.specs.Kinds.{decoded_of}
use Rattle.machine_spec.specs.declared.Machine.{Machine}
use Rattle.machine_spec.specs.Machine.{wires}
use Rattle.machine_spec.specs.Action.{event_of}
use Rattle.machine_spec.specs.Stages.{refuses_of}
use Rattle.machine_spec.specs.Step.{after_item}
use Rattle.run_spec.specs.Turn.{turn_by, turn_of}
use Rattle.run_spec.specs.Outcome.{Piece, whole, broken, pieces}
use Rattle.history.specs.History.{Start, Entry, History}
use Rattle.history.specs.Start.{start_of}
use Rattle.history.specs.Demand3.{StoreIs, UnderProtect}
use Rattle.history.specs.Items.{state_after, history_of, entries_since}

-- The state after one piece of the list: a record, done or refused; bytes that are no record, refused with 1, which leave it as it is.
abbrev pub after_piece : Piece → Machine → Machine
after_piece (whole s) m = (turn_of m s).machine
after_piece broken m = m

-- "Enable, data-clock and data after it", and its event: n is the machine after it.
abbrev pub entry_of : Machine → Event → Entry
entry_of n e = record { wires = wires n; event = e }

-- "An SE done adds 1 and a PW done its seconds off": an item that the state refuses has no event.
abbrev pub event_unless : Machine → Item → Event
event_unless m x = cond (is_none (refuses_of m x)) (event_of x) quiet

-- The entries of items done one after the other, the newest first.
unfoldable pub entries_of_items : Machine → List Item → List Entry
entries_of_items m [] = []
entries_of_items m (i ∷ is) = entries_of_items (after_item m i) is ++ (entry_of (after_item m i) (event_of i) ∷ [])

-- "An entry .. for each item answered", "unchanged by a refused one". W-211: "Each value counts as an item where the wires are compared, and their history has
-- an entry for each."
abbrev pub entries_by : Machine → List ℕ → Result Decoded Refusal → List Entry
entries_by m s (Ok (One x)) = entry_of (turn_by m s (Ok (One x))).machine (event_unless m x) ∷ []
entries_by m s (Ok (Decoded.Many x)) = entries_of_items m (singles_of x s)
entries_by m s (Err r) = entry_of m quiet ∷ []

abbrev pub trace_of : Piece → Machine → List Entry
trace_of (whole s) m = entries_by m s (decoded_of s)
trace_of broken m = entry_of m quiet ∷ []

-- The pieces answered, the newest first, after those before, as far as the run goes. Bytes refused with 1 are answered: they have an entry, which
-- changes nothing, and are the last. The item at which the run stops with 6 is not answered and has none.
unfoldable pub answered_after : List Piece → List Piece → ℕ → List Piece
answered_after before [] room = before
answered_after before (broken ∷ ps) room = cond (ltb room 8) before (broken ∷ before)
answered_after before (whole s ∷ ps) room = cond (ltb room 8) before (answered_after (whole s ∷ before) ps (room - 8))

abbrev pub answered_pieces : List ℕ → ℕ → List Piece
answered_pieces list room = answered_after [] (pieces list) room

-- The clock after some pieces, from the machine m; their history; the entries of later ones.
abbrev pub clock_after_pieces : Machine → List Piece → Clock
clock_after_pieces m is = (state_after after_piece m is).clock

abbrev pub history_of_pieces : Machine → List Piece → History
history_of_pieces m is = history_of after_piece trace_of m is

abbrev pub entries_of_pieces : Machine → List Piece → List Piece → List Entry
entries_of_pieces m is js = entries_since after_piece trace_of m is js

abbrev pub start_of_run : Machine → Start
start_of_run m = start_of m.clock (wires m)

-- Demand 3 of a run of the list from the machine m, with so much room, that hands back the machine r.
pub record Run3 (m : Machine) (list : List ℕ) (room : ℕ) (r : Machine) : Type 0 where
  -- What is handed back is the state after the pieces answered.
  pub reached : r ≡ state_after after_piece m (answered_pieces list room)
  pub store : StoreIs (start_of_run m) (history_of_pieces m (answered_pieces list room)) r.clock.store
  -- "From the start or an item", after the items is, "up to any later item", after js too; ls are those after it. W-211: ""After any item" now means after the
  -- whole MW": a piece is a whole record, and a clearing write within one ends it.
  pub under_protect : (is js ls : List Piece) → ls ++ (js ++ is) ≡ answered_pieces list room
      → UnderProtect (start_of_run m) (history_of_pieces m is) (entries_of_pieces m is js) (clock_after_pieces m is).store (clock_after_pieces m (js ++ is)).store
