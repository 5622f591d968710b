-- The clock chip's state and its step, by document 01, "The clock's wires", and W-206. Which chip it is stands in its store.
use Rattle.std.specs.Prelude.{cond, ℕ, ◌+◌, ◌*◌, eqb}
use Rattle.std.proofs.Math.Option.{Option, none}
use Rattle.clock_spec.specs.Command.{bit_number}
use Rattle.clock_spec.specs.Shared.{Event, Written}
use Rattle.clock_spec.specs.Store.{fresh_store, act, with_event}
use Rattle.clock_spec.specs.declared.Chip.{Chip}
use Rattle.clock_spec.specs.declared.Store.{Store}
use Rattle.clock_spec.specs.Phase.{between, hear, byte_phase, fall_phase, bit_phase, write_of}
use Rattle.clock_spec.specs.declared.Bytes.{Bytes}
use Rattle.clock_spec.specs.declared.Bytes.TheVariants.{Nothing}
use Rattle.clock_spec.specs.declared.Verdict.{Verdict}
use Rattle.clock_spec.specs.declared.Phase.{Phase}
use Rattle.clock_spec.specs.declared.Phase.TheVariants.{Idle, Listening, Sending, Ignoring}
use Rattle.clock_spec.specs.declared.Edge.{Edge}
use Rattle.clock_spec.specs.declared.Edge.TheVariants.{Up, Starts, Still, Fall, Rise}
use Rattle.clock_spec.specs.declared.Wires.{Wires}
use Rattle.clock.specs.declared.Clock.{Clock}

-- ---- the state, field by field

abbrev pub with_store : Clock → Store → Clock
with_store c x = record { phase = c.phase; store = x }

abbrev pub with_phase : Clock → Phase → Clock
with_phase c x = record { phase = x; store = c.store }

-- "Fresh: all zero, .. chip idle, protect clear."
abbrev pub fresh_clock : Chip → Clock
fresh_clock k = record { phase = Idle; store = fresh_store k }

-- ---- the phase

-- The phase after an edge; s is the store before it.
unfoldable pub next : Store → Phase → Edge → Phase
next s p Up = Idle
next s p Starts = Listening Nothing 0 0
next s p Still = p
next s Idle Fall = Idle
next s (Listening bs n v) Fall = Listening bs n v
next s (Sending y n) Fall = fall_phase y n
next s Ignoring Fall = Ignoring
next s Idle (Rise b) = Idle
next s (Listening bs n v) (Rise b) = bit_phase s bs n (2 * v + bit_number b)
next s (Sending y n) (Rise b) = Sending y n
next s Ignoring (Rise b) = Ignoring

-- ---- the store

-- "A legal write .. is complete, and acts, at the sixteenth rise", W-206: or "at the 24th": the write that is complete at this edge, if there is one.
unfoldable pub acts : Chip → Phase → Edge → Option Written
acts k p Up = none
acts k p Starts = none
acts k p Still = none
acts k p Fall = none
acts k Idle (Rise b) = none
acts k (Listening bs n v) (Rise b) = cond (eqb n 7) (write_of (hear k bs (2 * v + bit_number b)) (2 * v + bit_number b)) none
acts k (Sending y n) (Rise b) = none
acts k Ignoring (Rise b) = none

-- ---- one item: its event, then the levels before it and after it

unfoldable pub step_wires : Clock → Wires → Wires → Clock
step_wires c w w' =
    record {
      phase = next c.store c.phase (between w w');
      store = act (acts c.store.chip c.phase (between w w')) c.store;
    }

abbrev pub step_clock : Event → Clock → Wires → Wires → Clock
step_clock e c w w' = step_wires (with_store c (with_event e c.store)) w w'

-- The clock at the last bit of the byte b, with its verdict.
abbrev pub after_byte : Store → Bytes → ℕ → Verdict → Clock
after_byte s bs b v = record { phase = byte_phase s bs b v; store = act (write_of v b) s }

-- The clock after an edge.
unfoldable pub after_edge : Clock → Edge → Clock
after_edge c e = record { phase = next c.store c.phase e; store = act (acts c.store.chip c.phase e) c.store }
