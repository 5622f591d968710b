-- What a bench reads in a run over a list of bytes: the wire in the machine handed back, and bit 0 of the answer to each RD of port B, by the history of the
-- items before it.
use Rattle.std.specs.Prelude.{Ok}
use Rattle.std.specs.Prelude.{◌≡◌, Bool, List, ◌∷◌, ◌++◌, ℕ, ◌+◌, ◌*◌, ◌≤◌, ◌<◌, length, get_or}
use Rattle.units.specs.declared.WaitTicks.{WaitTicks}
use Rattle.via_bits.specs.Bytes.{bit}
use Rattle.clock_spec.specs.Phase.{shown_level}
use Rattle.item_spec.specs.Record.{answer_value}
use Rattle.item_spec.specs.declared.Item.TheVariants.{ReadVia}
use Rattle.item_spec.specs.declared.Decoded.TheVariants.{One}
use Rattle.item_spec.specs.Kinds.{decoded_of}
use Rattle.machine_spec.specs.declared.Machine.{Machine}
use Rattle.machine_spec.specs.Pins.{pin}
use Rattle.machine_spec.specs.Machine.{wires}
use Rattle.machine_spec.specs.Step.{step_of}
use Rattle.run_spec.specs.Turn.{turn_of}
use Rattle.run_spec.specs.Outcome.{Piece, whole, Out}
use Rattle.history.specs.Items.{state_after}
use Rattle.demand3.specs.Runs.{after_piece, history_of_pieces, start_of_run, answered_pieces}
use Rattle.demand3_reads.specs.Shown.{sent_at_start, shown_at}

-- The machine after some pieces, the newest first, from the machine m.
abbrev pub machine_after_pieces : Machine → List Piece → Machine
machine_after_pieces m is = state_after after_piece m is

-- The level that the chip gives the data line after them, by their history.
abbrev pub shown_after_pieces : Machine → List Piece → Bool
shown_after_pieces m is = shown_at (start_of_run m) (sent_at_start m.clock.phase) (history_of_pieces m is)

-- PB0's level after them: "the output bit where its direction is 1. Otherwise it is the input", the clock's data line.
abbrev pub line_after_pieces : Machine → List Piece → Bool
line_after_pieces m is = pin (machine_after_pieces m is).via.ports.outb (machine_after_pieces m is).via.ports.dirb 1 (shown_after_pieces m is)

-- Of the machine m after the pieces is. Registers are bytes in the code: directions are below 256.
pub record Shows (m : Machine) (is : List Piece) : Type 0 where
  pub chip : shown_level (machine_after_pieces m is).clock.phase ≡ shown_after_pieces m is
  pub wire : (wires (machine_after_pieces m is)).dataline ≡ line_after_pieces m is
  -- A RD of register 0 there, after whatever wait, has it in bit 0; and the answer to its record.
  pub read : (w : WaitTicks) → (machine_after_pieces m is).via.ports.dirb < 256 → bit 0 (step_of (machine_after_pieces m is) (ReadVia w 0)).value ≡ line_after_pieces m is
  pub answer : (s : List ℕ) (w : WaitTicks) → decoded_of s ≡ Ok (One (ReadVia w 0)) → (machine_after_pieces m is).via.ports.dirb < 256
      → bit 0 (answer_value (turn_of (machine_after_pieces m is) s).answer) ≡ line_after_pieces m is

-- Of a run of the list from the machine m, with so much room, that comes out as o.
pub record RunShows (m : Machine) (list : List ℕ) (room : ℕ) (o : Out) : Type 0 where
  pub wire : (wires o.machine).dataline
      ≡ pin o.machine.via.ports.outb o.machine.via.ports.dirb 1 (shown_after_pieces m (answered_pieces list room))
  -- The pieces is, then p, then ls: the answer to p has eight bytes, after those of the answers before it.
  pub long : (ls is : List Piece) (p : Piece) → ls ++ (p ∷ is) ≡ answered_pieces list room → 8 * length is + 8 ≤ length o.answers
  -- The pieces is, then a RD of register 0, then ls: the fifth byte of its answer is the value read.
  pub reads : (ls is : List Piece) (s : List ℕ) (w : WaitTicks) → ls ++ (whole s ∷ is) ≡ answered_pieces list room → decoded_of s ≡ Ok (One (ReadVia w 0))
      → bit 0 (get_or o.answers (8 * length is + 4) 0) ≡ line_after_pieces m is
