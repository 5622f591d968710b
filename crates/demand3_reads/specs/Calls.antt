-- What a bench reads in a call of the C entry, by the history from the image's state.
use Rattle.std.specs.Prelude.{Ok}
use Rattle.std.specs.Prelude.{◌≡◌, false, List, ◌∷◌, ◌++◌, ℕ, ◌+◌, ◌*◌, ◌≤◌, length, get_or}
use Rattle.units.specs.declared.WaitTicks.{WaitTicks}
use Rattle.via_bits.specs.Bytes.{bit}
use Rattle.item_spec.specs.declared.Item.TheVariants.{ReadVia}
use Rattle.item_spec.specs.declared.Decoded.TheVariants.{One}
use Rattle.item_spec.specs.Kinds.{decoded_of}
use Rattle.machine_spec.specs.Pins.{pin}
use Rattle.machine_spec.specs.Machine.{wires}
use Rattle.run_spec.specs.Outcome.{Piece, whole}
use Rattle.image_spec.specs.Image.{machine_of}
use Rattle.entry_spec.specs.Call.{call_answers}
use Rattle.demand3.specs.Runs.{answered_pieces}
use Rattle.demand3_reads.specs.Runs.{machine_after_pieces, shown_after_pieces, line_after_pieces}

-- Of a call with the image i, the list l and the answer memory d. i' is the image that it leaves.
pub record CallShows (i l d i' : List ℕ) : Type 0 where
  -- The data wire in the image left.
  pub wire : (wires (machine_of i')).dataline
      ≡ pin (machine_of i').via.ports.outb (machine_of i').via.ports.dirb 1 (shown_after_pieces (machine_of i) (answered_pieces l (length d)))
  -- The answer to the piece p, after those to the pieces is, stands in the memory.
  pub long : (ls is : List Piece) (p : Piece) → ls ++ (p ∷ is) ≡ answered_pieces l (length d) → 8 * length is + 8 ≤ length d
  -- A RD of register 0 after the pieces is: bit 0 of its answer's fifth byte is PB0's level.
  pub reads : (ls is : List Piece) (s : List ℕ) (w : WaitTicks) → ls ++ (whole s ∷ is) ≡ answered_pieces l (length d) → decoded_of s ≡ Ok (One (ReadVia w 0))
      → bit 0 (get_or (call_answers i l d) (8 * length is + 4) 0) ≡ line_after_pieces (machine_of i) is
  -- And with PB0 an input it is the level that the chip gives the line, by the history of the pieces is.
  pub input : (ls is : List Piece) (s : List ℕ) (w : WaitTicks) → ls ++ (whole s ∷ is) ≡ answered_pieces l (length d) → decoded_of s ≡ Ok (One (ReadVia w 0))
      → bit 0 (machine_after_pieces (machine_of i) is).via.ports.dirb ≡ false
      → bit 0 (get_or (call_answers i l d) (8 * length is + 4) 0) ≡ shown_after_pieces (machine_of i) is
