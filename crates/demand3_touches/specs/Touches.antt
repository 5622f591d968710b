-- Who can touch the clock: request W-208. "Two lists run from one state, which agree in the sequence of items carried out that write VIA registers 0 and 2,
-- reset, second ticks and power cuts, end with the same cells, seconds, protect, test and half-made command, whatever their waits and other items were."
use Rattle.std.specs.Prelude.{Result, Ok, Err, is_none}
use Rattle.refusal.specs.declared.Refusal.{Refusal}
use Rattle.std.specs.Prelude.{ℕ, ◌≡◌, cond, List, [], ◌∷◌, ◌++◌, eqb}
use Rattle.clock.specs.declared.Clock.{Clock}
use Rattle.item_spec.specs.declared.Item.{Item}
use Rattle.item_spec.specs.declared.Item.TheVariants.{ReadVia, ReadIwm, WriteVia, WriteIwm, Blank, Second, Line, Sense, Reset, Power, Disk, Pulse}
use Rattle.item_spec.specs.declared.Decoded.{Decoded}
use Rattle.item_spec.specs.declared.Decoded.TheVariants.{One}
use Rattle.item_spec.specs.Many.{singles_of}
use Rattle.item_spec.specs.Kinds.{decoded_of}
use Rattle.machine_spec.specs.declared.Machine.{Machine}
use Rattle.machine_spec.specs.Stages.{refuses_of}
use Rattle.run_spec.specs.Outcome.{Piece, whole, broken, run_of}
use Rattle.history.specs.Items.{state_after}
use Rattle.demand3.specs.Runs.{after_piece, answered_pieces}
use Rattle.image_spec.specs.Image.{machine_of}
use Rattle.entry_spec.specs.Call.{call_of}

-- One entry of the sequence. No wait stands in it.
pub data Touch : Type 0 where
  -- "Items that write VIA registers 0 and 2": a WR to port B's output bits or to its direction bits, with the value written.
  port_b : ℕ → Touch
  direction_b : ℕ → Touch
  -- "Reset, second ticks and power cuts": RS, SE, and PW with its seconds off.
  reset : Touch
  tick : Touch
  power_cut : ℕ → Touch

-- A WR to VIA register r.
abbrev pub writes : ℕ → ℕ → List Touch
writes r v = cond (eqb r 0) (port_b v ∷ []) (cond (eqb r 2) (direction_b v ∷ []) [])

-- The entries of an item, the newest first; w is its wait in VIA ticks. "Whatever their waits and other items were": no wait and no other item has one.
unfoldable pub touches_of : Item → List Touch
touches_of (ReadVia w r) = []
touches_of (ReadIwm w k) = []
touches_of (WriteVia w r v) = writes r v
touches_of (WriteIwm w k v) = []
touches_of (Blank w) = []
touches_of (Second w) = tick ∷ []
touches_of (Line w l v) = []
touches_of (Sense w d r v) = []
touches_of (Reset w) = reset ∷ []
touches_of (Power w s) = power_cut s ∷ []
touches_of (Disk w d i l b) = []
touches_of (Pulse w l) = []

-- The entries of items one after the other. W-211's MW counts as its single WR items.
unfoldable pub touches_of_items : List Item → List Touch
touches_of_items [] = []
touches_of_items (i ∷ is) = touches_of_items is ++ touches_of i

-- "Items carried out": a refused record has none, nor have bytes that are no record.
abbrev pub touches_by : Machine → List ℕ → Result Decoded Refusal → List Touch
touches_by m s (Ok (One x)) = cond (is_none (refuses_of m x)) (touches_of x) []
touches_by m s (Ok (Decoded.Many x)) = touches_of_items (singles_of x s)
touches_by m s (Err r) = []

abbrev pub touches_at : Piece → Machine → List Touch
touches_at (whole s) m = touches_by m s (decoded_of s)
touches_at broken m = []

-- The sequence of pieces of a list one after the other, the newest first.
unfoldable pub touches_of_pieces : Machine → List Piece → List Touch
touches_of_pieces m [] = []
touches_of_pieces m (p ∷ ps) = touches_at p (state_after after_piece m ps) ++ touches_of_pieces m ps

-- The sequence of a run of the list from the machine m with so many bytes of answer room: an item that finds no room is not carried out.
abbrev pub touches : Machine → List ℕ → ℕ → List Touch
touches m list room = touches_of_pieces m (answered_pieces list room)

-- "The same cells, seconds, protect, test and half-made command": the last is the chip's whole phase.
pub record SameClock (a b : Clock) : Type 0 where
  pub cells : a.store.cells ≡ b.store.cells
  pub seconds : a.store.seconds ≡ b.store.seconds
  pub protect : a.store.protect ≡ b.store.protect
  pub test : a.store.test ≡ b.store.test
  pub phase : a.phase ≡ b.phase

-- "Two lists run from one state, which agree in the sequence .., end with the same ..", whatever their answer rooms and whether and how the runs stop.
abbrev pub TouchedAlike : Machine → Type 0
TouchedAlike m =
    (a b : List ℕ) (room_a room_b : ℕ) → touches m a room_a ≡ touches m b room_b → SameClock (run_of m a room_a).machine.clock (run_of m b room_b).machine.clock

-- The same of two calls of the C entry with one image, valid or not; on refusal 7 the clock is as it was.
abbrev pub CalledAlike : List ℕ → Type 0
CalledAlike i =
    (a b : List ℕ) (room_a room_b : ℕ) → touches (machine_of i) a room_a ≡ touches (machine_of i) b room_b
    → SameClock (call_of i a room_a).machine.clock (call_of i b room_b).machine.clock

-- And of the states of the images left. By the entry's contract the image that a call left is that of the state reached: the two premises.
abbrev pub LeftAlike : List ℕ → Type 0
LeftAlike i =
    (a b left_a left_b : List ℕ) (room_a room_b : ℕ) → machine_of left_a ≡ (call_of i a room_a).machine → machine_of left_b ≡ (call_of i b room_b).machine
    → touches (machine_of i) a room_a ≡ touches (machine_of i) b room_b → SameClock (machine_of left_a).clock (machine_of left_b).clock
