-- The history of the clock's wires, by document 01, "What demand 3 reads", and W-206: "a definition of its own", from the wire levels and the events
-- alone and not from the chip's step. S is what the machine starts from. Every list has the newest first.
use Rattle.std.specs.Prelude.{◌≡◌, Bool, true, false, cond, not, ◌&&◌, List, [], ◌∷◌, ◌++◌, ℕ, ◌+◌, eqb, length, take, drop, get_or}
use Rattle.std.proofs.Math.Option.{Option, none, some}
use Rattle.clock_spec.specs.Command.{num}
use Rattle.clock_spec.specs.Patterns.{meant, extend}
use Rattle.octets.specs.Octets.{replace}
use Rattle.clock_spec.specs.Shared.{Event, quiet, second, off, stops, wrap, Written, write_by, bit7}
use Rattle.clock_spec.specs.declared.Chip.{Chip}
use Rattle.clock_spec.specs.declared.Target.{Target}
use Rattle.clock_spec.specs.declared.Target.TheVariants.{Seconds, Test, Protect, Cell}
use Rattle.clock_spec.specs.declared.Wires.{Wires}

-- "It has an entry for the start and for each item answered: enable, data-clock and data after it, unchanged by a refused one."
-- The start's entry has with the wires what is known there. `begun` is the stretch that is open at the start: the bits of the rises already
-- taken, or none where the stretch "holds no complete write".
pub record Start : Type 0 where
  pub wires : Wires
  pub begun : Option (List Bool)
  pub chip : Chip
  pub cells : List ℕ
  pub seconds : ℕ
  pub protect : Bool
  pub test : ℕ

-- An item's entry: the wires after it, and whether it was an SE or a PW done.
pub record Entry : Type 0 where
  pub wires : Wires
  pub event : Event

-- The entries of the items, after the start's.
abbrev pub History : Type 0
History = List Entry

-- "A stretch is a longest series of entries in a row with enable 0": two entries in a row are in one stretch where enable is 0 at both.
abbrev pub together : Wires → Wires → Bool
together w w' = not w.enable && not w'.enable

-- "A rise is an entry with data-clock 1 directly after one with 0 in the same stretch."
abbrev pub is_rise : Wires → Wires → Bool
is_rise w w' = together w w' && (not w.dataclock && w'.dataclock)

-- "Its bit is its data": one more bit of the stretch.
abbrev pub push : Bool → Option (List Bool) → Option (List Bool)
push b none = none
push b (some bs) = some (b ∷ bs)

-- "Where the first eight bits of a stretch, high-order first, are a legal write command and it has at least sixteen rises, it holds a
-- complete write, of bits 9 to 16 to what the command names, ending at the sixteenth": bs are the bits up to a rise, and it is the sixteenth.
-- W-206: where the first sixteen are an extended write command, the write "is complete for demand 3, at the 24th rise and not before, its byte being bits 17 to 24".
abbrev pub complete : Chip → List Bool → Option Written
complete k bs =
    cond (eqb (length bs) 16) (write_by (meant k (num (drop 8 bs))) (num (take 8 bs)))
    (cond (eqb (length bs) 24) (write_by (extend (meant k (num (drop 16 bs))) (num (take 8 (drop 8 bs)))) (num (take 8 bs))) none)

abbrev pub complete_in : Chip → Option (List Bool) → Option Written
complete_in k none = none
complete_in k (some bs) = complete k bs

-- "Bit 7 as 1 sets protect, as 0 clears it": protect after a write, p before it.
abbrev pub protect_by : Option Written → Bool → Bool
protect_by none p = p
protect_by (some w) p = elim w.to [ Seconds k ↦ p | Test ↦ p | Protect ↦ bit7 w.byte | Cell i ↦ p ]

abbrev pub clears : Option Written → Bool
clears none = false
clears (some w) = elim w.to [ Seconds k ↦ false | Test ↦ false | Protect ↦ not (bit7 w.byte) | Cell i ↦ false ]

-- Whether two targets are one.
abbrev pub same_target : Target → Target → Bool
same_target (Seconds k) (Seconds j) = eqb k j
same_target (Seconds k) Test = false
same_target (Seconds k) Protect = false
same_target (Seconds k) (Cell j) = false
same_target Test (Seconds j) = false
same_target Test Test = true
same_target Test Protect = false
same_target Test (Cell j) = false
same_target Protect (Seconds j) = false
same_target Protect Test = false
same_target Protect Protect = true
same_target Protect (Cell j) = false
same_target (Cell i) (Seconds j) = false
same_target (Cell i) Test = false
same_target (Cell i) Protect = false
same_target (Cell i) (Cell j) = eqb i j

-- The byte of a write where it goes to t, else d.
abbrev pub byte_to : Target → Option Written → ℕ → ℕ
byte_to t none d = d
byte_to t (some w) d = cond (same_target t w.to) w.byte d

-- "An SE done adds 1 and a PW done its seconds off."
abbrev pub gain : Event → ℕ
gain quiet = 0
gain second = 1
gain (off n) = n

-- "A complete write to a seconds byte .. replaces that byte."
abbrev pub with_replaced : Option Written → ℕ → ℕ
with_replaced none s = s
with_replaced (some w) s = elim w.to [ Seconds k ↦ replace k w.byte s | Test ↦ s | Protect ↦ s | Cell i ↦ s ]

-- W-204: "counts only ticks and time off met with both bits clear".
abbrev pub gain_unless : Bool → Event → ℕ
gain_unless stopped e = cond stopped 0 (gain e)

module _ (S : Start) where
  -- The wires at the newest entry.
  unfoldable pub wires_at : History → Wires
  wires_at [] = S.wires
  wires_at (e ∷ h) = e.wires

  -- The bits of the rises so far of the stretch in which the newest entry stands.
  unfoldable pub rises : History → Option (List Bool)
  rises [] = S.begun
  rises (e ∷ h) =
      cond (together (wires_at h) e.wires)
      (cond (is_rise (wires_at h) e.wires) (push e.wires.dataline (rises h)) (rises h))
      (some [])

  -- The complete write that ends at the newest entry, if one does.
  unfoldable pub ending_at : History → Option Written
  ending_at [] = none
  ending_at (e ∷ h) = cond (is_rise (wires_at h) e.wires) (complete_in S.chip (rises (e ∷ h))) none

  -- "Protect before an entry is bit 7 of the last complete write to protect that ended earlier, or 0", or what it was at the start:
  -- before the entry e of e ∷ h it is protect_at h.
  unfoldable pub protect_at : History → Bool
  protect_at [] = S.protect
  protect_at (e ∷ h) = protect_by (ending_at (e ∷ h)) (protect_at h)

  -- "A write ends with protect clear if this is 0 before the entry where it ends": the one that ends so at the newest entry, if one does.
  unfoldable pub ending_clear : History → Option Written
  ending_clear [] = none
  ending_clear (e ∷ h) = cond (protect_at h) none (ending_at (e ∷ h))

  -- The byte of the last complete write to t that ended with protect clear, or d.
  unfoldable pub last : Target → ℕ → History → ℕ
  last t d [] = d
  last t d (e ∷ h) = byte_to t (ending_clear (e ∷ h)) (last t d h)

  abbrev pub cell_at : ℕ → History → ℕ
  cell_at i h = last (Cell i) (get_or S.cells i 0) h

  abbrev pub test_at : History → ℕ
  test_at h = last Test S.test h

  -- "Seconds: from 0, through the entries in order, an SE done adds 1 and a PW done its seconds off, modulo 4,294,967,296; a complete write
  -- to a seconds byte that ends there with protect clear replaces that byte." W-204: "the test byte being that of the last complete write to test that
  -- ended with protect clear, or 0", or the start's.
  unfoldable pub seconds_at : History → ℕ
  seconds_at [] = S.seconds
  seconds_at (e ∷ h) = with_replaced (ending_clear (e ∷ h)) (wrap (seconds_at h + gain_unless (stops (test_at h)) e.event))

  -- What the SE and PW done in the entries es after h add; the test byte is the one before each.
  unfoldable pub gain_since : History → List Entry → ℕ
  gain_since h [] = 0
  gain_since h (e ∷ es) = gain_since h es + gain_unless (stops (test_at (es ++ h))) e.event

  -- "No clearing write having ended since": in the entries es after h.
  abbrev pub Kept : History → List Entry → Type 0
  Kept h [] = Unit {0}
  Kept h (e ∷ es) = (clears (ending_at (e ∷ (es ++ h))) ≡ false) × Kept h es
