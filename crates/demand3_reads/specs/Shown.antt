-- What the chip shows on the data line, by document 01, "The clock's wires", and W-206, from the history of the wires alone: not from the chip's step, nor from
-- its phase. Every list has the newest first.
use Rattle.std.specs.Prelude.{Bool, true, cond, not, ◌&&◌, List, [], ◌∷◌, ℕ, ◌+◌, ◌-◌, ◌/◌, ◌%◌, ◌^◌, eqb, ltb, length, take, drop}
use Rattle.std.proofs.Math.Option.{Option, none, some}
use Rattle.clock_spec.specs.Command.{num}
use Rattle.clock_spec.specs.Patterns.{meant, extend}
use Rattle.clock_spec.specs.declared.Chip.{Chip}
use Rattle.clock_spec.specs.declared.Target.{Target}
use Rattle.clock_spec.specs.declared.Target.TheVariants.{Seconds, Test, Protect, Cell}
use Rattle.clock_spec.specs.declared.Command.{Command}
use Rattle.clock_spec.specs.declared.Command.TheVariants.{Write, Read, Extended, Illegal}
use Rattle.clock_spec.specs.declared.Phase.{Phase}
use Rattle.clock_spec.specs.declared.Phase.TheVariants.{Idle, Listening, Sending, Ignoring}
use Rattle.clock_spec.specs.declared.Wires.{Wires}
use Rattle.history.specs.History.{Start, History, together, is_rise, wires_at, rises, cell_at, test_at, seconds_at}

-- A fall is an entry with data-clock 0 directly after one with 1 in the same stretch.
abbrev pub is_fall : Wires → Wires → Bool
is_fall w w' = together w w' && (w.dataclock && not w'.dataclock)

-- What a legal read command reads.
abbrev pub read_by : Command → Option Target
read_by (Write t) = none
read_by (Read t) = some t
read_by (Extended z a) = none
read_by Illegal = none

-- "At the eighth rise: a legal read takes its byte at once": bs are the bits up to a rise. W-206: of a command of two bytes "a read takes its byte at the 16th".
abbrev pub whole_read : Chip → List Bool → Option Target
whole_read k bs =
    cond (eqb (length bs) 8) (read_by (meant k (num bs)))
    (cond (eqb (length bs) 16) (read_by (extend (meant k (num (drop 8 bs))) (num (take 8 bs)))) none)

abbrev pub whole_read_in : Chip → Option (List Bool) → Option Target
whole_read_in k none = none
whole_read_in k (some bs) = whole_read k bs

-- A read under way: the byte taken, and the falls since.
pub record Sent : Type 0 where
  pub byte : ℕ
  pub falls : ℕ

-- "The next eight falls show its bits 7 to 0; the line is undriven before the first and from the ninth": fall n shows bit 8 - n, and undriven is 1.
abbrev pub bit_shown : ℕ → ℕ → Bool
bit_shown y n = cond (eqb n 0) true (cond (ltb 8 n) true (eqb (y / 2 ^ (8 - n) % 2) 1))

abbrev pub shown_by : Option Sent → Bool
shown_by none = true
shown_by (some s) = bit_shown s.byte s.falls

abbrev pub fallen : Option Sent → Option Sent
fallen none = none
fallen (some s) = some (record { byte = s.byte; falls = s.falls + 1 })

-- After an entry of the stretch: the read that is whole there, if one is, takes its byte; else a fall counts.
abbrev pub sent_by : Option Target → (Target → ℕ) → Bool → Option Sent → Option Sent
sent_by none said fall o = cond fall (fallen o) o
sent_by (some t) said fall o = some (record { byte = said t; falls = 0 })

-- The read under way at the start, by the phase in the image (W-201).
abbrev pub sent_at_start : Phase → Option Sent
sent_at_start Idle = none
sent_at_start (Listening bs n v) = none
sent_at_start (Sending y n) = some (record { byte = y; falls = n })
sent_at_start Ignoring = none

-- S is what the machine starts from, first the read under way there.
module _ (S : Start) (first : Option Sent) where
  -- What the history says of a target at the newest entry: the last complete write to a cell that ended with protect clear, the seconds so counted.
  -- No legal command reads test or protect.
  abbrev pub said_at : History → Target → ℕ
  said_at h (Seconds k) = seconds_at S h / 256 ^ k % 256
  said_at h Test = test_at S h
  said_at h Protect = 0
  said_at h (Cell i) = cell_at S i h

  -- The legal read command that is whole at the newest entry, if one is.
  unfoldable pub read_at : History → Option Target
  read_at [] = none
  read_at (e ∷ h) = cond (is_rise (wires_at S h) e.wires) (whole_read_in S.chip (rises S (e ∷ h))) none

  -- The read under way in the stretch in which the newest entry stands, if there is one.
  unfoldable pub sent_at : History → Option Sent
  sent_at [] = first
  sent_at (e ∷ h) =
      cond (together (wires_at S h) e.wires) (sent_by (read_at (e ∷ h)) (said_at (e ∷ h)) (is_fall (wires_at S h) e.wires) (sent_at h)) none

  -- The level that the chip gives the data line after the newest entry.
  unfoldable pub shown_at : History → Bool
  shown_at h = shown_by (sent_at h)
