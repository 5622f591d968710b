-- Nothing can be left out of W-208's sequence: with one of the five kinds left out, or one of the three numbers, the theorem is false, with either chip.
use Prim.Native.Nat.{ℕ}
use mathlib.Core.Path.{◌≡◌, refl, sym, ap, ◌∙◌}
use mathlib.Core.List.{List, [], ◌∷◌, ◌++◌}
use native.Mathlib.Omega.{arith}
use lib.ListN.{get_or}
use Rattle.octets.specs.Octets.{le16_of, le32_of}
use Rattle.clock_spec.specs.declared.Chip.{Chip}
use Rattle.item_spec.specs.Record.{frame_of}
use Rattle.item_spec.specs.Addresses.{place_from, found_of}
use Rattle.item_spec.specs.Items.{write_record, plain_record, power_record}
use Rattle.item_spec.specs.Kinds.{is_kind, decoded_of}
use Rattle.machine_spec.specs.declared.Machine.{Machine}
use Rattle.machine_spec.specs.Machine.{fresh_machine}
use Rattle.machine_spec.specs.Stages.{refuses_of}
use Rattle.run_spec.specs.Outcome.{cut, pieces_from, run_of}
use Rattle.demand3.specs.Runs.{answered_after}
use Rattle.samples.specs.Lists.{wr, rs, se, sent}
use Rattle.demand3_touches.specs.Touches.{Touch, port_b, direction_b, reset, tick, power_cut, touches_of, touches_of_pieces, touches, SameClock}
use Rattle.demand3_touches.proofs.Examples.{power, almost, rise, cell, seconds, sequence, examples}

-- ---- a sequence that knows less

-- Each entry as f has it: none, itself, or one with another number.
abbrev blur : (Touch → List Touch) → List Touch → List Touch
blur f [] = []
blur f (t ∷ ts) = f t ++ blur f ts

-- The theorem over such a sequence.
abbrev pub AlikeBy : (Touch → List Touch) → Machine → Type 0
AlikeBy f m =
    (a b : List ℕ) (room_a room_b : ℕ) → blur f (touches m a room_a) ≡ blur f (touches m b room_b)
    → SameClock (run_of m a room_a).machine.clock (run_of m b room_b).machine.clock

-- ---- one kind left out

abbrev pub no_port_b : Touch → List Touch
no_port_b (port_b v) = []
no_port_b (direction_b v) = direction_b v ∷ []
no_port_b reset = reset ∷ []
no_port_b tick = tick ∷ []
no_port_b (power_cut s) = power_cut s ∷ []

abbrev pub no_direction_b : Touch → List Touch
no_direction_b (port_b v) = port_b v ∷ []
no_direction_b (direction_b v) = []
no_direction_b reset = reset ∷ []
no_direction_b tick = tick ∷ []
no_direction_b (power_cut s) = power_cut s ∷ []

abbrev pub no_reset : Touch → List Touch
no_reset (port_b v) = port_b v ∷ []
no_reset (direction_b v) = direction_b v ∷ []
no_reset reset = []
no_reset tick = tick ∷ []
no_reset (power_cut s) = power_cut s ∷ []

abbrev pub no_tick : Touch → List Touch
no_tick (port_b v) = port_b v ∷ []
no_tick (direction_b v) = direction_b v ∷ []
no_tick reset = reset ∷ []
no_tick tick = []
no_tick (power_cut s) = power_cut s ∷ []

abbrev pub no_power_cut : Touch → List Touch
no_power_cut (port_b v) = port_b v ∷ []
no_power_cut (direction_b v) = direction_b v ∷ []
no_power_cut reset = reset ∷ []
no_power_cut tick = tick ∷ []
no_power_cut (power_cut s) = []

-- ---- one number left out: the value written, the seconds off

abbrev pub no_port_b_value : Touch → List Touch
no_port_b_value (port_b v) = port_b 0 ∷ []
no_port_b_value (direction_b v) = direction_b v ∷ []
no_port_b_value reset = reset ∷ []
no_port_b_value tick = tick ∷ []
no_port_b_value (power_cut s) = power_cut s ∷ []

abbrev pub no_direction_b_value : Touch → List Touch
no_direction_b_value (port_b v) = port_b v ∷ []
no_direction_b_value (direction_b v) = direction_b 0 ∷ []
no_direction_b_value reset = reset ∷ []
no_direction_b_value tick = tick ∷ []
no_direction_b_value (power_cut s) = power_cut s ∷ []

abbrev pub no_seconds : Touch → List Touch
no_seconds (port_b v) = port_b v ∷ []
no_seconds (direction_b v) = direction_b v ∷ []
no_seconds reset = reset ∷ []
no_seconds tick = tick ∷ []
no_seconds (power_cut s) = power_cut 0 ∷ []

-- ---- two lists that agree in it and end apart

one-zero : ◌≡◌ {A = ℕ} 1 0 → ⊥
one-zero e = omega (arith, e)

by-cell : (f : Touch → List Touch) (k : Chip) (a b : List ℕ) → cell k a ≡ 1 → cell k b ≡ 0 → blur f (sequence k a) ≡ blur f (sequence k b)
    → AlikeBy f (fresh_machine k) → ⊥
by-cell f k a b x y q h = one-zero (sym x ∙ ap (λ (c : List ℕ). get_or c 0 0) (h a b 1000 1000 q).cells ∙ y)

by-seconds : (f : Touch → List Touch) (k : Chip) (a b : List ℕ) → seconds k a ≡ 1 → seconds k b ≡ 0 → blur f (sequence k a) ≡ blur f (sequence k b)
    → AlikeBy f (fresh_machine k) → ⊥
by-seconds f k a b x y q h = one-zero (sym x ∙ (h a b 1000 1000 q).seconds ∙ y)

pub record Tight (k : Chip) : Type 0 where
  pub port_b-needed : AlikeBy no_port_b (fresh_machine k) → ⊥
  pub direction_b-needed : AlikeBy no_direction_b (fresh_machine k) → ⊥
  pub reset-needed : AlikeBy no_reset (fresh_machine k) → ⊥
  pub tick-needed : AlikeBy no_tick (fresh_machine k) → ⊥
  pub power_cut-needed : AlikeBy no_power_cut (fresh_machine k) → ⊥
  pub port_b-value : AlikeBy no_port_b_value (fresh_machine k) → ⊥
  pub direction_b-value : AlikeBy no_direction_b_value (fresh_machine k) → ⊥
  pub seconds-off : AlikeBy no_seconds (fresh_machine k) → ⊥

pub tight : (k : Chip) → Tight k
unfolding le16_of le32_of frame_of place_from found_of write_record plain_record power_record is_kind decoded_of refuses_of cut pieces_from answered_after sent touches_of touches_of_pieces
tight k =
    let x = examples k in
    record {
      port_b-needed = by-cell no_port_b k (almost ++ rise 1) almost x.of_port_b.0 x.of_port_b.2 refl;
      direction_b-needed = by-cell no_direction_b k (almost ++ wr 0 2 4) almost x.of_direction_b.0 x.of_port_b.2 refl;
      reset-needed = by-cell no_reset k (almost ++ rise 1) (almost ++ rs ++ rise 1) x.of_reset.0 x.of_reset.1 refl;
      tick-needed = by-seconds no_tick k se [] x.of_tick.0 x.of_tick.1 refl;
      power_cut-needed = by-seconds no_power_cut k (power 0 1) [] x.of_power_cut.0 x.of_tick.1 refl;
      port_b-value = by-cell no_port_b_value k (almost ++ rise 1) (almost ++ rise 0) x.of_port_b.0 x.of_port_b.1 refl;
      direction_b-value = by-cell no_direction_b_value k (almost ++ wr 0 2 4) (almost ++ wr 0 2 5) x.of_direction_b.0 x.of_direction_b.1 refl;
      seconds-off = by-seconds no_seconds k (power 0 1) (power 0 0) x.of_power_cut.0 x.of_power_cut.1 refl;
    }
