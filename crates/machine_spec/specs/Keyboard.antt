-- W-210 on the machine: KC items, each after its wait in VIA ticks, are pulses of the VIA's shift register and touch nothing else.
use Rattle.std.specs.Prelude.{ℕ, ◌/◌, ◌%◌, ◌<◌, ◌≡◌, true, List, [], ◌∷◌, length}
use Rattle.units.specs.Units.{for_ticks}
use Rattle.units.specs.declared.WaitTicks.{WaitTicks}
use Rattle.via.specs.Setters.{with_sr}
use Rattle.via.specs.EightPulses.{bits_of, total, flagged}
use Rattle.item_spec.specs.declared.Item.{Item}
use Rattle.item_spec.specs.declared.Item.TheVariants.{Pulse}
use Rattle.machine_spec.specs.declared.Machine.{Machine}
use Rattle.machine_spec.specs.Machine.{accepted_of}
use Rattle.machine_spec.specs.Accesses.{keyboard_pulse}
use Rattle.machine_spec.specs.Stages.{after_wait}
use Rattle.machine_spec.specs.Step.{step_of, after_items}

-- KC items with these waits, in VIA ticks, and levels.
unfoldable pub pulse_items : List ℕ → List ℕ → List Item
pulse_items (w ∷ ws) (l ∷ ls) = Pulse (for_ticks w) l ∷ pulse_items ws ls
pulse_items (w ∷ ws) [] = []
pulse_items [] ls = []

-- The values of the items' answers, the first done first.
unfoldable pub values_of : Machine → List Item → List ℕ
values_of m [] = []
values_of m (i ∷ is) = (step_of m i).value ∷ values_of (step_of m i).machine is

pub record Keyboard (m : Machine) : Type 0 where
  -- A KC is its wait and its pulse: the clock and the drives see no line move.
  pub alone : (w : WaitTicks) (level : ℕ) → accepted_of m ≡ true → step_of m (Pulse w level) ≡ keyboard_pulse level (after_wait w.0 m)
  -- Eight KC in, from a count of 0, with the bits of a byte as levels, high-order first: register 10 holds the byte and flag 2 is set.
  pub byte_in : (ws : List ℕ) (x : ℕ) → length ws ≡ 8 → m.via.pulses ≡ 0 → m.via.acr / 4 % 8 ≡ 3 → x < 256
      → ((after_items m (pulse_items ws (bits_of x))).via ≡ with_sr (flagged (total ws) m.via) x) × (values_of m (pulse_items ws (bits_of x)) ≡ 0 ∷ 0 ∷ 0 ∷ 0 ∷ 0 ∷ 0 ∷ 0 ∷ 0 ∷ [])
  -- Eight KC out, whatever their levels: the answers' values are the bits of register 10, high-order first; it is as it was, and flag 2 is set.
  pub byte_out : (ws ls : List ℕ) → length ws ≡ 8 → length ls ≡ 8 → m.via.pulses ≡ 0 → m.via.acr / 4 % 8 ≡ 7 → m.via.sr < 256
      → ((after_items m (pulse_items ws ls)).via ≡ flagged (total ws) m.via) × (values_of m (pulse_items ws ls) ≡ bits_of m.via.sr)
