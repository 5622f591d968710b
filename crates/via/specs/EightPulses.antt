-- W-210's eight pulses of the keyboard's clock: what register 10, flag 2 and the answers' values are after them.
use Rattle.std.specs.Prelude.{ℕ, ◌+◌, ◌/◌, ◌%◌, ◌<◌, ◌≡◌, true, List, [], ◌∷◌, length}
use Rattle.std.specs.Int.Bits.{bit_or}
use Rattle.via_bits.specs.Bytes.{bit}
use Rattle.via.specs.Setters.{with_sr, with_flags}
use Rattle.via.specs.Via.{ticks}
use Rattle.via.specs.Shift.{pulse_of}
use Rattle.via.specs.declared.Via.{Via}

-- A byte's bits, high-order first.
abbrev pub bits_of : ℕ → List ℕ
bits_of x = x / 128 % 2 ∷ x / 64 % 2 ∷ x / 32 % 2 ∷ x / 16 % 2 ∷ x / 8 % 2 ∷ x / 4 % 2 ∷ x / 2 % 2 ∷ x % 2 ∷ []

-- Pulses one after the other, each after its wait in VIA ticks and with its level: the VIA after them, and the values that they give.
unfoldable pub pulsed : List ℕ → List ℕ → Via → Via
pulsed (w ∷ ws) (l ∷ ls) v = pulsed ws ls (pulse_of l (ticks w v)).via
pulsed (w ∷ ws) [] v = v
pulsed [] ls v = v

unfoldable pub given : List ℕ → List ℕ → Via → List ℕ
given (w ∷ ws) (l ∷ ls) v = (pulse_of l (ticks w v)).value ∷ given ws ls (pulse_of l (ticks w v)).via
given (w ∷ ws) [] v = []
given [] ls v = []

-- All waits together.
unfoldable pub total : List ℕ → ℕ
total [] = 0
total (w ∷ ws) = w + total ws

-- The VIA after these VIA ticks, with flag 2 set.
abbrev pub flagged : ℕ → Via → Via
flagged n v = with_flags (ticks n v) (bit_or (ticks n v).flags 4)

-- Eight pulses after any waits ws, from a count of 0.
pub record EightPulses (v : Via) : Type 0 where
  -- In, with the bits of a byte as levels, high-order first: register 10 holds the byte, flag 2 is set, and no value but 0 was given.
  pub shift_in : (ws : List ℕ) (x : ℕ) → length ws ≡ 8 → v.pulses ≡ 0 → v.acr / 4 % 8 ≡ 3 → x < 256
      → (pulsed ws (bits_of x) v ≡ with_sr (flagged (total ws) v) x) × (given ws (bits_of x) v ≡ 0 ∷ 0 ∷ 0 ∷ 0 ∷ 0 ∷ 0 ∷ 0 ∷ 0 ∷ [])
  -- Out, whatever the levels: the bits of register 10 were given, high-order first, it is as it was, and flag 2 is set.
  pub shift_out : (ws ls : List ℕ) → length ws ≡ 8 → length ls ≡ 8 → v.pulses ≡ 0 → v.acr / 4 % 8 ≡ 7 → v.sr < 256
      → (pulsed ws ls v ≡ flagged (total ws) v) × (given ws ls v ≡ bits_of v.sr)
  -- The flag that these set is flag 2.
  pub flag2 : (n : ℕ) → bit 2 (flagged n v).flags ≡ true
