-- Runs of W-210's shift register on the fresh machine, over lists of bytes.
use Rattle.std.specs.Prelude.{ℕ, zero, suc, ◌+◌, ◌*◌, ◌/◌, ◌%◌, ◌^◌, ◌≡◌, List, [], ◌∷◌, ◌++◌, get_or}
use Rattle.clock_spec.specs.declared.Bytes.TheVariants.{Nothing}
use Rattle.clock_spec.specs.declared.Phase.TheVariants.{Listening}
use Rattle.samples.specs.Lists.{rd, wr, rs, pw, kc, begin, select, sent}
use Rattle.samples.specs.Samples.{ran, values_from, phase}

-- KC items with the n highest of the low k bits of a byte, high-order first.
unfoldable pub pulses_of : ℕ → ℕ → ℕ → List ℕ
pulses_of zero k byte = []
pulses_of (suc n) zero byte = []
pulses_of (suc n) (suc k) byte = kc 0 (byte / 2 ^ k % 2) ++ pulses_of n k byte

-- Shift in and shift out by ACR, and seven pulses in.
abbrev pub shift_in : List ℕ
shift_in = wr 0 11 0x0c

abbrev pub shift_out : List ℕ
shift_out = wr 0 11 0x1c

abbrev pub seven : List ℕ
seven = shift_in ++ pulses_of 7 8 0xa7

-- The interrupt levels of n answers, the k-th first, k counted from 0.
unfoldable pub levels : ℕ → ℕ → List ℕ → List ℕ
levels k zero answers = []
levels k (suc n) answers = get_or answers (8 * k + 5) 0 ∷ levels (suc k) n answers

pub record KeyboardSamples : Type 0 where
  -- $A7 in: flag 2 is clear after seven pulses and set after eight; reading register 10 gives the byte and clears flag 2.
  pub byte_in : values_from 8 5 (seven ++ rd 0 13 ++ kc 0 1 ++ rd 0 13 ++ rd 0 10 ++ rd 0 13) ≡ 0 ∷ 0 ∷ 4 ∷ 0xa7 ∷ 0 ∷ []
  -- Enabled, it shows in the interrupt level of the eighth KC's answer, and not in the seventh's or after register 10 is read.
  pub level : levels 7 4 (ran (wr 0 14 0x84 ++ seven ++ kc 0 1 ++ rd 0 10)).answers ≡ 0 ∷ 0 ∷ 1 ∷ 0 ∷ []
  -- $A7 out, whatever the levels: its bits, high-order first; then register 10 holds it as before.
  pub byte_out : values_from 2 10 (shift_out ++ wr 0 10 0xa7 ++ pulses_of 8 8 0x3c ++ rd 0 13 ++ rd 0 10) ≡ 1 ∷ 0 ∷ 1 ∷ 0 ∷ 0 ∷ 1 ∷ 1 ∷ 1 ∷ 4 ∷ 0xa7 ∷ []
  -- In another mode nothing moves and nothing counts: ACR bits 4 to 2 as 101.
  pub other_mode : values_from 2 11 (wr 0 11 0x14 ++ wr 0 10 0xa7 ++ pulses_of 8 8 0xff ++ rd 0 13 ++ shift_in ++ rd 0 10) ≡ 0 ∷ 0 ∷ 0 ∷ 0 ∷ 0 ∷ 0 ∷ 0 ∷ 0 ∷ 0 ∷ 0 ∷ 0xa7 ∷ []
  -- Level 2 is refusal 5 in every mode, a byte too few or too many 3; a refused KC does not count.
  pub refused : values_from 0 3 (kc 0 2 ++ (4 ∷ 0 ∷ 75 ∷ 67 ∷ 0 ∷ 0 ∷ []) ++ (6 ∷ 0 ∷ 75 ∷ 67 ∷ 0 ∷ 0 ∷ 2 ∷ 0 ∷ [])) ≡ 5 ∷ 3 ∷ 3 ∷ []
  pub refused_in : values_from 8 4 (seven ++ kc 0 2 ++ rd 0 13 ++ kc 0 1 ++ rd 0 13) ≡ 5 ∷ 0 ∷ 0 ∷ 4 ∷ []
  -- The count starts anew by register 10, read or written, by RS and by PW; not by register 13, nor by a change of mode.
  pub after_read : values_from 10 1 (seven ++ rd 0 10 ++ kc 0 1 ++ rd 0 13) ≡ 0 ∷ []
  pub after_write : values_from 10 1 (seven ++ wr 0 10 0xa7 ++ kc 0 1 ++ rd 0 13) ≡ 0 ∷ []
  pub after_reset : values_from 11 1 (seven ++ rs ++ shift_in ++ kc 0 1 ++ rd 0 13) ≡ 0 ∷ []
  pub after_power : values_from 11 1 (seven ++ pw ++ shift_in ++ kc 0 1 ++ rd 0 13) ≡ 0 ∷ []
  pub after_clear : values_from 10 1 (seven ++ wr 0 13 4 ++ kc 0 1 ++ rd 0 13) ≡ 4 ∷ []
  pub after_mode : values_from 9 3 (seven ++ shift_out ++ kc 0 0 ++ rd 0 13 ++ rd 0 10) ≡ 0 ∷ 4 ∷ 0xa6 ∷ []
  -- A KC's wait passes first, as every item's does: three VIA ticks of T2.
  pub wait : values_from 1 1 (kc 3 1 ++ rd 0 8) ≡ 0xfd ∷ []
  -- Amid a command of the clock: three bits taken stay three.
  pub quiet : phase (begin ++ select ++ sent 3 8 0x41 ++ shift_in ++ kc 0 1 ++ kc 0 0) ≡ Listening Nothing 3 2
