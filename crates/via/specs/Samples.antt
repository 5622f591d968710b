-- Document 01's samples S5 and S6, and samples of W-210's pulses, proved together by computing.
use Rattle.std.specs.Prelude.{ℕ, Bool, true, false, List, [], ◌∷◌, ◌≡◌, refl}
use Rattle.via_bits.specs.Bytes.{bit}
use Rattle.via.specs.Via.{fresh_via, tick_of, ticks, reset_of}
use Rattle.via.specs.Setters.{with_sr, with_acr, with_flags, with_pulses}
use Rattle.via.specs.Shift.{pulse_of}
use Rattle.via.specs.Writes.{via_written}
use Rattle.via.specs.Registers.{register_read}
use Rattle.via.specs.declared.Via.{Via}

-- "T1 loaded with 2", under this ACR.
unfoldable pub loaded2 : ℕ → Via
loaded2 acr = via_written 5 0 (via_written 4 2 (via_written 11 acr fresh_via))

unfoldable pub flag6 : Via → Bool
flag6 v = bit 6 v.flags

-- Flag 6 seen and cleared by reading register 4.
unfoldable pub seen : Via → Via
seen v = (register_read 4 (record { b = 255; a = 255 }) v).via

-- S5 "after 2 ticks flag clear, after 3 set, counter $FFFF"; S6 "in free run: set at 3, 7, 11".
pub samples : (flag6 (ticks 2 (loaded2 0)) ≡ false) × (flag6 (ticks 3 (loaded2 0)) ≡ true) × ((ticks 3 (loaded2 0)).t1.counter ≡ 65535)
    × (flag6 (ticks 2 (loaded2 64)) ≡ false) × (flag6 (ticks 3 (loaded2 64)) ≡ true)
    × (flag6 (ticks 3 (seen (ticks 3 (loaded2 64)))) ≡ false) × (flag6 (ticks 4 (seen (ticks 3 (loaded2 64)))) ≡ true)
    × (flag6 (ticks 3 (seen (ticks 4 (seen (ticks 3 (loaded2 64)))))) ≡ false) × (flag6 (ticks 4 (seen (ticks 4 (seen (ticks 3 (loaded2 64)))))) ≡ true)
unfolding ticks tick_of via_written register_read loaded2 flag6 seen fresh_via
samples = (refl, refl, refl, refl, refl, refl, refl, refl, refl)

-- ---- W-210
-- Register 10 at $A7, flags 5, 2 and 0, and five pulses since the last eighth, under this ACR.
unfoldable pub pulsing : ℕ → Via
pulsing acr = with_pulses (with_flags (with_sr (with_acr fresh_via acr) 0xa7) 0x25) 5

-- Register 10, the flags and the count.
unfoldable pub shift_state : Via → List ℕ
shift_state v = v.sr ∷ v.flags ∷ v.pulses ∷ []

-- These levels, one pulse after the other, with no wait.
unfoldable pub levels_in : List ℕ → Via → Via
levels_in [] v = v
levels_in (l ∷ ls) v = levels_in ls (pulse_of l v).via

pub record Pulses : Type 0 where
  -- Shift in is ACR bits 4 to 2 as 011, shift out 111, whatever its other bits are.
  pub in1 : shift_state (pulse_of 1 (pulsing 0xec)).via ≡ 0x4f ∷ 0x25 ∷ 6 ∷ []
  pub in0 : shift_state (pulse_of 0 (pulsing 0x0c)).via ≡ 0x4e ∷ 0x25 ∷ 6 ∷ []
  pub out0 : shift_state (pulse_of 0 (pulsing 0x1c)).via ≡ 0x4f ∷ 0x25 ∷ 6 ∷ []
  pub values : (pulse_of 1 (pulsing 0x0c)).value ∷ (pulse_of 0 (pulsing 0x1c)).value ∷ (pulse_of 1 (with_sr (pulsing 0xff) 0x7f)).value ∷ [] ≡ 0 ∷ 1 ∷ 0 ∷ []
  -- The other six modes: nothing, value 0.
  pub others : pulse_of 1 (pulsing 0xe3) ∷ pulse_of 1 (pulsing 0x04) ∷ pulse_of 1 (pulsing 0x08) ∷ pulse_of 1 (pulsing 0x10) ∷ pulse_of 1 (pulsing 0x14) ∷ pulse_of 1 (pulsing 0x18) ∷ []
      ≡ record { via = pulsing 0xe3; value = 0 } ∷ record { via = pulsing 0x04; value = 0 } ∷ record { via = pulsing 0x08; value = 0 }
      ∷ record { via = pulsing 0x10; value = 0 } ∷ record { via = pulsing 0x14; value = 0 } ∷ record { via = pulsing 0x18; value = 0 } ∷ []
  -- Flag 2 by the eighth pulse and not the seventh; then the count is 0 again, and the ninth does not set it.
  pub seventh : shift_state (levels_in (0 ∷ 1 ∷ []) (with_flags (pulsing 0x0c) 0x21)) ≡ 0x9d ∷ 0x21 ∷ 7 ∷ []
  pub eighth : shift_state (levels_in (0 ∷ 1 ∷ 1 ∷ []) (with_flags (pulsing 0x0c) 0x21)) ≡ 0x3b ∷ 0x25 ∷ 0 ∷ []
  pub ninth : shift_state (levels_in (0 ∷ []) (with_flags (levels_in (0 ∷ 1 ∷ 1 ∷ []) (pulsing 0x0c)) 0x21)) ≡ 0x76 ∷ 0x21 ∷ 1 ∷ []
  -- In and out share the count, which a change of mode keeps.
  pub shared : shift_state (levels_in (0 ∷ []) (via_written 11 0x1c (levels_in (0 ∷ 1 ∷ []) (with_flags (pulsing 0x0c) 0x21)))) ≡ 0x3b ∷ 0x25 ∷ 0 ∷ []
  -- Register 10 read or written: flag 2 clear, the count 0. Register 13 clears flag 2 and keeps the count; register 15 keeps both.
  pub read10 : shift_state (register_read 10 (record { b = 255; a = 255 }) (pulsing 0)).via ≡ 0xa7 ∷ 0x21 ∷ 0 ∷ []
  pub value10 : (register_read 10 (record { b = 255; a = 255 }) (pulsing 0)).value ≡ 0xa7
  pub write10 : shift_state (via_written 10 0x5b (pulsing 0)) ≡ 0x5b ∷ 0x21 ∷ 0 ∷ []
  pub write13 : shift_state (via_written 13 0x04 (pulsing 0)) ≡ 0xa7 ∷ 0x21 ∷ 5 ∷ []
  pub read15 : shift_state (register_read 15 (record { b = 255; a = 255 }) (pulsing 0)).via ≡ 0xa7 ∷ 0x25 ∷ 5 ∷ []
  -- RS keeps register 10 and starts the count anew; time keeps both.
  pub reset : shift_state (reset_of (pulsing 0x1c)) ≡ 0xa7 ∷ 0 ∷ 0 ∷ []
  pub wait : shift_state (ticks 3 (pulsing 0x1c)) ≡ 0xa7 ∷ 0x25 ∷ 5 ∷ []

pub pulses : Pulses
unfolding ticks tick_of via_written register_read reset_of pulse_of pulsing shift_state levels_in fresh_via
pulses =
    record {
      in1 = refl;
      in0 = refl;
      out0 = refl;
      values = refl;
      others = refl;
      seventh = refl;
      eighth = refl;
      ninth = refl;
      shared = refl;
      read10 = refl;
      value10 = refl;
      write10 = refl;
      write13 = refl;
      read15 = refl;
      reset = refl;
      wait = refl;
    }
