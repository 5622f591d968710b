-- The shift register under the keyboard's clock, by W-210: one pulse, and the count of pulses.
use Rattle.std.specs.Prelude.{ℕ, ◌+◌, ◌*◌, ◌/◌, ◌%◌, cond, eqb, ltb}
use Rattle.std.specs.Int.Bits.{bit_or}
use Rattle.via.specs.Setters.{with_sr, with_flags, with_pulses}
use Rattle.via.specs.declared.Via.{Via}
use Rattle.via.specs.declared.Access.{Access}

-- "against document 01's house rule, reading or writing register 10 .. starts the count anew; a change of mode doesn't": the count after an access to register r.
unfoldable pub pulses_accessed : ℕ → ℕ → ℕ
pulses_accessed r n = cond (eqb r 10) 0 n

-- "Each eighth pulse sets flag 2", and the count is 0 again.
unfoldable pub counted_of : Via → Via
counted_of v = cond (ltb v.pulses 7) (with_pulses v (v.pulses + 1)) (with_pulses (with_flags v (bit_or v.flags 4)) 0)

-- "register 10 moves up one bit and takes the level as bit 0"; the pulse counts.
unfoldable pub shifted_of : ℕ → Via → Via
unfolding counted_of
shifted_of level v = counted_of (with_sr v (v.sr % 128 * 2 + level))

-- One pulse. "ACR bits 4 to 2 as 111 shift out, 011 shift in". "In, register 10 moves up one bit and takes the level as bit 0; out, it moves up too, its bit 7
-- being the answer's value and the new bit 0; in other modes KC does nothing."
unfoldable pub pulse_of : ℕ → Via → Access
unfolding shifted_of
pulse_of level v =
    cond (eqb (v.acr / 4 % 8) 3) (record { via = shifted_of level v; value = 0 })
    (cond (eqb (v.acr / 4 % 8) 7) (record { via = shifted_of (v.sr / 128) v; value = v.sr / 128 })
    (record { via = v; value = 0 }))
