-- Single bytes of the VIA by document 01: the flags that an access clears, the enables after a write.
use Rattle.std.specs.Prelude.{ℕ, ◌-◌, ◌/◌, ◌%◌, ◌^◌, Bool, cond, ◌||◌, eqb}
use Rattle.std.specs.Int.Bits.{bit_and, bit_or}

-- ---- bits of a byte
-- Bit k of a number.
abbrev pub bit : ℕ → ℕ → Bool
bit k x = eqb (x / 2 ^ k % 2) 1

-- The bits of a where those of m are 0.
abbrev pub clear : ℕ → ℕ → ℕ
clear a m = bit_and a (255 - m)

-- ---- flags and enables
-- "Any access to register 1 clears flag 1, and flag 0 unless PCR bits 3 to 1 are 001 or 011": the flags that it clears.
unfoldable pub port_a_flags : ℕ → ℕ
port_a_flags pcr = cond (eqb (pcr / 2 % 8) 1 || eqb (pcr / 2 % 8) 3) 2 3

-- "Writing 14 sets the enables where bits 0 to 6 are 1 if bit 7 is 1, else clears them."
unfoldable pub enabled_by : ℕ → ℕ → ℕ
enabled_by v e = cond (bit 7 v) (bit_or e (v % 128)) (clear e (v % 128))
