-- Microseconds and VIA ticks, by request W-203: "A call turns the shell's microseconds (32 bits) into ticks, rounded up; they
-- must be a type of their own, turned into ticks in one place."
use Rattle.std.specs.Prelude.{ℕ, ◌+◌, ◌*◌, ◌/◌, ◌%◌, cond, eqb}
use Rattle.units.specs.declared.WaitTicks.{WaitTicks}

-- a / b, rounded up: one more than the whole quotient, unless nothing is left over.
abbrev pub divided_up : ℕ → ℕ → ℕ
divided_up a b = cond (eqb (a % b) 0) (a / b) (a / b + 1)

-- "VIA ticks: 783,360 per second"; a second has 1,000,000 microseconds.
unfoldable pub ticks_of : ℕ → ℕ
ticks_of micros = divided_up (micros * 783360) 1000000

-- A wait of so many VIA ticks.
abbrev pub for_ticks : ℕ → WaitTicks
for_ticks n = record { 0 = n }
