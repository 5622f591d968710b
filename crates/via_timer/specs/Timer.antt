-- One down counter by document 01, tick by tick. T1 is it with its latches and ACR bit 6, T2 is it with no free run.
use Rattle.std.specs.Prelude.{ℕ, zero, suc, ◌-◌, Bool, true, false, ◌&&◌, ◌||◌, ◌==◌}
use Rattle.via_timer.specs.declared.Counter.{Counter}

-- A counter with this value, armed or not, with a load due or not, that has fired or not.
abbrev pub at : ℕ → Bool → Bool → Bool → Counter
at value armed due fired = record { value = value; armed = armed; due = due; fired = fired }

-- One tick, given whether a load is due, whether the value is 0, and whether the counter runs free.
-- "the next tick loads the latches instead of counting"
-- "At that passage, if armed, flag 6 is set; with ACR bit 6 clear T1 is then disarmed; with it set T1 stays armed and, armed or
-- not, the next tick loads the latches instead of counting."
-- "At each tick the counter falls by one, 0 going to $FFFF."
abbrev pub step_by : Bool → Bool → Bool → ℕ → Counter → Counter
step_by true zeroed free latch c = at latch c.armed false c.fired
step_by false true free latch c = at 65535 (c.armed && free) free (c.fired || c.armed)
step_by false false free latch c = at (c.value - 1) c.armed false c.fired

abbrev pub step : Bool → ℕ → Counter → Counter
step free latch c = step_by c.due (c.value == 0) free latch c

-- n ticks, one after the other.
unfoldable pub steps : ℕ → Bool → ℕ → Counter → Counter
steps zero free latch c = c
steps (suc n) free latch c = step free latch (steps n free latch c)
