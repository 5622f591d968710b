-- What the board gives the VIA's ports: document 01, "VIA"; and the interrupt level: request W-205.
use Rattle.std.specs.Prelude.{ℕ, ◌+◌, ◌*◌, Bool, cond, List, eqb, get_or}
use Rattle.via.specs.declared.Inputs.{Inputs}
use Rattle.clock_spec.specs.Command.{bit_number}

-- What the outside gives port B and port A: "PB0 the clock's data line, PB3 to PB6 the IN lines 0 to 3 .., PA7 IN line 4. Undriven lines are 1."
unfoldable pub inputs_of : Bool → List ℕ → Inputs
inputs_of line lines =
    record {
      b = bit_number line + 2 + 4 + (8 * get_or lines 0 0 + 16 * get_or lines 1 0 + 32 * get_or lines 2 0 + 64 * get_or lines 3 0) + 128;
      a = 127 + 128 * get_or lines 4 0;
    }

-- W-205: "The level becomes 4 for the switch, plus 2 for the serial chip, plus 1 for the VIA only while the serial chip isn't asking."
unfoldable pub interrupt_level : ℕ → ℕ → ℕ → ℕ
interrupt_level via serial switch = 4 * switch + 2 * serial + cond (eqb serial 0) via 0
