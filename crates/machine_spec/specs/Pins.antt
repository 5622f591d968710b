-- The levels of the VIA's port lines that the board goes by: document 01, "VIA".
use Rattle.std.specs.Prelude.{ℕ, ◌/◌, ◌%◌, Bool, true, cond, eqb}
use Rattle.via.specs.declared.Ports.{Ports}
use Rattle.clock_spec.specs.declared.Wires.{Wires}
use Rattle.clock_spec.specs.Command.{bit_number}

-- One line of a port, by its weight in the port's byte: "the output bit where its direction is 1. Otherwise it is the input."
abbrev pub pin : ℕ → ℕ → ℕ → Bool → Bool
pin out dir weight input = cond (eqb (dir / weight % 2) 1) (eqb (out / weight % 2) 1) input

-- "PB2 is clock enable, low active; PB1 is the clock's data-clock", PB0 "the clock's data line". "Undriven lines are 1."
-- `line` is the level that the chip gives the data line.
unfoldable pub wires_of : Ports → Bool → Wires
wires_of p line =
    record {
      enable = pin p.outb p.dirb 4 true;
      dataclock = pin p.outb p.dirb 2 true;
      dataline = pin p.outb p.dirb 1 line;
    }

-- "SEL is the level of PA5."
unfoldable pub sel_of : Ports → ℕ
sel_of p = bit_number (pin p.outa p.dira 32 true)
