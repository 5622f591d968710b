-- The commands as the plain engine works them out. What they mean is clock_spec's patterns: proofs/Agrees.antt.
use Rattle.std.specs.Prelude.{Bool, true, false, cond, ◌&&◌, ℕ, ◌+◌, ◌*◌, ◌/◌, ◌%◌, ◌<◌, leb, ltb, eqb}
use Rattle.std.specs.Int.Bits.{bit_and}
use Rattle.clock_spec.specs.Command.{either}
use Rattle.clock_spec.specs.declared.Chip.{Chip}
use Rattle.clock_spec.specs.declared.Chip.TheVariants.{First, Later}
use Rattle.clock_spec.specs.declared.Target.TheVariants.{Seconds, Test, Protect, Cell}
use Rattle.clock_spec.specs.declared.Command.{Command}
use Rattle.clock_spec.specs.declared.Command.TheVariants.{Write, Read, Extended, Illegal}

abbrev pub is_later : Chip → Bool
is_later First = false
is_later Later = true

-- Document 01's patterns in turn, by the bits that each fixes.
unfoldable pub short_of : ℕ → Command
short_of c =
    cond (eqb (bit_and c 0x73) 0x01) (either (leb 128 c) (Seconds (c / 4 % 4)))
    (cond (eqb c 0x31) (Write Test)
    (cond (eqb c 0x35) (Write Protect)
    (cond (eqb (bit_and c 0x73) 0x21) (either (leb 128 c) (Cell (16 + c / 4 % 4)))
    (cond (eqb (bit_and c 0x43) 0x41) (either (leb 128 c) (Cell (c / 4 % 16)))
    Illegal))))

unfoldable pub decode : Chip → ℕ → Command
decode k c = cond (is_later k && eqb (bit_and c 0x78) 0x38) (Extended (leb 128 c) (c % 8)) (short_of c)

-- z and abc of the first byte, d the second.
unfoldable pub second_of : Bool → ℕ → ℕ → Command
second_of z a d = cond (ltb d 128 && eqb (d % 4) 0) (either z (Cell (32 * a + d / 4))) Illegal

-- The high three bits of a cell's number.
abbrev pub HighInRange : Command → Type 0
HighInRange (Write t) = Unit {0}
HighInRange (Read t) = Unit {0}
HighInRange (Extended z a) = a < 8
HighInRange Illegal = Unit {0}
