use Rattle.std.proofs.Common.{◌≡◌, ◌+◌, ◌*◌, ◌/◌, ◌%◌, ◌<◌, Bool, true, false, refl, bit_or, arith}
use Rattle.std.specs.Int.{from_bool}
use Rattle.std.proofs.lemmas.Nat.{or_shifted}
use Rattle.std.proofs.lemmas.Nat.Bits.{and_high_mask}
use Rattle.clock_spec.specs.Command.{bit_number}
use Rattle.transaction_plan.proofs.line_byte.Goals as goal

-- the three levels as a number
levels : (e c b : Bool) → bit_or (bit_or (from_bool e * 4 % 256) (from_bool c * 2 % 256)) (from_bool b) ≡ 4 * bit_number e + (2 * bit_number c + bit_number b)
levels true true true = refl
levels true true false = refl
levels true false true = refl
levels true false false = refl
levels false true true = refl
levels false true false = refl
levels false false true = refl
levels false false false = refl

below : (e c b : Bool) → 4 * bit_number e + (2 * bit_number c + bit_number b) < 8
below true true true = omega arith
below true true false = omega arith
below true false true = omega arith
below true false false = omega arith
below false true true = omega arith
below false true false = omega arith
below false false true = omega arith
below false false false = omega arith

pub returns : goal.returns
returns c =
    let a = c.args in
    rw (c.from.ensures, c.from-2.ensures, c.from-3.ensures, levels a.enable a.dataclock a.dataline, and_high_mask 8 3 (omega arith) a.byte (omega (arith, c.ranges.byte.fits)), or_shifted (a.byte / 8) 3 _ (below a.enable a.dataclock a.dataline)) (omega arith)
