-- Port B's bits 0 to 2 as three levels: the bytes that a transaction writes, taken apart.
use Prim.Native.Nat.{ℕ, ◌+◌, ◌*◌, ◌/◌, ◌%◌, ◌<◌}
use mathlib.Core.Path.{◌≡◌}
use mathlib.Core.Bool.{Bool, true, false, cond}
use native.Mathlib.Omega.{arith}
use lib.Dec.{eqb}
use Rattle.clock_spec.specs.Command.{bit_number}
use Rattle.clock_spec.specs.declared.Wires.{Wires}
use Rattle.via.specs.declared.Ports.{Ports}
use Rattle.machine_spec.specs.Pins.{wires_of}
use Rattle.transaction_spec.specs.Promise.{ports_at}
use Rattle.transaction_spec.specs.Acts.{out_at, dir_at}

pub digit : (x : ℕ) (b : Bool) → x ≡ bit_number b → eqb x 1 ≡ b
digit x true e = rw e
digit x false e = rw e

pub bit-low : (b : Bool) → bit_number b < 2
bit-low true = omega arith
bit-low false = omega arith

high : (q e c b : ℕ) → e < 2 → c < 2 → b < 2 → (8 * q + (4 * e + (2 * c + b))) / 4 % 2 ≡ e
high q e c b h k l = omega arith

middle : (q e c b : ℕ) → e < 2 → c < 2 → b < 2 → (8 * q + (4 * e + (2 * c + b))) / 2 % 2 ≡ c
middle q e c b h k l = omega arith

low : (q e c b : ℕ) → e < 2 → c < 2 → b < 2 → (8 * q + (4 * e + (2 * c + b))) / 1 % 2 ≡ b
low q e c b h k l = omega arith

module _ (q : ℕ) (e c b : Bool) where
  pub out-high : eqb (out_at q e c b / 4 % 2) 1 ≡ e
  out-high = digit _ e (high q (bit_number e) (bit_number c) (bit_number b) (bit-low e) (bit-low c) (bit-low b))

  pub out-middle : eqb (out_at q e c b / 2 % 2) 1 ≡ c
  out-middle = digit _ c (middle q (bit_number e) (bit_number c) (bit_number b) (bit-low e) (bit-low c) (bit-low b))

  pub out-low : eqb (out_at q e c b / 1 % 2) 1 ≡ b
  out-low = digit _ b (low q (bit_number e) (bit_number c) (bit_number b) (bit-low e) (bit-low c) (bit-low b))

abbrev pub levels : Bool → Bool → Bool → Wires
levels e c d = record { enable = e; dataclock = c; dataline = d }

-- The wires, by the three output bits and whether the data line is an output.
pub pins : (p : Ports) (q r : ℕ) (e c b x line : Bool)
    → wires_of (ports_at p (out_at q e c b) (dir_at r x)) line ≡ levels e c (cond x b line)
unfolding wires_of
pins p q r e c b x line =
    simp (out-high q e c b, out-middle q e c b, out-low q e c b, out-high r true true x, out-middle r true true x, out-low r true true x)
