-- Numbers and flags written in bytes and read again.
use Prim.Native.Nat.{ℕ, ◌+◌, ◌*◌, ◌/◌, ◌%◌, ◌<◌}
use mathlib.Core.Path.{◌≡◌, refl, ◌∙◌}
use mathlib.Core.Bool.{Bool, true, false, cond}
use mathlib.Core.List.{List}
use native.Mathlib.Omega.{arith}
use native.Mathlib.Nat.{div-div-eq-div-mul}
use lib.Dec.{eqb}
use Rattle.image_spec.specs.Layout.{flag_byte, byte_at, number16, number32}

-- A flag is 1 where it is set, and else 0.
pub flag_is : (b : Bool) → flag_byte b ≡ cond b 1 0
flag_is true = refl
flag_is false = refl

pub flag-back : (b : Bool) → eqb (flag_byte b) 1 ≡ b
flag-back true = refl
flag-back false = refl

-- a byte is its own remainder
twice : (n : ℕ) → n % 256 % 256 ≡ n % 256
twice n = omega arith

pub back16 : (n : ℕ) → n < 65536 → n % 256 % 256 + n / 256 % 256 % 256 * 256 ≡ n
back16 n h = omega arith

-- divided step by step, as `omega` reads it
back-steps : (n : ℕ) → n < 4294967296 → n % 256 + n / 256 % 256 * 256 + n / 256 / 256 % 256 * 65536 + n / 256 / 256 / 256 % 256 * 16777216 ≡ n
back-steps n h = omega arith

pub back32 : (n : ℕ) → n < 4294967296 → n % 256 % 256 + n / 256 % 256 % 256 * 256 + n / 65536 % 256 % 256 * 65536 + n / 16777216 % 256 % 256 * 16777216 ≡ n
back32 n h =
    let e : n / 256 / 256 ≡ n / 65536 = div-div-eq-div-mul n 256 256 in
    let f : n / 256 / 256 / 256 ≡ n / 16777216 = div-div-eq-div-mul (n / 256) 256 256 ∙ div-div-eq-div-mul n 256 65536 in
    simp twice (rw (← e, ← f) (back-steps n h))

-- What is read is within its width.
pub width16 : (s : List ℕ) (i : ℕ) → number16 s i < 65536
width16 s i = omega arith

pub width32 : (s : List ℕ) (i : ℕ) → number32 s i < 4294967296
width32 s i = omega arith
