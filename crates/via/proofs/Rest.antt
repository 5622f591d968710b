-- A match's default arm: a number that is none of 0 to k - 1 is at least k, so a register that is none of 0 to 14 is 15.
use mathlib.Core.Path.{◌≡◌, sym}
use Prim.Native.Nat.{ℕ, zero, suc, ◌≤◌, ◌<◌, zero-le}
use native.Mathlib.Nat.{le_antisymm, le_of_suc-le-suc}
use lib.Arith.{lt_of_le-ne}

abbrev pub NoneBelow : ℕ → ℕ → Type 0
NoneBelow zero r = Unit {0}
NoneBelow (suc k) r = NoneBelow k r × (r ≡ k → ⊥)

least : (k r : ℕ) → NoneBelow k r → k ≤ r
least zero r m = zero-le
least (suc k) r m = lt_of_le-ne (least k r m.0) (λ e. m.1 (sym e))

pub fifteen : (r : ℕ) → r < 16 → NoneBelow 15 r → r ≡ 15
fifteen r h m = le_antisymm (le_of_suc-le-suc h) (least 15 r m)
