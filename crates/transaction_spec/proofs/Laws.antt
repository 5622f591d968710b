-- The command byte by what is asked for.
use Prim.Native.Nat.{ℕ, ◌+◌, ◌*◌, ◌<◌}
use mathlib.Core.Path.{◌≡◌, refl, sym, ap, ◌∙◌}
use mathlib.Core.Bool.{true}
use native.Mathlib.Omega.{arith}
use borrow.Author.Tests.{ltb-true}
use Rattle.clock_spec.specs.declared.Chip.{Chip}
use Rattle.transaction_spec.specs.declared.Ask.{Ask}
use Rattle.transaction_spec.specs.declared.Ask.TheVariants.{WriteCell, WriteSeconds, WriteProtect, ReadCell, ReadSeconds}
use Rattle.transaction_spec.specs.Asked.{target_of, reads_of, has_of, place_in_range, cell_byte, command_of}

module _ (a : Ask) (h : place_in_range a ≡ true) where
  pub place_in : (k d : ℕ) → a ≡ WriteSeconds k d → k < 4
  unfolding place_in_range
  place_in k d e = ltb-true _ _ (sym (ap place_in_range e) ∙ h)

  pub place_out : (k : ℕ) → a ≡ ReadSeconds k → k < 4
  unfolding place_in_range
  place_out k e = ltb-true _ _ (sym (ap place_in_range e) ∙ h)

-- What a chip has is in range.
pub has-place : (k : Chip) (a : Ask) → has_of k a ≡ true → place_in_range a ≡ true
unfolding has_of place_in_range
has-place k (WriteCell i d) h = refl
has-place k (WriteSeconds n d) h = h
has-place k (WriteProtect d) h = refl
has-place k (ReadCell i) h = refl
has-place k (ReadSeconds n) h = h

-- The command byte, by the byte without z.
module _ (a : Ask) (r : ℕ) where
  pub write_cell : (i d : ℕ) → a ≡ WriteCell i d → r ≡ cell_byte i → r ≡ command_of a
  unfolding command_of reads_of target_of
  write_cell i d e p = rw e (omega arith)

  pub write-seconds : (k d : ℕ) → a ≡ WriteSeconds k d → r ≡ 1 + 4 * k → r ≡ command_of a
  unfolding command_of reads_of target_of
  write-seconds k d e p = rw e (omega arith)

  pub write-protect : (d : ℕ) → a ≡ WriteProtect d → 53 ≡ command_of a
  unfolding command_of reads_of target_of
  write-protect d e = rw e refl

  pub read_cell : (i : ℕ) → a ≡ ReadCell i → r ≡ cell_byte i → r + 128 ≡ command_of a
  unfolding command_of reads_of target_of
  read_cell i e p = rw e (omega arith)

  pub read-seconds : (k : ℕ) → a ≡ ReadSeconds k → r ≡ 1 + 4 * k → r + 128 ≡ command_of a
  unfolding command_of reads_of target_of
  read-seconds k e p = rw e (omega arith)
