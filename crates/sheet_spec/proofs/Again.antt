-- A compacted sheet, read again: every lookup's bytes are the same.
use Prim.Native.Nat.{ℕ}
use mathlib.Core.Path.{◌≡◌, refl, sym, ap, ◌∙◌}
use mathlib.Core.Bool.{Bool, true, false}
use mathlib.Core.List.{List}
use Rattle.sheet_spec.specs.Records.{Sheet, row, end, broken, sheet_from, sheet_of, is_broken}
use Rattle.sheet_spec.specs.Counting.{counting_of}
use Rattle.sheet_spec.specs.Lookup.{source_of, part_of}
use Rattle.sheet_spec.specs.Compaction.{counts_of, row_if, counting_rows, bytes_of, compact_of}
use Rattle.sheet_spec.proofs.Joined.{Records, sheet-records, sheet-cons}
use Rattle.sheet_spec.proofs.Same.{same}

pub kept_whole : (all s : Sheet) → is_broken (counting_rows all s) ≡ false
unfolding counting_rows is_broken
kept_whole all end = refl
kept_whole all broken = refl
kept_whole all (row r s) = go (kept_whole all s) (counts_of all r s)
  where
    go : is_broken (counting_rows all s) ≡ false → (t : Bool) → is_broken (row_if t r (counting_rows all s)) ≡ false
    go rec true = rec
    go rec false = rec

-- what was written is read back
pub kept_again : (all s : Sheet) → Records s → sheet_of (bytes_of (counting_rows all s)) ≡ counting_rows all s
unfolding counting_rows bytes_of sheet_from
kept_again all end p = refl
kept_again all broken p = refl
kept_again all (row r s) p = go (kept_again all s p.1) (counts_of all r s)
  where
    go : sheet_of (bytes_of (counting_rows all s)) ≡ counting_rows all s → (t : Bool) → sheet_of (bytes_of (row_if t r (counting_rows all s))) ≡ row_if t r (counting_rows all s)
    go rec true = sheet-cons r (bytes_of (counting_rows all s)) p.0 ∙ ap (row r) rec
    go rec false = rec

pub compact-again : (s : List ℕ) → sheet_of (compact_of s) ≡ counting_rows (sheet_of s) (sheet_of s)
unfolding compact_of
compact-again s = kept_again (sheet_of s) (sheet_of s) (sheet-records 0 s)

-- a compacted sheet is not broken
pub compact-whole : (s : List ℕ) → is_broken (sheet_of (compact_of s)) ≡ false
compact-whole s = ap is_broken (compact-again s) ∙ kept_whole (sheet_of s) (sheet_of s)

-- each setting's counting record stays the same
pub compact-same : (s : List ℕ) (k : ℕ) → counting_of (sheet_of (compact_of s)) k ≡ counting_of (sheet_of s) k
compact-same s k = ap (λ (t : Sheet). counting_of t k) (compact-again s) ∙ same (sheet_of s) k

-- two sheets that a lookup cannot tell apart
pub record Alike (s t : List ℕ) (k : ℕ) : Type 0 where
  pub whole : is_broken (sheet_of s) ≡ is_broken (sheet_of t)
  pub counts : counting_of (sheet_of s) k ≡ counting_of (sheet_of t) k

pub alike : (s : List ℕ) (k : ℕ) → Alike s s k
alike s k = record { whole = refl; counts = refl }

pub compact-alike : (s : List ℕ) (k : ℕ) → is_broken (sheet_of s) ≡ false → Alike (compact_of s) s k
compact-alike s k b = record { whole = compact-whole s ∙ sym b; counts = compact-same s k }

module _ (bench bench₁ house house₁ : List ℕ) (k : ℕ) (b : Alike bench₁ bench k) (h : Alike house₁ house k) where
  pub same_source : source_of bench₁ house₁ k ≡ source_of bench house k
  unfolding source_of
  same_source = simp (b.whole, b.counts, h.whole, h.counts)

  pub same-part : part_of bench₁ house₁ k ≡ part_of bench house k
  unfolding part_of
  same-part = simp (same_source, b.counts, h.counts)

-- "every answer's bytes stay the same", and its sheet; where one sheet alone is compacted `alike` stands for the other
pub same-answers : (bench house : List ℕ) (k : ℕ) → is_broken (sheet_of bench) ≡ false → is_broken (sheet_of house) ≡ false
    → (part_of (compact_of bench) (compact_of house) k ≡ part_of bench house k) × (source_of (compact_of bench) (compact_of house) k ≡ source_of bench house k)
same-answers bench house k b h =
    let x = compact-alike bench k b in
    let y = compact-alike house k h in
    (same-part bench (compact_of bench) house (compact_of house) k x y, same_source bench (compact_of bench) house (compact_of house) k x y)
