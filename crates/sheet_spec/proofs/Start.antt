-- Where the counting record stands.
use Prim.Native.Nat.{ℕ, ◌+◌, ◌≤◌, ◌<◌}
use mathlib.Core.Path.{◌≡◌, refl, sym, ◌∙◌}
use mathlib.Core.Bool.{Bool, true, false, cond}
use mathlib.Core.List.{List, []}
use native.Mathlib.Omega.{arith}
use lib.ListN.{length}
use lib.Dec.{ltb, eqb}
use borrow.Author.Tests.{lt-ltb, le-ltb, eq-eqb, ne_eqb}
use Rattle.sheet_spec.specs.Records.{Sheet, row, end, broken}
use Rattle.sheet_spec.specs.Counting.{setting_of, version_of, beats_of, better_of, counting_from, counting_of, start_from, start_of}
use Rattle.sheet_spec.specs.Compaction.{none_beats, counts_of}
use Rattle.sheet_spec.proofs.Same.{less, mono, none-counting}

-- where nothing beats what counted so far, it stays
start_none : (s : Sheet) (k v n at : ℕ) → none_beats k v s ≡ true → start_from k v n at s ≡ n
unfolding start_from none_beats
start_none end k v n at e = refl
start_none broken k v n at e = refl
start_none (row r s) k v n at e = go (beats_of k v r) (λ h. start_none s k v n (at + length r) h) e
  where
    go : (t : Bool) → (none_beats k v s ≡ true → start_from k v n (at + length r) s ≡ n) → cond t false (none_beats k v s) ≡ true
        → cond t (start_from k (version_of r) (at + 7) (at + length r) s) (start_from k v n (at + length r) s) ≡ n
    go true rec e = let h : ◌≡◌ {A = ℕ} 0 1 = cc in absurd (omega arith)
    go false rec e = rec e

-- where something beats it, what counts stands further on
start-later : (s : Sheet) (k v n at : ℕ) → none_beats k v s ≡ false → at + 7 ≤ start_from k v n at s
unfolding start_from none_beats
start-later end k v n at e = let h : ◌≡◌ {A = ℕ} 0 1 = cc in absurd (omega arith)
start-later broken k v n at e = let h : ◌≡◌ {A = ℕ} 0 1 = cc in absurd (omega arith)
start-later (row r s) k v n at e =
    go (beats_of k v r) (none_beats k (version_of r) s) refl (λ h. start-later s k (version_of r) (at + 7) (at + length r) h) (λ h. start-later s k v n (at + length r) h) e
  where
    go : (t u : Bool) → none_beats k (version_of r) s ≡ u
        → (none_beats k (version_of r) s ≡ false → at + length r + 7 ≤ start_from k (version_of r) (at + 7) (at + length r) s)
        → (none_beats k v s ≡ false → at + length r + 7 ≤ start_from k v n (at + length r) s) → cond t false (none_beats k v s) ≡ false
        → at + 7 ≤ cond t (start_from k (version_of r) (at + 7) (at + length r) s) (start_from k v n (at + length r) s)
    go true true u p q e = omega (arith, start_none s k (version_of r) (at + 7) (at + length r) u)
    go true false u p q e = omega (arith, p u)
    go false x u p q e = omega (arith, q e)

-- a record counts exactly where what counts of its setting starts at its bytes: b counted before it, its bytes at n
module _ (all : Sheet) (r : List ℕ) (s : Sheet) (b : List ℕ) (n at : ℕ) (early : n ≤ at) (long : 7 ≤ length r) where
  module _ (c : counting_from (setting_of r) [] all ≡ counting_from (setting_of r) b (row r s)) (p : start_of all (setting_of r) ≡ start_from (setting_of r) (version_of b) n at (row r s)) where
    pub counts_start : counts_of all r s ≡ eqb (start_of all (setting_of r)) (at + 7)
    unfolding counts_of counting_of counting_from better_of start_from
    counts_start = rw (c, p) (go (beats_of (setting_of r) (version_of b) r) (none_beats (setting_of r) (version_of r) s) (none_beats (setting_of r) (version_of b) s) refl refl refl)
      where
        go : (t u w : Bool) → beats_of (setting_of r) (version_of b) r ≡ t → none_beats (setting_of r) (version_of r) s ≡ u → none_beats (setting_of r) (version_of b) s ≡ w
            → cond (ltb (version_of r) (version_of (counting_from (setting_of r) (cond t r b) s))) false (none_beats (setting_of r) (version_of r) s)
            ≡ eqb (cond t (start_from (setting_of r) (version_of r) (at + 7) (at + length r) s) (start_from (setting_of r) (version_of b) n (at + length r) s)) (at + 7)
        go true true w e u x =
            simp (none-counting s (setting_of r) r u, u, le-ltb (version_of r) (version_of r) (omega arith), start_none s (setting_of r) (version_of r) (at + 7) (at + length r) u, eq-eqb (at + 7) (at + 7) refl)
        go true false w e u x =
            let l = start-later s (setting_of r) (version_of r) (at + 7) (at + length r) u in
            rw u (none (ltb (version_of r) (version_of (counting_from (setting_of r) r s)))) ∙ sym (ne_eqb (start_from (setting_of r) (version_of r) (at + 7) (at + length r) s) (at + 7) (omega arith))
          where
            none : (t : Bool) → cond t false false ≡ false
            none true = refl
            none false = refl
        go false u w e z x =
            let l : version_of r < version_of b = less (setting_of r) (version_of b) r e (eq-eqb (setting_of r) (setting_of r) refl) in
            let m : version_of b ≤ version_of (counting_from (setting_of r) b s) = mono s (setting_of r) b in
            simp (lt-ltb (version_of r) (version_of (counting_from (setting_of r) b s)) (omega arith)) (sym (away w x))
          where
            away : (w : Bool) → none_beats (setting_of r) (version_of b) s ≡ w → eqb (start_from (setting_of r) (version_of b) n (at + length r) s) (at + 7) ≡ false
            away true x = let l = start_none s (setting_of r) (version_of b) n (at + length r) x in ne_eqb (start_from (setting_of r) (version_of b) n (at + length r) s) (at + 7) (omega arith)
            away false x = let l = start-later s (setting_of r) (version_of b) n (at + length r) x in ne_eqb (start_from (setting_of r) (version_of b) n (at + length r) s) (at + 7) (omega arith)
