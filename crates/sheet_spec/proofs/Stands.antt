-- A setting's bytes are a part of their sheet: the one that starts where `start_of` says.
use Prim.Native.Nat.{ℕ, zero, suc, ◌+◌, ◌-◌, ◌≤◌}
use mathlib.Core.Path.{◌≡◌, refl, sym, ap, ◌∙◌}
use mathlib.Core.Bool.{Bool, true, false, cond}
use mathlib.Core.List.{List, [], ◌∷◌}
use Rattle.std.specs.Prelude.{Option, Some, None}
use native.Mathlib.Omega.{arith}
use lib.ListN.{length, take, drop, length-drop}
use lib.Seq.{length-take-le, drop-drop, drop_at, take-add}
use lib.Dec.{ltb}
use borrow.Author.Tests.{ltb-false}
use Rattle.sheet_spec.specs.Records.{first_of, row_by, Sheet, sheet_from, sheet_of}
use Rattle.sheet_spec.proofs.Walk.{first-front}
use Rattle.sheet_spec.specs.Counting.{version_of, body_of, beats_of, better_of, counting_from, counting_of, start_from, start_of}

-- in the sheet w the bytes of record b start at n
pub record Stands (w b : List ℕ) (n : ℕ) : Type 0 where
  pub within : n + (length b - 7) ≤ length w
  pub part : take (length b - 7) (drop n w) ≡ body_of b

stands-row : (w l r : List ℕ) (at : ℕ) → drop at w ≡ l → first_of l ≡ Some r → Stands w r (at + 7)
stands-row w l r at e h =
    let f = first-front l r h in
    let m : length (drop at w) ≡ length w - at = length-drop at w in
    let q : length (drop at w) ≡ length l = ap length e in
    let j : 7 + (length r - 7) ≡ length r = omega arith in
    let seven : length (take 7 l) ≡ 7 = length-take-le 7 l (omega arith) in
    record {
      within = omega arith;
      part = ap (take (length r - 7)) (sym (drop-drop 7 at w) ∙ ap (drop 7) e) ∙ sym (ap (drop 7) (f.front ∙ ap (λ (i : ℕ). take i l) (sym j) ∙ take-add 7 (length r - 7) l) ∙ drop_at (take 7 l) (take (length r - 7) (drop 7 l)) 7 seven);
    }

module _ (w : List ℕ) (k : ℕ) where
  -- one record r before the sheet t
  stands-next : (r : List ℕ) (t : Sheet) (at : ℕ) (b : List ℕ) (n : ℕ) → Stands w r (at + 7) → Stands w b n
      → ((b₁ : List ℕ) (n₁ : ℕ) → Stands w b₁ n₁ → Stands w (counting_from k b₁ t) (start_from k (version_of b₁) n₁ (at + length r) t)) → (u : Bool)
      → Stands w (counting_from k (cond u r b) t) (cond u (start_from k (version_of r) (at + 7) (at + length r) t) (start_from k (version_of b) n (at + length r) t))
  stands-next r t at b n good s rec true = rec r (at + 7) good
  stands-next r t at b n good s rec false = rec b n s

  stands_from : (j : ℕ) (l : List ℕ) (at : ℕ) (b : List ℕ) (n : ℕ) → drop at w ≡ drop j l → Stands w b n
      → Stands w (counting_from k b (sheet_from j l)) (start_from k (version_of b) n at (sheet_from j l))
  unfolding sheet_from counting_from start_from better_of
  stands_from j [] at b n e s = s
  stands_from (suc j) (x ∷ xs) at b n e s = stands_from j xs at b n e s
  stands_from zero (x ∷ xs) at b n e s = go (first_of (x ∷ xs)) refl (λ r b₁ n₁ h. stands_from (length r - 1) xs (at + length r) b₁ n₁ (next r h))
    where
      next : (r : List ℕ) → first_of (x ∷ xs) ≡ Some r → drop (at + length r) w ≡ drop (length r - 1) xs
      next r h =
          let f = first-front (x ∷ xs) r h in
          let one : length r ≡ suc (length r - 1) = omega arith in
          sym (drop-drop (length r) at w) ∙ ap (drop (length r)) e ∙ ap (λ (i : ℕ). drop i (x ∷ xs)) one

      go : (o : Option (List ℕ)) → first_of (x ∷ xs) ≡ o
          → ((r b₁ : List ℕ) (n₁ : ℕ) → first_of (x ∷ xs) ≡ Some r → Stands w b₁ n₁
          → Stands w (counting_from k b₁ (sheet_from (length r - 1) xs)) (start_from k (version_of b₁) n₁ (at + length r) (sheet_from (length r - 1) xs)))
          → Stands w (counting_from k b (row_by o (λ k. sheet_from k xs))) (start_from k (version_of b) n at (row_by o (λ k. sheet_from k xs)))
      go None q rec = s
      go (Some r) q rec =
          stands-next r (sheet_from (length r - 1) xs) at b n (stands-row w (x ∷ xs) r at e q) s (λ b₁ n₁. rec r b₁ n₁ q) (beats_of k (version_of b) r)

  pub start-stands : Stands w (counting_of (sheet_of w) k) (start_of (sheet_of w) k)
  unfolding counting_of start_of
  start-stands = stands_from 0 w 0 [] 0 refl (record { within = omega arith; part = refl })
