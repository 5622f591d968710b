-- The lengths and ranges of the two kinds of records that a conversion looks at.
use Prim.Native.Nat.{ℕ, ◌≤◌}
use mathlib.Core.Path.{◌≡◌, refl, sym, ap, ◌∙◌}
use mathlib.Core.Bool.{Bool, true, false, cond, true≢false}
use mathlib.Core.List.{List, [], ◌∷◌}
use native.Mathlib.Omega.{arith}
use lib.ListN.{length, get_or, drop, length-drop}
use lib.Seq.{get_or-drop}
use lib.Dec.{eqb}
use borrow.Author.Tests.{eqb-true}
use Rattle.item_spec.specs.Items.{refusal_of}
use Rattle.item_spec.specs.Ranged.{is_retired, line_record, sense_record}
use Rattle.item_spec.specs.Kinds.{is_kind, decoded_of}
use Rattle.item_spec.proofs.KindLaws.{kind-line, kind-sense, refusal-one, line-through, nine-through}
use Rattle.capture_spec.specs.Capture.{body_of, retired_of, line0_of}

-- an IN that is let through has eight bytes, and a level
pub line-long : (r : List ℕ) → is_kind (body_of r) (73 ∷ 78 ∷ []) ≡ true → refusal_of (decoded_of (body_of r)) ≡ 0 → (length r ≡ 8) × (get_or r 7 0 ≤ 1)
line-long r k h =
    let l = line-through (body_of r) (sym (refusal-one (line_record (body_of r))) ∙ ap refusal_of (sym (kind-line (body_of r) k)) ∙ h) in
    let n : length (drop 2 r) ≡ 6 = l.0 in
    let v : get_or (drop 2 r) 5 0 ≤ 1 = l.1 in
    (omega (arith, n, length-drop 2 r), rw (← get_or-drop 2 r 5 0) v)

-- what a valid retired SN is
pub retired-through : (r : List ℕ) → retired_of r ≡ true
    → (is_kind (body_of r) (83 ∷ 78 ∷ []) ≡ true) × (length r ≡ 9) × (get_or r 6 0 ≤ 1) × (is_retired (get_or r 7 0) ≡ true) × (get_or r 8 0 ≤ 1)
unfolding retired_of
retired-through r = go (is_kind (body_of r) (83 ∷ 78 ∷ [])) (eqb (refusal_of (decoded_of (body_of r))) 9) refl refl
  where
    go : (k t : Bool) → is_kind (body_of r) (83 ∷ 78 ∷ []) ≡ k → eqb (refusal_of (decoded_of (body_of r))) 9 ≡ t → cond k t false ≡ true
        → (k ≡ true) × (length r ≡ 9) × (get_or r 6 0 ≤ 1) × (is_retired (get_or r 7 0) ≡ true) × (get_or r 8 0 ≤ 1)
    go true true q p h =
        let n = nine-through (body_of r) (sym (refusal-one (sense_record (body_of r))) ∙ ap refusal_of (sym (kind-sense (body_of r) q)) ∙ eqb-true _ _ p) in
        let l : length (drop 2 r) ≡ 7 = n.0 in (
          refl,
          omega (arith, l, length-drop 2 r),
          rw (← get_or-drop 2 r 4 0) n.1,
          rw (← get_or-drop 2 r 5 0) n.4,
          rw (← get_or-drop 2 r 6 0) n.3,
        )
    go true false q p h = absurd (true≢false (sym h))
    go false t q p h = absurd (true≢false (sym h))

pub retired-long : (r : List ℕ) → retired_of r ≡ true → length r ≡ 9
retired-long r h = (retired-through r h).1

-- what a valid IN on line 0 is
pub line0-long : (r : List ℕ) → line0_of r ≡ true → (length r ≡ 8) × (get_or r 7 0 ≤ 1)
unfolding line0_of
line0-long r = go (is_kind (body_of r) (73 ∷ 78 ∷ [])) (eqb (refusal_of (decoded_of (body_of r))) 0) refl refl
  where
    go : (k t : Bool) → is_kind (body_of r) (73 ∷ 78 ∷ []) ≡ k → eqb (refusal_of (decoded_of (body_of r))) 0 ≡ t → cond k (cond t (eqb (get_or r 6 0) 0) false) false ≡ true → (length r ≡ 8) × (get_or r 7 0 ≤ 1)
    go true true q p h = line-long r q (eqb-true _ _ p)
    go true false q p h = absurd (true≢false (sym h))
    go false t q p h = absurd (true≢false (sym h))
