-- A record of one of the kinds IN and SN is read as that kind's definition reads it; an IN that is let through, and an SN that is refused with 9, have that
-- kind's length and ranges.
use Prim.Native.Nat.{ℕ, ◌≤◌}
use mathlib.Core.Path.{◌≡◌, refl, sym}
use mathlib.Core.Bool.{Bool, true, false, cond, ◌&&◌, true≢false}
use mathlib.Core.List.{List, [], ◌∷◌}
use native.Mathlib.Omega.{arith}
use lib.ListN.{length, get_or}
use lib.Dec.{ltb, eqb}
use Rattle.std.specs.Prelude.{Result, Ok, Err}
use Rattle.refusal.specs.declared.Refusal.{Refusal}
use Rattle.refusal.specs.declared.Refusal.TheVariants.{WrongLength, OutOfRange, RetiredRegister}
use borrow.Author.Tests.{eqb-true, ltb-false, le-ltb}
use Rattle.item_spec.specs.Items.{refusal_of, of_length, record_wait}
use Rattle.item_spec.specs.Ranged.{at_most, line_record, is_retired, sense_record}
use Rattle.item_spec.specs.Kinds.{is_kind, one, decoded_of}
use Rattle.item_spec.specs.declared.Item.TheVariants.{Sense}
use Rattle.item_spec.specs.declared.Item.{Item}

-- the two bytes of a kind
pub kind-bytes : (s : List ℕ) (a b : ℕ) → is_kind s (a ∷ b ∷ []) ≡ true → (get_or s 0 0 ≡ a) × (get_or s 1 0 ≡ b)
unfolding is_kind
kind-bytes s a b h = go (eqb (get_or s 0 0) a) (eqb (get_or s 1 0) b) refl refl h
  where
    go : (x y : Bool) → eqb (get_or s 0 0) a ≡ x → eqb (get_or s 1 0) b ≡ y → (x && y) ≡ true → (get_or s 0 0 ≡ a) × (get_or s 1 0 ≡ b)
    go true true p q h = (eqb-true _ _ p, eqb-true _ _ q)
    go true false p q h = absurd (true≢false (sym h))
    go false y p q h = absurd (true≢false (sym h))

pub kind-line : (s : List ℕ) → is_kind s (73 ∷ 78 ∷ []) ≡ true → decoded_of s ≡ one (line_record s)
unfolding decoded_of is_kind
kind-line s h = let e = kind-bytes s 73 78 h in simp (e.0, e.1)

pub kind-sense : (s : List ℕ) → is_kind s (83 ∷ 78 ∷ []) ≡ true → decoded_of s ≡ one (sense_record s)
unfolding decoded_of is_kind
kind-sense s h = let e = kind-bytes s 83 78 h in simp (e.0, e.1)

-- a refusal of an item is that of what its record decodes to
pub refusal-one : (r : Result Item Refusal) → refusal_of (one r) ≡ refusal_of r
refusal-one (Ok x) = refl
refusal-one (Err r) = refl

-- what is let through has the kind's length
sized-through : (s : List ℕ) (n : ℕ) (x : Result Item Refusal) → refusal_of (of_length s n x) ≡ 0 → (length s ≡ n) × (refusal_of x ≡ 0)
sized-through s n x = go (eqb (length s) n) refl
  where
    go : (t : Bool) → eqb (length s) n ≡ t → refusal_of (cond t x (Err WrongLength)) ≡ 0 → (length s ≡ n) × (refusal_of x ≡ 0)
    go true p h = (eqb-true _ _ p, h)
    go false p h = absurd (omega arith)

-- and values within their ranges
up_to-through : (v most : ℕ) (x : Result Item Refusal) → refusal_of (at_most v most x) ≡ 0 → (v ≤ most) × (refusal_of x ≡ 0)
up_to-through v most x = go (ltb most v) refl
  where
    go : (t : Bool) → ltb most v ≡ t → refusal_of (cond t (Err OutOfRange) x) ≡ 0 → (v ≤ most) × (refusal_of x ≡ 0)
    go true p h = absurd (omega arith)
    go false p h = (ltb-false _ _ p, h)

pub line-through : (s : List ℕ) → refusal_of (line_record s) ≡ 0 → (length s ≡ 6) × (get_or s 5 0 ≤ 1)
unfolding line_record
line-through s h =
    let l = sized-through s 6 _ h in
    let a = up_to-through (get_or s 4 0) 6 _ l.1 in
    (l.0, (up_to-through (get_or s 5 0) 1 _ a.1).0)

-- an SN is refused with 9 exactly where its length and ranges are right and its register goes
pub nine-through : (s : List ℕ) → refusal_of (sense_record s) ≡ 9
    → (length s ≡ 7) × (get_or s 4 0 ≤ 1) × (get_or s 5 0 ≤ 15) × (get_or s 6 0 ≤ 1) × (is_retired (get_or s 5 0) ≡ true)
unfolding sense_record
nine-through s = go (eqb (length s) 7) (ltb 1 (get_or s 4 0)) (ltb 15 (get_or s 5 0)) (ltb 1 (get_or s 6 0)) (is_retired (get_or s 5 0)) refl refl refl refl
  where
    item : Result Item Refusal
    item = Ok (Sense (record_wait s) (get_or s 4 0) (get_or s 5 0) (get_or s 6 0))

    go : (n a b c t : Bool) → eqb (length s) 7 ≡ n → ltb 1 (get_or s 4 0) ≡ a → ltb 15 (get_or s 5 0) ≡ b → ltb 1 (get_or s 6 0) ≡ c
        → refusal_of (cond n (cond a (Err OutOfRange) (cond b (Err OutOfRange) (cond c (Err OutOfRange) (cond t (Err RetiredRegister) item)))) (Err WrongLength)) ≡ 9
        → (length s ≡ 7) × (get_or s 4 0 ≤ 1) × (get_or s 5 0 ≤ 15) × (get_or s 6 0 ≤ 1) × (t ≡ true)
    go true false false false true p q r u h = (eqb-true _ _ p, ltb-false _ _ q, ltb-false _ _ r, ltb-false _ _ u, refl)
    go true false false false false p q r u h = absurd (omega arith)
    go true false false true t p q r u h = absurd (omega arith)
    go true false true c t p q r u h = absurd (omega arith)
    go true true b c t p q r u h = absurd (omega arith)
    go false a b c t p q r u h = absurd (omega arith)

pub nine-where : (s : List ℕ) → length s ≡ 7 → get_or s 4 0 ≤ 1 → get_or s 5 0 ≤ 15 → get_or s 6 0 ≤ 1 → is_retired (get_or s 5 0) ≡ true → sense_record s ≡ Err RetiredRegister
unfolding sense_record
nine-where s n a b c t = simp (n, le-ltb 1 (get_or s 4 0) a, le-ltb 15 (get_or s 5 0) b, le-ltb 1 (get_or s 6 0) c, t)
