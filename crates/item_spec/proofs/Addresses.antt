-- Document 01's 32 addresses, both ways: each is found, and nothing else is.
use Prim.Native.Nat.{ℕ, ◌+◌, ◌-◌, ◌*◌, ◌/◌, ◌%◌, ◌≤◌, ◌<◌}
use mathlib.Core.Path.{◌≡◌, refl, ◌∙◌}
use mathlib.Core.Bool.{Bool, true, false, cond}
use native.Mathlib.Omega.{arith}
use lib.Dec.{ltb, eqb}
use Rattle.std.specs.Prelude.{Option, Some, None}
use borrow.Author.Tests.{ltb-false, eqb-true, lt-ltb, le-ltb}
use Rattle.item_spec.specs.Addresses.{place_from, either_of, found_of}
use Rattle.item_spec.specs.declared.Location.TheVariants.{Via, Iwm}

place_at : (base r : ℕ) → r < 16 → place_from (base + 512 * r) base ≡ Some r
unfolding place_from
place_at base r h =
    let e : base + 512 * r - base ≡ 512 * r = omega arith in
    let m : 512 * r % 512 ≡ 0 = omega arith in
    let q : 512 * r / 512 ≡ r = omega arith in
    simp (le-ltb (base + 512 * r) base (omega arith), e, le-ltb (15 * 512) (512 * r) (omega arith), m, q)

at_place : (a base r : ℕ) → place_from a base ≡ Some r → (r < 16) × (a ≡ base + 512 * r)
unfolding place_from
at_place a base r = go (ltb a base) (ltb (15 * 512) (a - base)) (eqb ((a - base) % 512) 0) refl refl refl
  where
    go : (x y z : Bool) → ltb a base ≡ x → ltb (15 * 512) (a - base) ≡ y → eqb ((a - base) % 512) 0 ≡ z
        → ◌≡◌ {A = Option ℕ} (cond x None (cond y None (cond z (Some ((a - base) / 512)) None))) (Some r) → (r < 16) × (a ≡ base + 512 * r)
    go true y z p q t e = let h : ◌≡◌ {A = ℕ} 0 1 = cc in absurd (omega arith)
    go false true z p q t e = let h : ◌≡◌ {A = ℕ} 0 1 = cc in absurd (omega arith)
    go false false false p q t e = let h : ◌≡◌ {A = ℕ} 0 1 = cc in absurd (omega arith)
    go false false true p q t e =
        let h : (a - base) / 512 ≡ r = cc in
        let b : base ≤ a = ltb-false _ _ p in
        let k : a - base ≤ 7680 = ltb-false _ _ q in
        let m : (a - base) % 512 ≡ 0 = eqb-true _ _ t in
        (omega arith, omega arith)

-- "Register r (0 to 15) is at $EFE1FE + 512r."
pub via-at : (r : ℕ) → r < 16 → found_of (0xefe1fe + 512 * r) ≡ Some (Via r)
unfolding found_of
via-at r h = simp (place_at 0xefe1fe r h)

pub found-via : (a r : ℕ) → found_of a ≡ Some (Via r) → (r < 16) × (a ≡ 0xefe1fe + 512 * r)
unfolding found_of
found-via a r = go (place_from a 0xefe1fe) (place_from a 0xdfe1ff) refl
  where
    go : (x y : Option ℕ) → place_from a 0xefe1fe ≡ x → either_of x y ≡ Some (Via r) → (r < 16) × (a ≡ 0xefe1fe + 512 * r)
    go (Some q) y p e = at_place a 0xefe1fe r (p ∙ (cc))
    go None (Some k) p e = let h : ◌≡◌ {A = ℕ} 0 1 = cc in absurd (omega arith)
    go None None p e = let h : ◌≡◌ {A = ℕ} 0 1 = cc in absurd (omega arith)

-- "Location k (0 to 15) is at $DFE1FF + 512k."
pub iwm-at : (k : ℕ) → k < 16 → found_of (0xdfe1ff + 512 * k) ≡ Some (Iwm k)
unfolding found_of place_from
iwm-at k h = simp (below, place_at 0xdfe1ff k h)
  where
    below : place_from (0xdfe1ff + 512 * k) 0xefe1fe ≡ None
    below = simp (lt-ltb (0xdfe1ff + 512 * k) 0xefe1fe (omega arith))

pub found-iwm : (a k : ℕ) → found_of a ≡ Some (Iwm k) → (k < 16) × (a ≡ 0xdfe1ff + 512 * k)
unfolding found_of
found-iwm a k = go (place_from a 0xefe1fe) (place_from a 0xdfe1ff) refl
  where
    go : (x y : Option ℕ) → place_from a 0xdfe1ff ≡ y → either_of x y ≡ Some (Iwm k) → (k < 16) × (a ≡ 0xdfe1ff + 512 * k)
    go (Some q) y p e = let h : ◌≡◌ {A = ℕ} 0 1 = cc in absurd (omega arith)
    go None (Some q) p e = at_place a 0xdfe1ff k (p ∙ (cc))
    go None None p e = let h : ◌≡◌ {A = ℕ} 0 1 = cc in absurd (omega arith)
