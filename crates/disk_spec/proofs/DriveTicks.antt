-- The ticks of a drive, in closed form.
use Prim.Native.Nat.{ℕ, zero, suc, ◌+◌, ◌-◌, ◌≤◌, ◌<◌}
use mathlib.Core.Path.{◌≡◌, refl, ap, ◌∙◌}
use mathlib.Core.Bool.{Bool, false}
use native.Mathlib.Nat.{add-zero, add-suc, zero-add}
use native.Mathlib.Omega.{arith}
use borrow.Author.Tests.{eq-eqb, ne_eqb}
use lib.Dec.{eqb}
use Rattle.disk_spec.specs.Drive.{with_step, after_step, drive_tick_by, tick_drive, drive_ticks}
use Rattle.disk_spec.specs.declared.Drive.{Drive}

-- ---- waiting a ticks and then b, for all whole numbers
pub drive_ticks-add : (a b : ℕ) (d : Drive) → drive_ticks (a + b) d ≡ drive_ticks b (drive_ticks a d)
unfolding drive_ticks
drive_ticks-add a zero d = ap (λ (k : ℕ). drive_ticks k d) (add-zero a)
drive_ticks-add a (suc b) d = ap (λ (k : ℕ). drive_ticks k d) (add-suc a b) ∙ ap tick_drive (drive_ticks-add a b d)

-- ---- the ticks in closed form

-- With no step pending nothing happens.
pub idle : (n : ℕ) (d : Drive) → d.pending ≡ 0 → drive_ticks n d ≡ d
unfolding drive_ticks tick_drive
idle zero d e = refl
idle (suc n) d e = ap tick_drive (idle n d e) ∙ ap (λ (z : Bool). drive_tick_by z (eqb d.pending 1) d) (eq-eqb d.pending 0 e)

-- A tick that is not the last.
counted : (k : ℕ) (d : Drive) → tick_drive (with_step d (suc (suc k)) d.heading) ≡ with_step d (suc k) d.heading
unfolding tick_drive
counted k d =
    let z : eqb (suc (suc k)) 0 ≡ false = ne_eqb _ _ (λ (e : suc (suc k) ≡ 0). omega arith) in
    let l : eqb (suc (suc k)) 1 ≡ false = ne_eqb _ _ (λ (e : suc (suc k) ≡ 1). omega arith) in
    let m : suc (suc k) - 1 ≡ suc k = omega arith in
    simp (z, l, m)

-- n ticks of n + k + 1 leave k + 1.
down : (n k : ℕ) (d : Drive) → drive_ticks n (with_step d (n + suc k) d.heading) ≡ with_step d (suc k) d.heading
unfolding drive_ticks
down zero k d = ap (λ (m : ℕ). with_step d m d.heading) (zero-add (suc k))
down (suc n) k d =
    let e : suc n + suc k ≡ n + suc (suc k) = omega arith in
    ap (λ (m : ℕ). tick_drive (drive_ticks n (with_step d m d.heading))) e ∙ ap tick_drive (down n (suc k) d) ∙ counted k d

-- Before a step's end.
pub early : (n : ℕ) (d : Drive) → n < d.pending → drive_ticks n d ≡ with_step d (d.pending - n) d.heading
early n d h =
    let e : d.pending ≡ n + suc (d.pending - n - 1) = omega arith in
    let f : suc (d.pending - n - 1) ≡ d.pending - n = omega arith in
    ap (λ (m : ℕ). drive_ticks n (with_step d m d.heading)) e
    ∙ down n (d.pending - n - 1) d
    ∙ ap (λ (m : ℕ). with_step d m d.heading) f

-- The last tick.
last : (d : Drive) → tick_drive (with_step d 1 d.heading) ≡ after_step d
unfolding tick_drive
last d = refl

-- At a step's end, and after it.
pub late : (n : ℕ) (d : Drive) → (d.pending ≡ 0 → ⊥) → d.pending ≤ n → drive_ticks n d ≡ after_step d
unfolding drive_ticks
late n d z h =
    let a = d.pending - 1 in
    let r = n - d.pending in
    let e : n ≡ suc a + r = omega (arith, z) in
    let o : d.pending - a ≡ 1 = omega (arith, z) in
    ap (λ (m : ℕ). drive_ticks m d) e
    ∙ drive_ticks-add (suc a) r d
    ∙ ap (drive_ticks r)
    (ap tick_drive (early a d (omega (arith, z)) ∙ ap (λ (m : ℕ). with_step d m d.heading) o) ∙ last d)
    ∙ idle r (after_step d) refl
