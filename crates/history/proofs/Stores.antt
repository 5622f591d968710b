-- What a complete write does to each part of the store, in the history's words.
use mathlib.Core.Path.{◌≡◌, refl}
use mathlib.Core.Bool.{Bool, true, false, cond, false≢true}
use mathlib.Core.List.{List}
use mathlib.Core.Option.{Option, none, some}
use Prim.Native.Nat.{ℕ, ◌<◌}
use lib.Dec.{eqb}
use lib.ListN.{length, get_or, set, length-set}
use lib.Seq.{get_or-set_same, get_or-set_other}
use borrow.Author.Tests.{eqb-true, eqb-false, not-false}
use Rattle.clock_spec.specs.Writable.{writable}
use Rattle.clock_spec.specs.Shared.{Written, bit7}
use Rattle.clock_spec.specs.Store.{put, act}
use Rattle.clock_spec.specs.declared.Target.{Target}
use Rattle.clock_spec.specs.declared.Target.TheVariants.{Seconds, Test, Protect, Cell}
use Rattle.clock_spec.specs.declared.Store.{Store}
use Rattle.history.specs.History.{protect_by, clears, same_target, byte_to, with_replaced}

abbrev wr : Target → ℕ → Option Written
wr t b = some (record { to = t; byte = b })

-- A write of b to t, with protect p before it.
abbrev done : Target → ℕ → Bool → Store → Store
done t b p s = cond (writable t p) (put t b s) s

protect-done : (t : Target) (b : ℕ) (p : Bool) (s : Store) → (done t b p s).protect ≡ protect_by (wr t b) s.protect
unfolding put
protect-done (Seconds k) b true s = refl
protect-done (Seconds k) b false s = refl
protect-done Test b true s = refl
protect-done Test b false s = refl
protect-done Protect b p s = refl
protect-done (Cell i) b true s = refl
protect-done (Cell i) b false s = refl

seconds-done : (t : Target) (b : ℕ) (p : Bool) (s : Store) → (done t b p s).seconds ≡ with_replaced (cond p none (wr t b)) s.seconds
unfolding put
seconds-done (Seconds k) b true s = refl
seconds-done (Seconds k) b false s = refl
seconds-done Test b true s = refl
seconds-done Test b false s = refl
seconds-done Protect b true s = refl
seconds-done Protect b false s = refl
seconds-done (Cell i) b true s = refl
seconds-done (Cell i) b false s = refl

test-done : (t : Target) (b : ℕ) (p : Bool) (s : Store) → (done t b p s).test ≡ byte_to Test (cond p none (wr t b)) s.test
unfolding put
test-done (Seconds k) b true s = refl
test-done (Seconds k) b false s = refl
test-done Test b true s = refl
test-done Test b false s = refl
test-done Protect b true s = refl
test-done Protect b false s = refl
test-done (Cell i) b true s = refl
test-done (Cell i) b false s = refl

cell_set : (l : List ℕ) (i j b : ℕ) (t : Bool) → eqb i j ≡ t → i < length l → get_or (set l j b) i 0 ≡ cond t b (get_or l i 0)
cell_set l i j b true q h = let m : i ≡ j = eqb-true i j q in rw (← m) (get_or-set_same l i b 0 h)
cell_set l i j b false q h = get_or-set_other l j i b 0 (eqb-false i j q)

cell-done : (i : ℕ) (t : Target) (b : ℕ) (p : Bool) (s : Store) → i < length s.cells
    → get_or (done t b p s).cells i 0 ≡ byte_to (Cell i) (cond p none (wr t b)) (get_or s.cells i 0)
unfolding put
cell-done i (Seconds k) b true s h = refl
cell-done i (Seconds k) b false s h = refl
cell-done i Test b true s h = refl
cell-done i Test b false s h = refl
cell-done i Protect b true s h = refl
cell-done i Protect b false s h = refl
cell-done i (Cell j) b true s h = refl
cell-done i (Cell j) b false s h = cell_set s.cells i j b (eqb i j) refl h

length-done : (t : Target) (b : ℕ) (p : Bool) (s : Store) → length (done t b p s).cells ≡ length s.cells
unfolding put
length-done (Seconds k) b true s = refl
length-done (Seconds k) b false s = refl
length-done Test b true s = refl
length-done Test b false s = refl
length-done Protect b p s = refl
length-done (Cell i) b true s = refl
length-done (Cell i) b false s = length-set s.cells i b

-- The same where there may be no write.
none-either : (p : Bool) → ◌≡◌ {A = Option Written} (cond p none none) none
none-either true = refl
none-either false = refl

pub protect-act : (o : Option Written) (s : Store) → (act o s).protect ≡ protect_by o s.protect
unfolding act
protect-act none s = refl
protect-act (some w) s = protect-done w.to w.byte s.protect s

pub seconds-act : (o : Option Written) (s : Store) → (act o s).seconds ≡ with_replaced (cond s.protect none o) s.seconds
unfolding act
seconds-act none s = rw none-either
seconds-act (some w) s = seconds-done w.to w.byte s.protect s

pub test-act : (o : Option Written) (s : Store) → (act o s).test ≡ byte_to Test (cond s.protect none o) s.test
unfolding act
test-act none s = rw none-either
test-act (some w) s = test-done w.to w.byte s.protect s

pub cell-act : (i : ℕ) (o : Option Written) (s : Store) → i < length s.cells
    → get_or (act o s).cells i 0 ≡ byte_to (Cell i) (cond s.protect none o) (get_or s.cells i 0)
unfolding act
cell-act i none s h = rw none-either
cell-act i (some w) s h = cell-done i w.to w.byte s.protect s h

pub length-act : (o : Option Written) (s : Store) → length (act o s).cells ≡ length s.cells
unfolding act
length-act none s = refl
length-act (some w) s = length-done w.to w.byte s.protect s

-- Without a clearing write protect stays set.
pub kept-protect : (o : Option Written) (p : Bool) → clears o ≡ false → p ≡ true → protect_by o p ≡ true
kept-protect none p k q = q
kept-protect (some w) p k q = go w.to k
  where
    go : (t : Target) → clears (wr t w.byte) ≡ false → protect_by (wr t w.byte) p ≡ true
    go (Seconds j) k = q
    go Test k = q
    go Protect k = not-false (bit7 w.byte) k
    go (Cell i) k = q

-- Under protect a write leaves the cells and the seconds.
closed-done : (t : Target) (b : ℕ) (p : Bool) (s : Store) → p ≡ true → ((done t b p s).cells ≡ s.cells) × ((done t b p s).seconds ≡ s.seconds)
unfolding put
closed-done t b false s q = absurd (false≢true q)
closed-done (Seconds j) b true s q = (refl, refl)
closed-done Test b true s q = (refl, refl)
closed-done Protect b true s q = (refl, refl)
closed-done (Cell i) b true s q = (refl, refl)

pub closed : (o : Option Written) (s : Store) → s.protect ≡ true → ((act o s).cells ≡ s.cells) × ((act o s).seconds ≡ s.seconds)
unfolding act
closed none s p = (refl, refl)
closed (some w) s p = closed-done w.to w.byte s.protect s p
