-- The command's bytes mean what is asked: computed for every cell and seconds byte, on both chips.
use Prim.Native.Nat.{ℕ, ◌+◌, ◌-◌, ◌*◌, ◌/◌, ◌%◌, ◌≤◌, ◌<◌}
use mathlib.Core.Path.{◌≡◌, refl}
use mathlib.Core.Bool.{Bool, true, false, cond}
use native.Mathlib.Omega.{arith}
use lib.Dec.{ltb, leb}
use borrow.Author.Tests.{le-ltb, ltb-true, ltb-false, le-leb, lt-leb}
use Rattle.clock_spec.specs.Command.{cells_of, either, bit_number}
use Rattle.clock_spec.specs.Patterns.{meant, second_meant}
use Rattle.clock_spec.proofs.Commands.{listed, at_each}
use Rattle.clock_spec.specs.declared.Chip.{Chip}
use Rattle.clock_spec.specs.declared.Chip.TheVariants.{First, Later}
use Rattle.clock_spec.specs.declared.Target.TheVariants.{Seconds, Protect, Cell}
use Rattle.clock_spec.specs.declared.Command.TheVariants.{Write, Extended}
use Rattle.transaction_spec.specs.Asked.{cell_byte, command_for, is_extended, second_byte}
use Rattle.transaction_spec.proofs.Chip.{Means}

pub seconds-named : (k : Chip) (z : Bool) (n : ℕ) → n < 4 → meant k (command_for z (Seconds n)) ≡ either z (Seconds n)
unfolding meant
seconds-named k z n h = at_each (λ (i : ℕ). meant k (command_for z (Seconds i))) (λ (i : ℕ). either z (Seconds i)) 4 (all k z) n h
  where
    all : (k : Chip) (z : Bool) → listed (λ (i : ℕ). meant k (command_for z (Seconds i))) 4 ≡ listed (λ (i : ℕ). either z (Seconds i)) 4
    all First true = refl
    all First false = refl
    all Later true = refl
    all Later false = refl

pub protect-named : (k : Chip) → meant k (command_for false Protect) ≡ Write Protect
unfolding meant
protect-named First = refl
protect-named Later = refl

-- Cells 0 to 19, on both chips.
short-named : (k : Chip) (z : Bool) (i : ℕ) → i < 20 → meant k (command_for z (Cell i)) ≡ either z (Cell i)
unfolding meant cell_byte
short-named k z i h = at_each (λ (j : ℕ). meant k (command_for z (Cell j))) (λ (j : ℕ). either z (Cell j)) 20 (all k z) i h
  where
    all : (k : Chip) (z : Bool) → listed (λ (j : ℕ). meant k (command_for z (Cell j))) 20 ≡ listed (λ (j : ℕ). either z (Cell j)) 20
    all First true = refl
    all First false = refl
    all Later true = refl
    all Later false = refl

-- Two bytes name any cell of the later chip.
abbrev first_of : Bool → ℕ → ℕ
first_of z i = 56 + i / 32 + 128 * bit_number z

first-named : (z : Bool) (i : ℕ) → i < 256 → meant Later (first_of z i) ≡ Extended z (first_of z i % 8)
unfolding meant
first-named z i h = at_each (λ (j : ℕ). meant Later (first_of z j)) (λ (j : ℕ). Extended z (first_of z j % 8)) 256 (all z) i h
  where
    all : (z : Bool) → listed (λ (j : ℕ). meant Later (first_of z j)) 256 ≡ listed (λ (j : ℕ). Extended z (first_of z j % 8)) 256
    all true = refl
    all false = refl

second-named : (z : Bool) (i : ℕ) → i < 256 → second_meant z (first_of z i % 8) (4 * (i % 32)) ≡ either z (Cell i)
unfolding second_meant
second-named z i h = at_each (λ (j : ℕ). second_meant z (first_of z j % 8) (4 * (j % 32))) (λ (j : ℕ). either z (Cell j)) 256 (all z) i h
  where
    all : (z : Bool) → listed (λ (j : ℕ). second_meant z (first_of z j % 8) (4 * (j % 32))) 256 ≡ listed (λ (j : ℕ). either z (Cell j)) 256
    all true = refl
    all false = refl

first-is : (z : Bool) (i : ℕ) → 20 ≤ i → command_for z (Cell i) ≡ first_of z i
unfolding cell_byte
first-is z i h = simp (le-ltb i 16 (omega arith), le-ltb i 20 h)

long-named : (z : Bool) (i : ℕ) → 20 ≤ i → i < 256 → Means Later true z (command_for z (Cell i)) (second_byte (Cell i)) (Cell i)
long-named z i g h = rw (first-is z i g) (first-named z i h, second-named z i h)

pub cell-named : (k : Chip) (z : Bool) (i : ℕ) → i < cells_of k → Means k (is_extended (Cell i)) z (command_for z (Cell i)) (second_byte (Cell i)) (Cell i)
cell-named k z i h = go k h (ltb i 20) refl
  where
    go : (x : Chip) → i < cells_of x → (t : Bool) → ltb i 20 ≡ t → Means x (leb 20 i) z (command_for z (Cell i)) (second_byte (Cell i)) (Cell i)
    go x l true e = rw (lt-leb 20 i (ltb-true _ _ e)) (short-named x z i (ltb-true _ _ e))
    go First l false e = absurd (omega (arith, ltb-false i 20 e))
    go Later l false e = rw (le-leb 20 i (ltb-false _ _ e)) (long-named z i (ltb-false _ _ e) l)

pub seconds-small : (z : Bool) (n : ℕ) → n < 4 → command_for z (Seconds n) < 256
seconds-small true n h = omega arith
seconds-small false n h = omega arith

pub cell-small : (z : Bool) (i : ℕ) → i < 256 → command_for z (Cell i) < 256
unfolding cell_byte
cell-small z i h = go z (ltb i 16) refl (ltb i 20) refl
  where
    go : (z t : Bool) → ltb i 16 ≡ t → (u : Bool) → ltb i 20 ≡ u → cond t (65 + 4 * i) (cond u (33 + 4 * (i - 16)) (56 + i / 32)) + 128 * bit_number z < 256
    go true true e u f = omega (arith, ltb-true i 16 e)
    go true false e true f = omega (arith, ltb-true i 20 f)
    go true false e false f = omega arith
    go false true e u f = omega (arith, ltb-true i 16 e)
    go false false e true f = omega (arith, ltb-true i 20 f)
    go false false e false f = omega arith

pub second-small : (i : ℕ) → second_byte (Cell i) < 256
second-small i = omega arith
