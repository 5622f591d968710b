-- The table is the patterns, and so is the plain engine: one computed test of each over the 256 bytes, for each chip, carried to each of them.
use mathlib.Core.Path.{◌≡◌, refl, sym, ap, ◌∙◌}
use mathlib.Core.Bool.{Bool, true, false, cond, ◌&&◌}
use Prim.Native.Nat.{ℕ, zero, suc, ◌+◌, ◌*◌, ◌/◌, ◌%◌, ◌<◌}
use native.Mathlib.Omega.{arith}
use lib.Dec.{ltb, eqb}
use lib.ListN.{get_or}
use borrow.Author.Tests.{ltb-true}
use Rattle.levels.proofs.Laws.{both}
use Rattle.clock_spec.specs.Command.{either, Legal}
use Rattle.clock_spec.specs.Patterns.{second_marks, bits_high_first, fits, digits, meant, second_meant}
use Rattle.clock_spec.proofs.Commands.{listed, at_each, one}
use Rattle.clock_spec.proofs.CommandRange.{meant-legal}
use Rattle.clock_spec.specs.declared.Chip.{Chip}
use Rattle.clock_spec.specs.declared.Chip.TheVariants.{First, Later}
use Rattle.clock_spec.specs.declared.Target.TheVariants.{Cell}
use Rattle.clock_spec.specs.declared.Command.{Command}
use Rattle.clock_spec.specs.declared.Command.TheVariants.{Write, Read, Extended, Illegal}
use Rattle.clock_command.specs.Decode.{decode, short_of, second_of, HighInRange}
use Rattle.clock_command.specs.Table.{table, entry_of}

-- What the table says of a first byte.
abbrev table_of : Chip → ℕ → Command
table_of k c = entry_of k (get_or table c 0)

whole-table : (k : Chip) → listed (table_of k) 256 ≡ listed (meant k) 256
unfolding entry_of table meant
whole-table First = refl
whole-table Later = refl

-- W-207: "every entry agrees with the bit patterns of document 01 and W-206".
pub table-agrees : (k : Chip) (c : ℕ) → c < 256 → entry_of k (get_or table c 0) ≡ meant k c
table-agrees k c l = at_each (table_of k) (meant k) 256 (whole-table k) c l

computed : (k : Chip) → listed (decode k) 256 ≡ listed (meant k) 256
unfolding decode short_of meant
computed First = refl
computed Later = refl

-- Every first byte means to the plain engine what the patterns say.
pub agrees : (k : Chip) (c : ℕ) → c < 256 → decode k c ≡ meant k c
agrees k c l = at_each (decode k) (meant k) 256 (computed k) c l

-- How many of the entries are legal first bytes: "66 legal first bytes on the later chip, 50 on the first".
abbrev pub entries : Chip → ℕ → ℕ
entries k zero = 0
entries k (suc n) = entries k n + one (table_of k n)

pub entry-counts : (entries Later 256 ≡ 66) × (entries First 256 ≡ 50)
unfolding entry_of table
entry-counts = (refl, refl)

-- Which second bytes are taken.
abbrev taken : ℕ → Bool
taken d = ltb d 128 && eqb (d % 4) 0

abbrev fitting : ℕ → Bool
fitting d = fits second_marks (bits_high_first 8 d)

takings : listed taken 256 ≡ listed fitting 256
takings = refl

-- Their digits, after those of the first byte.
abbrev own : ℕ → ℕ
own d = digits 0 second_marks (bits_high_first 8 d)

owns : listed own 256 ≡ listed (λ (d : ℕ). d / 4 % 32) 256
owns = refl

after_first : (a d : ℕ) → digits a second_marks (bits_high_first 8 d) ≡ 32 * a + own d
after_first a d = omega arith

digits_are : (a d : ℕ) → d < 256 → taken d ≡ true → digits a second_marks (bits_high_first 8 d) ≡ 32 * a + d / 4
digits_are a d l e =
    omega (
      arith,
      after_first a d,
      at_each own (λ (d : ℕ). d / 4 % 32) 256 owns d l,
      ltb-true d 128 (both (ltb d 128) (eqb (d % 4) 0) e).0,
    )

pub second-agrees : (z : Bool) (a d : ℕ) → d < 256 → second_of z a d ≡ second_meant z a d
unfolding second_of second_meant
second-agrees z a d l =
    go (taken d) refl
    ∙ ap (λ (t : Bool). cond t (either z (Cell (digits a second_marks (bits_high_first 8 d)))) Illegal) (at_each taken fitting 256 takings d l)
  where
    go : (t : Bool) → taken d ≡ t
        → cond t (either z (Cell (32 * a + d / 4))) Illegal ≡ cond t (either z (Cell (digits a second_marks (bits_high_first 8 d)))) Illegal
    go true e = ap (λ (i : ℕ). either z (Cell i)) (sym (digits_are a d l e))
    go false e = refl

pub high : (k : Chip) (c : ℕ) → HighInRange (meant k c)
high k c = go (meant k c) (meant-legal k c)
  where
    go : (x : Command) → Legal k x → HighInRange x
    go (Write t) h = tt
    go (Read t) h = tt
    go (Extended z a) h = h.1
    go Illegal h = tt
