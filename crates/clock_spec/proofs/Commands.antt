-- The commands of both chips, all 256 first bytes.
use mathlib.Core.Path.{◌≡◌, refl}
use mathlib.Core.Bool.{Bool, true, false}
use mathlib.Core.List.{List, [], ◌∷◌}
use Prim.Native.Nat.{ℕ, zero, suc, ◌+◌, ◌<◌}
use native.Mathlib.Omega.{arith}
use lib.Dec.{eqb}
use borrow.Author.Tests.{eqb-true, eqb-false}
use Rattle.clock_spec.specs.Patterns.{meant, second_meant, extend}
use Rattle.clock_spec.specs.declared.Chip.{Chip}
use Rattle.clock_spec.specs.declared.Chip.TheVariants.{First, Later}
use Rattle.clock_spec.specs.declared.Target.TheVariants.{Cell}
use Rattle.clock_spec.specs.declared.Command.{Command}
use Rattle.clock_spec.specs.declared.Command.TheVariants.{Write, Read, Extended, Illegal}

-- What a function gives for the numbers below n, the last first.
abbrev pub listed : {A : Type 0} → (ℕ → A) → ℕ → List A
listed f zero = []
listed f (suc n) = f n ∷ listed f n

last-or-before : {A : Type 0} (f g : ℕ → A) (n c : ℕ) (t : Bool) → eqb c n ≡ t → f n ≡ g n → (c < n → f c ≡ g c) → c < suc n → f c ≡ g c
last-or-before f g n c true e h k l = cc (eqb-true c n e)
last-or-before f g n c false e h k l = k (omega (arith, eqb-false c n e))

-- Two lists that agree, at each number.
pub at_each : {A : Type 0} (f g : ℕ → A) (n : ℕ) → listed f n ≡ listed g n → (c : ℕ) → c < n → f c ≡ g c
at_each f g zero h c l = absurd (omega arith)
at_each f g (suc n) h c l =
    let r : listed f n ≡ listed g n = cc in
    last-or-before f g n c (eqb c n) refl (cc) (at_each f g n r c) l

abbrev pub one : Command → ℕ
one (Write t) = 1
one (Read t) = 1
one (Extended z a) = 1
one Illegal = 0

-- How many of the bytes below n are legal commands, or the first byte of one.
abbrev pub legals : Chip → ℕ → ℕ
legals k zero = 0
legals k (suc n) = legals k n + one (meant k n)

-- "That is 50 legal bytes of 256." "66 legal first bytes on the later chip, 50 on the first."
pub fifty : legals First 256 ≡ 50
unfolding meant
fifty = refl

pub sixty-six : legals Later 256 ≡ 66
unfolding meant
sixty-six = refl

-- Of the 32 second bytes of a form that is taken each names another cell of the eight blocks: how many second bytes below n are legal after a first one.
abbrev pub seconds : Bool → ℕ → ℕ → ℕ
seconds z a zero = 0
seconds z a (suc n) = seconds z a n + one (second_meant z a n)

pub thirty_two : (seconds false 7 256 ≡ 32) × (seconds true 5 256 ≡ 32)
unfolding second_meant
thirty_two = (refl, refl)

-- "$B5 and $B1 are ignored." "$21 is 16, $2D is 19, $7D is 15." W-206: "Cell $FF is written by $3F $7C"; the first chip knows no $3F.
pub record Named : Type 0 where
  pub b5 : (meant First 0xB5 ≡ Illegal) × (meant Later 0xB5 ≡ Illegal)
  pub b1 : (meant First 0xB1 ≡ Illegal) × (meant Later 0xB1 ≡ Illegal)
  pub cell16 : (meant First 0x21 ≡ Write (Cell 16)) × (meant Later 0x21 ≡ Write (Cell 16))
  pub cell19 : (meant First 0x2D ≡ Write (Cell 19)) × (meant Later 0x2D ≡ Write (Cell 19))
  pub cell15 : (meant First 0x7D ≡ Write (Cell 15)) × (meant Later 0x7D ≡ Write (Cell 15))
  pub cell_ff : extend (meant Later 0x3F) 0x7C ≡ Write (Cell 0xFF)
  pub cell_ff-read : extend (meant Later 0xBF) 0x7C ≡ Read (Cell 0xFF)
  pub cell0 : extend (meant Later 0x38) 0x00 ≡ Write (Cell 0)
  -- abc is 001 and defgh 10110: the halves are not exchanged.
  pub cell36 : extend (meant Later 0x39) 0x58 ≡ Write (Cell 0x36)
  -- Bits 7, 1 and 0 of the second byte.
  pub other-forms : (extend (meant Later 0x3F) 0xFC ≡ Illegal) × (extend (meant Later 0x3F) 0x7E ≡ Illegal) × (extend (meant Later 0x3F) 0x7D ≡ Illegal)
  pub first-chip : (meant First 0x3F ≡ Illegal) × (meant First 0xB8 ≡ Illegal)

pub named : Named
unfolding meant second_meant
named =
    record {
      b5 = (refl, refl);
      b1 = (refl, refl);
      cell16 = (refl, refl);
      cell19 = (refl, refl);
      cell15 = (refl, refl);
      cell_ff = refl;
      cell_ff-read = refl;
      cell0 = refl;
      cell36 = refl;
      other-forms = (refl, refl, refl);
      first-chip = (refl, refl);
    }
