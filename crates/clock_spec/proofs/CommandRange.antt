-- What a command can name, and a bit's number.
use mathlib.Core.Path.{◌≡◌, refl, ap}
use mathlib.Core.Bool.{Bool, true, false, cond}
use mathlib.Core.List.{List, [], ◌∷◌, ◌++◌}
use mathlib.Core.Option.{Option, none, some}
use Prim.Native.Nat.{ℕ, ◌+◌, ◌*◌, ◌/◌, ◌%◌, ◌^◌, ◌≤◌, ◌<◌}
use native.Mathlib.Omega.{arith}
use lib.Dec.{eqb}
use mir.Val.{bool_byte}
use Rattle.clock_spec.specs.Command.{cells_of, either, bit_number, TargetInRange, Legal}
use Rattle.clock_spec.specs.Patterns.{Row, rows, extended_row, rows_of, second_marks, fits, read_bit, digits, among, meant, second_meant, extend}
use Rattle.clock_spec.specs.Shared.{Written}
use Rattle.clock_spec.specs.Phase.{by_first, by_second, by_third, hear, write_of}
use Rattle.clock_spec.specs.declared.Chip.{Chip}
use Rattle.clock_spec.specs.declared.Chip.TheVariants.{First, Later}
use Rattle.clock_spec.specs.declared.Target.{Target}
use Rattle.clock_spec.specs.declared.Target.TheVariants.{Seconds, Test, Protect, Cell}
use Rattle.clock_spec.specs.declared.Command.{Command}
use Rattle.clock_spec.specs.declared.Command.TheVariants.{Write, Read, Extended, Illegal}
use Rattle.clock_spec.specs.declared.Bytes.{Bytes}
use Rattle.clock_spec.specs.declared.Bytes.TheVariants.{Nothing, One, Two}
use Rattle.clock_spec.specs.declared.Verdict.{Verdict}
use Rattle.clock_spec.specs.declared.Verdict.TheVariants.{More, Reads, Writes, Ignored}

pub bit_le : (b : Bool) → bit_number b ≤ 1
bit_le true = omega arith
bit_le false = omega arith

-- A level cast to a byte.
pub cast : (b : Bool) → bool_byte b ≡ bit_number b
cast true = refl
cast false = refl

-- A test's two outcomes.
abbrev pub cond-case : {A : Type 0} (P : A → Type 0) (t : Bool) {x y : A} → (t ≡ true → P x) → (t ≡ false → P y) → P (cond t x y)
cond-case P true f g = f refl
cond-case P false f g = g refl

-- Every chip has the first one's cells, and none has more than 256.
pub cells-least : (k : Chip) → cells_of First ≤ cells_of k
cells-least First = omega arith
cells-least Later = omega arith

pub cells-most : (k : Chip) → cells_of k ≤ 256
cells-most First = omega arith
cells-most Later = omega arith

either-legal : (k : Chip) (z : Bool) (t : Target) → TargetInRange k t → Legal k (either z t)
either-legal k true t h = h
either-legal k false t h = h

-- What holds of the command that each row makes of the bits holds of the one that they mean.
abbrev Each : (Command → Type 0) → List Row → List Bool → Type 0
Each P [] bs = Unit {0}
Each P (r ∷ rs) bs = P (r.asks (read_bit r.marks bs) (digits 0 r.marks bs)) × Each P rs bs

among-each : (P : Command → Type 0) (rs : List Row) (bs : List Bool) → P Illegal → Each P rs bs → P (among rs bs)
among-each P [] bs p h = p
among-each P (r ∷ rs) bs p (h, hs) = cond-case P (fits r.marks bs) (λ e. h) (λ e. among-each P rs bs p hs)

one_more : (P : Command → Type 0) (rs : List Row) (r : Row) (bs : List Bool) → Each P rs bs
    → P (r.asks (read_bit r.marks bs) (digits 0 r.marks bs)) → Each P (rs ++ (r ∷ [])) bs
one_more P [] r bs h p = (p, tt)
one_more P (x ∷ rs) r bs (h, hs) p = (h, one_more P rs r bs hs p)

-- Document 01's rows, on either chip.
rows-legal : (k : Chip) (b7 b6 b5 b4 b3 b2 b1 b0 : Bool) → Each (Legal k) rows (b7 ∷ b6 ∷ b5 ∷ b4 ∷ b3 ∷ b2 ∷ b1 ∷ b0 ∷ [])
rows-legal k b7 b6 b5 b4 b3 b2 b1 b0 = (
  either-legal k b7 (Seconds 0) (omega arith),
  (
    either-legal k b7 (Seconds 1) (omega arith),
    (
      either-legal k b7 (Seconds 2) (omega arith),
      (
        either-legal k b7 (Seconds 3) (omega arith),
        (
          tt,
          (
            tt,
            (
              either-legal k b7 (Cell (16 + (2 * (2 * 0 + bit_number b3) + bit_number b2))) (omega (arith, cells-least k, bit_le b3, bit_le b2)),
              (
                either-legal k b7 (Cell (2 * (2 * (2 * (2 * 0 + bit_number b5) + bit_number b4) + bit_number b3) + bit_number b2)) (omega (arith, cells-least k, bit_le b5, bit_le b4, bit_le b3, bit_le b2)),
                tt,
              ),
            ),
          ),
        ),
      ),
    ),
  ),
)

bits-legal : (k : Chip) (b7 b6 b5 b4 b3 b2 b1 b0 : Bool) → Legal k (among (rows_of k) (b7 ∷ b6 ∷ b5 ∷ b4 ∷ b3 ∷ b2 ∷ b1 ∷ b0 ∷ []))
bits-legal First b7 b6 b5 b4 b3 b2 b1 b0 =
    let bs : List Bool = b7 ∷ b6 ∷ b5 ∷ b4 ∷ b3 ∷ b2 ∷ b1 ∷ b0 ∷ [] in
    among-each (Legal First) rows bs tt (rows-legal First b7 b6 b5 b4 b3 b2 b1 b0)
bits-legal Later b7 b6 b5 b4 b3 b2 b1 b0 =
    let bs : List Bool = b7 ∷ b6 ∷ b5 ∷ b4 ∷ b3 ∷ b2 ∷ b1 ∷ b0 ∷ [] in
    among-each (Legal Later) (rows_of Later) bs tt
    (one_more (Legal Later) rows extended_row bs (rows-legal Later b7 b6 b5 b4 b3 b2 b1 b0) (refl, omega (arith, bit_le b2, bit_le b1, bit_le b0)))

-- A command names a seconds byte 0 to 3, a cell that the chip has, test or protect; only the later chip has extended ones.
pub meant-legal : (k : Chip) (c : ℕ) → Legal k (meant k c)
unfolding meant
meant-legal k c =
    bits-legal k (eqb (c / 128 % 2) 1) (eqb (c / 64 % 2) 1) (eqb (c / 32 % 2) 1) (eqb (c / 16 % 2) 1)
    (eqb (c / 8 % 2) 1) (eqb (c / 4 % 2) 1) (eqb (c / 2 % 2) 1) (eqb (c / 1 % 2) 1)

second-legal : (k : Chip) (z : Bool) (a : ℕ) (b7 b6 b5 b4 b3 b2 b1 b0 : Bool) → Legal k (Extended z a)
    → let bs : List Bool = b7 ∷ b6 ∷ b5 ∷ b4 ∷ b3 ∷ b2 ∷ b1 ∷ b0 ∷ [] in
    Legal k (cond (fits second_marks bs) (either z (Cell (digits a second_marks bs))) Illegal)
second-legal k z a b7 b6 b5 b4 b3 b2 b1 b0 (q, l) =
    let bs : List Bool = b7 ∷ b6 ∷ b5 ∷ b4 ∷ b3 ∷ b2 ∷ b1 ∷ b0 ∷ [] in
    cond-case (Legal k) (fits second_marks bs)
    (λ e. either-legal k z (Cell (digits a second_marks bs)) (omega (arith, ap cells_of q, l, bit_le b6, bit_le b5, bit_le b4, bit_le b3, bit_le b2))) (λ e. tt)

pub extend-legal : (k : Chip) (c : Command) (d : ℕ) → Legal k c → Legal k (extend c d)
unfolding second_meant
extend-legal k (Write t) d h = tt
extend-legal k (Read t) d h = tt
extend-legal k (Extended z a) d h =
    second-legal k z a (eqb (d / 128 % 2) 1) (eqb (d / 64 % 2) 1) (eqb (d / 32 % 2) 1) (eqb (d / 16 % 2) 1)
    (eqb (d / 8 % 2) 1) (eqb (d / 4 % 2) 1) (eqb (d / 2 % 2) 1) (eqb (d / 1 % 2) 1) h
extend-legal k Illegal d h = tt

-- The same of what the bytes of a transaction come to.
abbrev pub Sound : Chip → Verdict → Type 0
Sound k More = Unit {0}
Sound k (Reads t) = TargetInRange k t
Sound k (Writes t) = TargetInRange k t
Sound k Ignored = Unit {0}

first-sound : (k : Chip) (c : Command) → Legal k c → Sound k (by_first c)
first-sound k (Write t) h = tt
first-sound k (Read t) h = h
first-sound k (Extended z a) h = tt
first-sound k Illegal h = tt

second-sound : (k : Chip) (c : Command) (b : ℕ) → Legal k c → Sound k (by_second c b)
second-sound k (Write t) b h = h
second-sound k (Read t) b h = tt
second-sound k (Extended z a) b h = first-sound k (extend (Extended z a) b) (extend-legal k (Extended z a) b h)
second-sound k Illegal b h = tt

third-sound : (k : Chip) (c : Command) → Legal k c → Sound k (by_third c)
third-sound k (Write t) h = h
third-sound k (Read t) h = tt
third-sound k (Extended z a) h = tt
third-sound k Illegal h = tt

pub hear-sound : (k : Chip) (bs : Bytes) (b : ℕ) → Sound k (hear k bs b)
unfolding hear
hear-sound k Nothing b = first-sound k (meant k b) (meant-legal k b)
hear-sound k (One c) b = second-sound k (meant k c) b (meant-legal k c)
hear-sound k (Two c d) b = third-sound k (extend (meant k c) d) (extend-legal k (meant k c) d (meant-legal k c))

-- And of a write that is complete.
abbrev pub Ranged : Chip → Option Written → Type 0
Ranged k none = Unit {0}
Ranged k (some w) = TargetInRange k w.to

pub written-ranged : (k : Chip) (v : Verdict) (b : ℕ) → Sound k v → Ranged k (write_of v b)
written-ranged k More b h = tt
written-ranged k (Reads t) b h = tt
written-ranged k (Writes t) b h = h
written-ranged k Ignored b h = tt
