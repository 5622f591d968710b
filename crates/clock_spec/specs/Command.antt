-- What the clock chip, its store and the history of its wires all speak of: the chips, what a command asks, bits as a number.
-- Document 01, "The clock's wires", and W-206.
use Rattle.std.specs.Prelude.{◌≡◌, Bool, cond, List, [], ◌∷◌, ℕ, ◌+◌, ◌*◌, ◌<◌}
use Rattle.clock_spec.specs.declared.Chip.{Chip}
use Rattle.clock_spec.specs.declared.Chip.TheVariants.{First, Later}
use Rattle.clock_spec.specs.declared.Target.{Target}
use Rattle.clock_spec.specs.declared.Target.TheVariants.{Seconds, Test, Protect, Cell}
use Rattle.clock_spec.specs.declared.Command.{Command}
use Rattle.clock_spec.specs.declared.Command.TheVariants.{Write, Read, Extended, Illegal}

-- "A machine is made with 20 or 256 cells, chosen at the start."
abbrev pub cells_of : Chip → ℕ
cells_of First = 20
cells_of Later = 256

-- "z=1 for read."
abbrev pub either : Bool → Target → Command
either z t = cond z (Read t) (Write t)

-- A bit as a number.
abbrev pub bit_number : Bool → ℕ
bit_number b = cond b 1 0

-- Bits, the newest first, as a number: "bits go high-order first".
abbrev pub num : List Bool → ℕ
num [] = 0
num (b ∷ bs) = 2 * num bs + bit_number b

-- A seconds byte 0 to 3, a cell that the chip has.
abbrev pub TargetInRange : Chip → Target → Type 0
TargetInRange k (Seconds n) = n < 4
TargetInRange k Test = Unit {0}
TargetInRange k Protect = Unit {0}
TargetInRange k (Cell i) = i < cells_of k

-- A command whose target is in range, if it names one.
abbrev pub Legal : Chip → Command → Type 0
Legal k (Write t) = TargetInRange k t
Legal k (Read t) = TargetInRange k t
Legal k (Extended z a) = (k ≡ Later) × (a < 8)
Legal k Illegal = Unit {0}
