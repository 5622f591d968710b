-- Items carried out one after the other, for the samples.
use Rattle.std.specs.Prelude.{ℕ, ◌+◌, ◌*◌, ◌/◌, ◌%◌, List, [], ◌∷◌}
use Rattle.units.specs.Units.{for_ticks}
use Rattle.item_spec.specs.declared.Item.{Item}
use Rattle.item_spec.specs.declared.Item.TheVariants.{WriteVia, WriteIwm}
use Rattle.item_spec.specs.declared.Shown.{Shown}
use Rattle.machine_spec.specs.declared.Machine.{Machine}
use Rattle.machine_spec.specs.Step.{step_of, answer_of}
pub use Rattle.machine_spec.specs.Step.{after_item, after_items}

-- The value that an item reads, and its answer.
abbrev pub value_of : Machine → Item → ℕ
value_of m i = (step_of m i).value

abbrev pub answer_to : Machine → Item → Shown
answer_to m i = answer_of (step_of m i)

-- A function's values over a list.
abbrev pub each : {A B : Type 0} → (A → B) → List A → List B
each f [] = []
each f (x ∷ xs) = f x ∷ each f xs

-- Writes with no wait: port B, a VIA register, an access to an IWM location.
abbrev pub port_b : ℕ → Item
port_b v = WriteVia (for_ticks 0) 0 v

abbrev pub access_item : ℕ → Item
access_item k = WriteIwm (for_ticks 0) k 0

-- Disk register 8·CA2 + 4·CA1 + 2·CA0 + SEL of a drive (1 is external), SEL by PA5 made an output.
abbrev pub address_items : ℕ → ℕ → List Item
address_items drive r =
    access_item (r / 2 % 2) ∷ access_item (2 + r / 4 % 2) ∷ access_item (4 + r / 8 % 2) ∷ access_item (10 + drive) ∷ WriteVia (for_ticks 0) 3 32 ∷ WriteVia (for_ticks 0) 15 (32 * (r % 2)) ∷ []
