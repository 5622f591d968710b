-- One item, by document 01: "only then does its wait pass, and only then its action"; then the clock compares its wires, and by request
-- W-203 the drives' strobe its levels. And the answer.
use Rattle.std.specs.Prelude.{List, [], ◌∷◌, get_or}
use Rattle.item_spec.specs.declared.Shown.{Shown}
use Rattle.via.specs.Via.{level_of}
use Rattle.item_spec.specs.declared.Item.{Item}
use Rattle.machine_spec.specs.declared.Machine.{Machine}
use Rattle.machine_spec.specs.Machine.{wires, strobe_levels}
use Rattle.machine_spec.specs.declared.Did.{Did}
use Rattle.machine_spec.specs.Stages.{item_wait, after_wait, after_wires, after_strobe}
use Rattle.machine_spec.specs.Action.{acted_of}
use Rattle.machine_spec.specs.Pins.{sel_of}
use Rattle.machine_spec.specs.Wiring.{interrupt_level}

unfoldable pub step_of : Machine → Item → Did
step_of m i =
    let d = acted_of (after_wait (item_wait i) m) i in
    record { machine = after_strobe (strobe_levels m) (after_wires (wires m) d.machine); value = d.value }

-- The machine after an item, and after some, the first done first.
abbrev pub after_item : Machine → Item → Machine
after_item m i = (step_of m i).machine

abbrev pub after_items : Machine → List Item → Machine
after_items m [] = m
after_items m (i ∷ is) = after_items (after_item m i) is

-- "Level, lines and SEL are those after the item."
unfoldable pub answer_of : Did → Shown
answer_of d =
    record {
      value = d.value;
      level = interrupt_level (level_of d.machine.via) (get_or d.machine.inputs 5 0) (get_or d.machine.inputs 6 0);
      lines = d.machine.disk.lines;
      sel = sel_of d.machine.via.ports;
    }
