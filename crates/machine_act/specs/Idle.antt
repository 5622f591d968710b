-- What the clock makes of an item that writes to no VIA register: RS and PW leave enable undriven, and undriven lines are 1; no other moves a wire of the clock.
use Rattle.clock_spec.specs.declared.Phase.TheVariants as phases
use Rattle.clock.specs.declared.Clock.{Clock}
use Rattle.clock.specs.Step.{with_phase}
use Rattle.item_spec.specs.declared.Item.{Item}
use Rattle.item_spec.specs.declared.Item.TheVariants.{ReadVia, ReadIwm, WriteVia, WriteIwm, Blank, Second, Line, Sense, Reset, Power, Disk, Pulse}

abbrev pub idled_by : Item → Clock → Clock
idled_by (ReadVia w r) c = c
idled_by (ReadIwm w k) c = c
idled_by (WriteVia w r v) c = c
idled_by (WriteIwm w k v) c = c
idled_by (Blank w) c = c
idled_by (Second w) c = c
idled_by (Line w l v) c = c
idled_by (Sense w d r v) c = c
idled_by (Reset w) c = with_phase c phases.Idle
idled_by (Power w s) c = with_phase c phases.Idle
idled_by (Disk w d i l b) c = c
idled_by (Pulse w l) c = c
