-- The action of an item, by document 01: "only then does its wait pass, and only then its action".
use Rattle.std.specs.Prelude.{◌+◌, ◌*◌, cond, eqb, set}
use Rattle.via.specs.Via.{fresh_via, raised_of, reset_of}
use Rattle.via.specs.Writes.{via_written}
use Rattle.clock_spec.specs.Shared.{Event, quiet, second, off}
use Rattle.disk_lines.specs.Lines.{lines_off, after_access}
use Rattle.disk_spec.specs.Drives.{drives_disk_moved, drives_powered}
use Rattle.item_spec.specs.declared.Item.{Item}
use Rattle.item_spec.specs.declared.Item.TheVariants.{ReadVia, ReadIwm, WriteVia, WriteIwm, Blank, Second, Line, Sense, Reset, Power, Disk, Pulse}
use Rattle.machine_spec.specs.declared.Machine.{Machine}
use Rattle.machine_spec.specs.Machine.{with_via, with_disk, with_inputs, with_sense, with_drives, no_value}
use Rattle.machine_spec.specs.declared.Did.{Did}
use Rattle.machine_spec.specs.Accesses.{via_read, iwm_read, keyboard_pulse}
use Rattle.machine_spec.specs.Events.{with_seconds_event}

-- What an item does to the clock beside its wires.
unfoldable pub event_of : Item → Event
event_of (ReadVia w r) = quiet
event_of (ReadIwm w k) = quiet
event_of (WriteVia w r v) = quiet
event_of (WriteIwm w k v) = quiet
event_of (Blank w) = quiet
event_of (Second w) = second
event_of (Line w l v) = quiet
event_of (Sense w d r v) = quiet
event_of (Reset w) = quiet
event_of (Power w s) = off s
event_of (Disk w d i l b) = quiet
event_of (Pulse w l) = quiet

-- The action of an item, its wait having passed. W-203: "RS changes no drive; PW stops motors, drops pending steps and keeps the rest".
unfoldable pub acted_of : Machine → Item → Did
acted_of m (ReadVia w r) = via_read r m
acted_of m (ReadIwm w k) = iwm_read k m
acted_of m (WriteVia w r v) = no_value (with_via m (via_written r v m.via))
acted_of m (WriteIwm w k v) = no_value (with_disk m (after_access k m.disk))
acted_of m (Blank w) = no_value (with_via m (raised_of 2 m.via))
acted_of m (Second w) = no_value (with_seconds_event second (with_via m (raised_of 1 m.via)))
acted_of m (Line w l v) = no_value (with_inputs m (set m.inputs l v))
acted_of m (Sense w d r v) = no_value (with_sense m (set m.sense (16 * d + r) v))
acted_of m (Reset w) = no_value (with_disk (with_via m (reset_of m.via)) lines_off)
acted_of m (Power w s) = no_value (with_seconds_event (off s) (with_drives (with_disk (with_via m fresh_via) lines_off) (drives_powered m.drives)))
acted_of m (Disk w d i l b) = no_value (with_drives m (drives_disk_moved (eqb d 1) (eqb i 1) (eqb l 1) (eqb b 1) m.drives))
acted_of m (Pulse w l) = keyboard_pulse l m
