-- What a read leaves, by document 01, and a pulse of the keyboard's clock, by W-210: the next state and the value.
use Rattle.std.specs.Prelude.{ℕ, get_or}
use Rattle.via.specs.Registers.{register_read}
use Rattle.via.specs.Shift.{pulse_of}
use Rattle.clock_spec.specs.Phase.{shown_level}
use Rattle.disk_lines.specs.Lines.{after_access, sense_at, read_line}
use Rattle.disk_spec.specs.Drives.{drives_shown}
use Rattle.machine_spec.specs.declared.Machine.{Machine}
use Rattle.machine_spec.specs.declared.Did.{Did}
use Rattle.machine_spec.specs.Machine.{with_via, with_disk}
use Rattle.machine_spec.specs.Pins.{sel_of}
use Rattle.machine_spec.specs.Wiring.{inputs_of}

-- RD of a VIA register.
unfoldable pub via_read : ℕ → Machine → Did
via_read r m =
    let a = register_read r (inputs_of (shown_level m.clock.phase) m.inputs) m.via in
    record { machine = with_via m a.via; value = a.value }

-- RD of an IWM location: "Any access, read or write, first sets line k/2"; the sense is that of the selected drive's register. W-203:
-- "Sense registers 0 to 5, 12 and 15 .. now come from the drive, the others still from SN."
unfoldable pub iwm_read : ℕ → Machine → Did
iwm_read k m =
    let d = after_access k m.disk in
    let at = sense_at d (sel_of m.via.ports) in
    record { machine = with_disk m d; value = read_line k (drives_shown at (get_or m.sense at 0) m.drives) d }

-- KC: in shift out register 10's bit 7 is "the answer's value"; elsewhere it is 0.
unfoldable pub keyboard_pulse : ℕ → Machine → Did
keyboard_pulse level m =
    let p = pulse_of level m.via in
    record { machine = with_via m p.via; value = p.value }
