-- What RS, PW and DI leave of the drives and of the clock's wires: request W-203.
use Prim.Native.Nat.{ℕ}
use mathlib.Core.Path.{◌≡◌, refl, ap, ◌∙◌}
use mathlib.Core.Bool.{Bool, false}
use Rattle.units.specs.declared.WaitTicks.{WaitTicks}
use Rattle.via.proofs.Kept.{ticks-ports}
use Rattle.via.specs.declared.Ports.{Ports}
use Rattle.clock_spec.specs.Phase.{shown_level}
use Rattle.machine_spec.specs.Pins.{wires_of}
use Rattle.disk_spec.specs.Watched.{watched_of}
use Rattle.disk_lines.specs.Lines.{lines_off}
use Rattle.disk_spec.specs.declared.Watched.{Watched}
use Rattle.disk_spec.specs.Watched.{unspoilt}
use Rattle.disk_spec.specs.Strobe.{no_strobe, after_by, strobe_after}
use Rattle.disk_spec.proofs.Pulses.{reset-writes-nothing}
use Rattle.disk_spec.specs.declared.Drives.{Drives}
use Rattle.disk_spec.specs.Drives.{with_strobe, drives_ticks, drives_powered, drives_written, drives_after}
use Rattle.item_spec.specs.declared.Item.TheVariants.{Reset, Power, Disk, Pulse}
use Rattle.machine_spec.specs.declared.Machine.{Machine}
use Rattle.machine_spec.specs.Machine.{wires, strobe_levels}
use Rattle.machine_spec.specs.Action.{acted_of}
use Rattle.machine_spec.specs.Stages.{item_wait, after_wait}
use Rattle.machine_spec.specs.Step.{step_of}

-- LSTRB and ENABLE off together: no write, and no strobe.
dropped : (before after : Watched) (d : Drives) → after.lstrb ≡ false → after.enable ≡ false → drives_after before after d ≡ with_strobe d no_strobe
unfolding drives_after strobe_after
dropped before after d p q =
    ap (λ (b : Bool). with_strobe (drives_written b after d) (strobe_after before after d.strobe)) (reset-writes-nothing before after d.strobe q)
    ∙ ap (λ (b : Bool). with_strobe d (after_by b before.lstrb (unspoilt before after) after.enable d.strobe)) p

-- "RS changes no drive": both drives are as the wait leaves them.
pub reset-drives : (m : Machine) (w : WaitTicks) → (step_of m (Reset w)).machine.drives ≡ with_strobe (drives_ticks w.0 m.drives) no_strobe
unfolding step_of acted_of item_wait watched_of lines_off
reset-drives m w = dropped (strobe_levels m) (strobe_levels (step_of m (Reset w)).machine) (drives_ticks w.0 m.drives) refl refl

-- "PW stops motors, drops pending steps and keeps the rest of each drive", after its own wait.
pub power-drives : (m : Machine) (w : WaitTicks) (s : ℕ) → (step_of m (Power w s)).machine.drives ≡ with_strobe (drives_powered (drives_ticks w.0 m.drives)) no_strobe
unfolding step_of acted_of item_wait watched_of lines_off
power-drives m w s = dropped (strobe_levels m) (strobe_levels (step_of m (Power w s)).machine) (drives_powered (drives_ticks w.0 m.drives)) refl refl

-- DI changes no wire of the clock.
pub disk-wires : (m : Machine) (w : WaitTicks) (d i l b : ℕ) → wires (acted_of (after_wait w.0 m) (Disk w d i l b)).machine ≡ wires m
unfolding acted_of
disk-wires m w d i l b = ap (λ (p : Ports). wires_of p (shown_level m.clock.phase)) (ticks-ports w.0 m.via)
