-- The two drives and the strobe that writes to them, by request W-203: "Model two drives by source document 004."
use Rattle.std.specs.Prelude.{ℕ, ◌/◌, ◌%◌, Bool, true, false, not, ◌&&◌, ◌||◌, eqb}
use Rattle.disk_spec.specs.declared.Drive.{Drive}
use Rattle.disk_spec.specs.Drive.{fresh_drive, drive_ticks, after_power_cut}
use Rattle.disk_spec.specs.Control.{disk_moved, register_written}
use Rattle.disk_spec.specs.Sense.{sense_shown, accepted_drive}
use Rattle.disk_spec.specs.declared.Strobe.{Strobe}
use Rattle.disk_spec.specs.declared.Watched.{Watched}
use Rattle.disk_spec.specs.Watched.{register_of}
use Rattle.disk_spec.specs.Strobe.{no_strobe, strobe_ticks, strobe_after, strobe_writes, accepted_strobe}
use Rattle.disk_spec.specs.declared.Drives.{Drives}

-- ---- the state, field by field

abbrev pub with_strobe : Drives → Strobe → Drives
with_strobe d x = record { internal = d.internal; external = d.external; strobe = x }

-- Document 01: "SELECT on is external".
abbrev pub drive_at : Bool → Drives → Drive
drive_at true d = d.external
drive_at false d = d.internal

abbrev pub with_drive_at : Bool → Drives → Drive → Drives
with_drive_at true d x = record { internal = d.internal; external = x; strobe = d.strobe }
with_drive_at false d x = record { internal = x; external = d.external; strobe = d.strobe }

-- Both drives fresh, LSTRB off.
abbrev pub fresh_drives : Drives
fresh_drives = record { internal = fresh_drive; external = fresh_drive; strobe = no_strobe }

-- ---- an item: its wait, its action, then the levels before and after it

-- n ticks pass in both drives and in the strobe.
unfoldable pub drives_ticks : ℕ → Drives → Drives
drives_ticks n d =
    record { internal = drive_ticks n d.internal; external = drive_ticks n d.external; strobe = strobe_ticks n d.strobe }

-- Time changes the drives only while a step is pending or a strobe is steady.
unfoldable pub drives_busy : Drives → Bool
drives_busy d = not (eqb d.internal.pending 0) || (not (eqb d.external.pending 0) || d.strobe.steady)

-- DI: drive, insert 1 or remove 0, locked, double-sided.
unfoldable pub drives_disk_moved : Bool → Bool → Bool → Bool → Drives → Drives
drives_disk_moved external insert locked sides d = with_drive_at external d (disk_moved insert locked sides (drive_at external d))

-- "Inserting where a disk is, or removing where none is, gets refusal 8": whether to insert, and whether there is a disk.
abbrev pub clashes : Bool → Bool → Bool
clashes true disk = disk
clashes false disk = not disk

unfoldable pub place_refused : Bool → Bool → Drives → Bool
place_refused external insert d = clashes insert (drive_at external d).disk

-- "PW stops motors, drops pending steps and keeps the rest of each drive."
unfoldable pub drives_powered : Drives → Drives
drives_powered d = record { internal = after_power_cut d.internal; external = after_power_cut d.external; strobe = d.strobe }

-- A write that acts: CA1 and CA0 name the register, CA2 is the value, SELECT the drive.
abbrev pub drives_written : Bool → Watched → Drives → Drives
drives_written true w d = with_drive_at w.select d (register_written (register_of w) w.ca2 (drive_at w.select d))
drives_written false w d = d

unfoldable pub drives_after : Watched → Watched → Drives → Drives
drives_after before after d =
    with_strobe (drives_written (strobe_writes before after d.strobe) after d) (strobe_after before after d.strobe)

-- ---- the sense

-- The level at place 16·SELECT + register of the 32, where SN last set it to `stored`.
unfoldable pub drives_shown : ℕ → ℕ → Drives → ℕ
drives_shown place stored d = sense_shown (place % 16) stored (drive_at (eqb (place / 16) 1) d)

-- ---- the ranges, with these levels
unfoldable pub accepted_drives : Watched → Drives → Bool
accepted_drives w d = accepted_drive d.internal && (accepted_drive d.external && accepted_strobe w d.strobe)
