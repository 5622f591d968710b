-- One drive behind the lines, by request W-203 and source document 004. Time is in VIA ticks.
use Rattle.std.specs.Prelude.{ℕ, zero, suc, ◌+◌, ◌-◌, Bool, true, false, cond, eqb, ltb}
use Rattle.disk_spec.specs.declared.Drive.{Drive}

-- ---- the state, field by field

abbrev pub with_direction : Drive → Bool → Drive
with_direction d x =
    record {
      track = d.track;
      direction = x;
      disk = d.disk;
      locked = d.locked;
      sides = d.sides;
      motor = d.motor;
      pending = d.pending;
      heading = d.heading;
    }

abbrev pub with_motor : Drive → Bool → Drive
with_motor d x =
    record {
      track = d.track;
      direction = d.direction;
      disk = d.disk;
      locked = d.locked;
      sides = d.sides;
      motor = x;
      pending = d.pending;
      heading = d.heading;
    }

-- The step: the ticks left of it, and its own direction.
abbrev pub with_step : Drive → ℕ → Bool → Drive
with_step d n h =
    record {
      track = d.track;
      direction = d.direction;
      disk = d.disk;
      locked = d.locked;
      sides = d.sides;
      motor = d.motor;
      pending = n;
      heading = h;
    }

abbrev pub with_track : Drive → ℕ → Drive
with_track d x =
    record {
      track = x;
      direction = d.direction;
      disk = d.disk;
      locked = d.locked;
      sides = d.sides;
      motor = d.motor;
      pending = d.pending;
      heading = d.heading;
    }

-- The disk: whether there is one, whether it is locked, and the drive's sides with it.
abbrev pub with_disk_state : Drive → Bool → Bool → Bool → Drive
with_disk_state d there locked sides =
    record {
      track = d.track;
      direction = d.direction;
      disk = there;
      locked = locked;
      sides = sides;
      motor = d.motor;
      pending = d.pending;
      heading = d.heading;
    }

-- "Fresh: track 0, direction 0, no disk, not locked, motor off, single-sided."
abbrev pub fresh_drive : Drive
fresh_drive =
    record {
      track = 0;
      direction = false;
      disk = false;
      locked = false;
      sides = false;
      motor = false;
      pending = 0;
      heading = false;
    }

-- ---- the disk comes and goes

-- DI with insert 1: "locked 1, double-sided 1, the last two used on insertion only".
abbrev pub with_disk_in : Bool → Bool → Drive → Drive
with_disk_in locked sides d = with_disk_state d true locked sides

-- DI with insert 0, and an eject: "a leaving disk stops the motor and clears locked".
abbrev pub with_disk_out : Drive → Drive
with_disk_out d = with_motor (with_disk_state d false false d.sides) false

-- ---- time

-- "Track 0 to 79, where a step past either end stays there." Document 004: direction 0 is towards track 79, 1 towards track 0.
unfoldable pub neighbour : Bool → ℕ → ℕ
neighbour true track = cond (eqb track 0) 0 (track - 1)
neighbour false track = cond (ltb track 79) (track + 1) 79

-- The step's end: it "moves the track at their end in the direction set when it was asked".
abbrev pub after_step : Drive → Drive
after_step d = with_step (with_track d (neighbour d.heading d.track)) 0 false

-- One tick, given whether no step is pending, and whether this is a step's last tick.
abbrev pub drive_tick_by : Bool → Bool → Drive → Drive
drive_tick_by true last d = d
drive_tick_by false true d = after_step d
drive_tick_by false false d = with_step d (d.pending - 1) d.heading

unfoldable pub tick_drive : Drive → Drive
tick_drive d = drive_tick_by (eqb d.pending 0) (eqb d.pending 1) d

-- n ticks, one after the other.
unfoldable pub drive_ticks : ℕ → Drive → Drive
drive_ticks zero d = d
drive_ticks (suc n) d = tick_drive (drive_ticks n d)

-- "PW stops motors, drops pending steps and keeps the rest of each drive."
abbrev pub after_power_cut : Drive → Drive
after_power_cut d = with_step (with_motor d false) 0 false
