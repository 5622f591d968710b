-- What DI and a write to a drive's registers do, by request W-203 and source document 004.
use Rattle.std.specs.Prelude.{ℕ, Bool, true, false, cond, eqb}
use Rattle.disk_spec.specs.declared.Drive.{Drive}
use Rattle.disk_spec.specs.Drive.{with_direction, with_motor, with_step, with_disk_in, with_disk_out}

-- DI: insert 1 or remove 0, locked, double-sided.
abbrev pub disk_moved : Bool → Bool → Bool → Drive → Drive
disk_moved true locked sides d = with_disk_in locked sides d
disk_moved false locked sides d = with_disk_out d

-- ---- a register written

-- Document 004: "The DIRTN signal sets the direction of subsequent head stepping".
abbrev pub direction_written : Bool → Drive → Drive
direction_written v d = with_direction d v

-- "A step keeps STEP at 0 for 9,401 ticks (12 ms, rounded up), .. in the direction set when it was asked, and steps asked
-- meanwhile do nothing." Whether no step is pending.
abbrev pub step_asked : Bool → Drive → Drive
step_asked true d = with_step d 9401 d.direction
step_asked false d = d

-- "a step written 1 .. do nothing"
abbrev pub step_written : Bool → Drive → Drive
step_written true d = d
step_written false d = step_asked (eqb d.pending 0) d

-- "Turning the motor on .. does nothing without a disk". Whether there is a disk.
abbrev pub motor_on : Bool → Drive → Drive
motor_on true d = with_motor d true
motor_on false d = d

-- Document 004: "0 turns on the motor, and 1 turns it off".
abbrev pub motor_written : Bool → Drive → Drive
motor_written true d = with_motor d false
motor_written false d = motor_on d.disk d

-- ".. or ejecting does nothing without a disk". Whether there is a disk.
abbrev pub eject_if : Bool → Drive → Drive
eject_if true d = with_disk_out d
eject_if false d = d

-- Document 004: "Writing 1 to EJECT ejects the disk"; "an eject written 0 do nothing".
abbrev pub eject_written : Bool → Drive → Drive
eject_written true d = eject_if d.disk d
eject_written false d = d

-- What a write that acts does: registers 0 to 3 are direction, step, motor and eject, by CA1 and CA0.
unfoldable pub register_written : ℕ → Bool → Drive → Drive
register_written register value d =
    cond (eqb register 0) (direction_written value d)
    (cond (eqb register 1) (step_written value d)
    (cond (eqb register 2) (motor_written value d) (cond (eqb register 3) (eject_written value d) d)))
