-- What the registers do, with each test asked once.
use mathlib.Core.Path.{◌≡◌, refl}
use mathlib.Core.Bool.{Bool, true, false, cond, not, ◌&&◌, ◌||◌}
use lib.Dec.{eqb}
use Rattle.disk_spec.specs.declared.Drive.{Drive}
use Rattle.disk_spec.specs.Drive.{with_motor, with_step, with_disk_out}
use Rattle.disk_spec.specs.Control.{step_asked, step_written, motor_on, motor_written, eject_if, eject_written}

asks : (idle : Bool) (d : Drive) → cond idle (with_step d 9401 d.direction) d ≡ step_asked idle d
asks true d = refl
asks false d = refl

pub step-at-once : (v : Bool) (d : Drive) → cond (not v && eqb d.pending 0) (with_step d 9401 d.direction) d ≡ step_written v d
step-at-once true d = refl
step-at-once false d = asks (eqb d.pending 0) d

turns : (there : Bool) (d : Drive) → with_motor d (there || d.motor) ≡ motor_on there d
turns true d = refl
turns false d = refl

pub motor-at-once : (v : Bool) (d : Drive) → with_motor d (not v && (d.disk || d.motor)) ≡ motor_written v d
motor-at-once true d = refl
motor-at-once false d = turns d.disk d

ejects : (there : Bool) (d : Drive) → cond there (with_disk_out d) d ≡ eject_if there d
ejects true d = refl
ejects false d = refl

pub eject-at-once : (v : Bool) (d : Drive) → cond (v && d.disk) (with_disk_out d) d ≡ eject_written v d
eject-at-once true d = ejects d.disk d
eject-at-once false d = refl
