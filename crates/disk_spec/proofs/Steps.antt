-- What a drive promises its users: steps, the motor, a disk that leaves, and a power cut.
use Prim.Native.Nat.{ℕ, zero, suc, ◌+◌, ◌-◌, ◌<◌}
use mathlib.Core.Path.{◌≡◌, refl, sym, ap, ◌∙◌}
use mathlib.Core.Bool.{Bool, true, false}
use native.Mathlib.Omega.{arith}
use borrow.Author.Tests.{eq-eqb, ne_eqb, lt-ltb}
use lib.Dec.{eqb}
use Rattle.disk_spec.proofs.DriveTicks.{drive_ticks-add, early, late}
use Rattle.disk_spec.specs.Drive.{with_direction, with_step, with_track, drive_tick_by, tick_drive, drive_ticks, neighbour, with_disk_out, after_power_cut, fresh_drive}
use Rattle.disk_spec.specs.Control.{motor_on, eject_if, register_written}
use Rattle.disk_spec.specs.Sense.{drive_sense}
use Rattle.disk_spec.specs.declared.Drive.{Drive}

-- ---- the neighbouring track, within 0 to 79

pub outwards : (track : ℕ) → neighbour true (suc track) ≡ track
unfolding neighbour
outwards track =
    let e : eqb (suc track) 0 ≡ false = ne_eqb _ _ (λ (z : suc track ≡ 0). omega arith) in
    let m : suc track - 1 ≡ track = omega arith in
    simp (e, m)

pub inwards : (track : ℕ) → track < 79 → neighbour false track ≡ track + 1
unfolding neighbour
inwards track h = simp (lt-ltb track 79 h)

pub at-ends : (neighbour true 0 ≡ 0) × (neighbour false 79 ≡ 79)
unfolding neighbour
at-ends = (refl, refl)

-- ---- a step that is asked with none pending

pub asked : (d : Drive) → d.pending ≡ 0 → register_written 1 false d ≡ with_step d 9401 d.direction
unfolding register_written
asked d e = simp (eq-eqb d.pending 0 e)

-- Steps asked meanwhile do nothing.
pub asked-meanwhile : (v : Bool) (d : Drive) → (d.pending ≡ 0 → ⊥) → register_written 1 v d ≡ d
unfolding register_written
asked-meanwhile true d z = refl
asked-meanwhile false d z = simp (ne_eqb d.pending 0 z)

-- 9,401 ticks later the drive stands at the neighbouring track, in the direction set when the step was asked, and the step is over.
abbrev pub stepped : Drive → Drive
stepped d = with_step (with_track d (neighbour d.direction d.track)) 0 false

pub step-done : (d : Drive) → d.pending ≡ 0 → drive_ticks 9401 (register_written 1 false d) ≡ stepped d
step-done d e =
    ap (drive_ticks 9401) (asked d e)
    ∙ late 9401 (with_step d 9401 d.direction) (λ (z : 9401 ≡ 0). omega arith) (omega arith)

-- STEP senses 1 then, so that a new step is taken.
pub step-done-senses : (d : Drive) → d.pending ≡ 0 → drive_sense 2 (drive_ticks 9401 (register_written 1 false d)) ≡ 1
unfolding drive_sense
step-done-senses d e = ap (drive_sense 2) (step-done d e)

-- Before that the track is the old one, and STEP senses 0.
pub step-not-yet : (n : ℕ) (d : Drive) → d.pending ≡ 0 → n < 9401
    → ((drive_ticks n (register_written 1 false d)).track ≡ d.track) × (drive_sense 2 (drive_ticks n (register_written 1 false d)) ≡ 0)
unfolding drive_sense
step-not-yet n d e h =
    let w : drive_ticks n (register_written 1 false d) ≡ with_step d (9401 - n) d.direction =
    ap (drive_ticks n) (asked d e) ∙ early n (with_step d 9401 d.direction) h in
    let z : eqb (9401 - n) 0 ≡ false = ne_eqb (9401 - n) 0 (λ (z : 9401 - n ≡ 0). omega arith) in
    (ap (λ (x : Drive). x.track) w, ap (drive_sense 2) w ∙ simp z)

-- A direction written meanwhile shows at once, and the step keeps its own.
turned-tick : (idle last v : Bool) (d : Drive) → drive_tick_by idle last (with_direction d v) ≡ with_direction (drive_tick_by idle last d) v
turned-tick true last v d = refl
turned-tick false true v d = refl
turned-tick false false v d = refl

turned : (n : ℕ) (v : Bool) (d : Drive) → drive_ticks n (with_direction d v) ≡ with_direction (drive_ticks n d) v
unfolding drive_ticks tick_drive
turned zero v d = refl
turned (suc n) v d =
    let t = drive_ticks n d in
    ap tick_drive (turned n v d) ∙ turned-tick (eqb t.pending 0) (eqb t.pending 1) v t

pub step-own-direction : (a b : ℕ) (v : Bool) (d : Drive) → d.pending ≡ 0 → a + b ≡ 9401
    → drive_ticks b (register_written 0 v (drive_ticks a (register_written 1 false d))) ≡ with_direction (stepped d) v
unfolding register_written
step-own-direction a b v d e s =
    let x = register_written 1 false d in
    turned b v (drive_ticks a x)
    ∙ ap (λ (y : Drive). with_direction y v) (sym (drive_ticks-add a b x) ∙ ap (λ (n : ℕ). drive_ticks n x) s ∙ step-done d e)

-- ---- the motor and the disk

-- Without a disk no motor turns on and none is ejected.
pub no-disk-no-motor : (d : Drive) → d.disk ≡ false → register_written 2 false d ≡ d
unfolding register_written
no-disk-no-motor d e = ap (λ (b : Bool). motor_on b d) e

pub no-disk-no-eject : (v : Bool) (d : Drive) → d.disk ≡ false → register_written 3 v d ≡ d
unfolding register_written
no-disk-no-eject true d e = ap (λ (b : Bool). eject_if b d) e
no-disk-no-eject false d e = refl

-- An eject is a removal; a leaving disk stops the motor and clears locked, and the drive keeps its sides.
pub eject-removes : (d : Drive) → d.disk ≡ true → register_written 3 true d ≡ with_disk_out d
unfolding register_written
eject-removes d e = ap (λ (b : Bool). eject_if b d) e

pub leaves : (d : Drive)
    → ((with_disk_out d).disk ≡ false) × ((with_disk_out d).motor ≡ false) × ((with_disk_out d).locked ≡ false) × ((with_disk_out d).sides ≡ d.sides)
leaves d = (refl, refl, refl, refl)

-- "PW stops motors, drops pending steps and keeps the rest of each drive."
pub power-cut : (d : Drive)
    → ((after_power_cut d).motor ≡ false) × ((after_power_cut d).pending ≡ 0) × ((after_power_cut d).heading ≡ false) × ((after_power_cut d).track ≡ d.track) × ((after_power_cut d).direction ≡ d.direction)
    × ((after_power_cut d).disk ≡ d.disk) × ((after_power_cut d).locked ≡ d.locked) × ((after_power_cut d).sides ≡ d.sides)
power-cut d = (refl, refl, refl, refl, refl, refl, refl, refl)

-- ---- a seek: n steps, each with its ticks

pub seek : ℕ → Drive → Drive
seek zero d = d
seek (suc n) d = drive_ticks 9401 (register_written 1 false (seek n d))

many : ℕ → Drive → Drive
many zero d = d
many (suc n) d = stepped (many n d)

many-idle : (n : ℕ) (d : Drive) → d.pending ≡ 0 → (many n d).pending ≡ 0
unfolding many
many-idle zero d e = e
many-idle (suc n) d e = refl

sought : (n : ℕ) (d : Drive) → d.pending ≡ 0 → seek n d ≡ many n d
unfolding seek many
sought zero d e = refl
sought (suc n) d e =
    ap (λ (x : Drive). drive_ticks 9401 (register_written 1 false x)) (sought n d e) ∙ step-done (many n d) (many-idle n d e)

-- A whole seek to track 79, one more, and back past track 0.
pub seeks : ((seek 79 fresh_drive).track ≡ 79) × ((seek 80 fresh_drive).track ≡ 79)
    × ((seek 3 (register_written 0 true (seek 2 fresh_drive))).track ≡ 0)
unfolding seek many neighbour register_written
seeks = (
  ap (λ (x : Drive). x.track) (sought 79 fresh_drive refl),
  ap (λ (x : Drive). x.track) (sought 80 fresh_drive refl),
  ap (λ (x : Drive). (seek 3 (with_direction x true)).track) (sought 2 fresh_drive refl)
      ∙ ap (λ (x : Drive). x.track) (sought 3 (with_direction (many 2 fresh_drive) true) refl),
)

-- By computation, tick by tick.
pub one-step : ((drive_ticks 9400 (register_written 1 false fresh_drive)).track ≡ 0)
    × ((drive_ticks 9401 (register_written 1 false fresh_drive)).track ≡ 1)
unfolding drive_ticks tick_drive neighbour register_written
one-step = (refl, refl)
