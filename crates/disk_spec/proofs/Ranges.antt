-- Every step of a drive keeps it in its ranges.
use Prim.Native.Nat.{ℕ, zero, suc, ◌+◌, ◌-◌, ◌≤◌, ◌<◌}
use mathlib.Core.Path.{◌≡◌, refl, sym, ap, ◌∙◌}
use mathlib.Core.Bool.{Bool, true, false, cond, not, ◌&&◌, ◌||◌, or-true}
use native.Mathlib.Omega.{arith}
use borrow.Author.Tests.{lt-ltb, ltb-true, le-leb, leb-true, eqb-false, ne_eqb}
use lib.Dec.{eqb, ltb, leb}
use Rattle.levels.proofs.Laws.{both}
use Rattle.disk_spec.specs.Drive.{with_direction, with_motor, with_step, after_step, drive_tick_by, tick_drive, drive_ticks, neighbour, with_disk_in, with_disk_out, after_power_cut, fresh_drive}
use Rattle.disk_spec.specs.Control.{step_asked, step_written, motor_on, motor_written, eject_if, eject_written, register_written}
use Rattle.disk_spec.specs.Sense.{accepted_drive}
use Rattle.disk_spec.specs.declared.Drive.{Drive}

-- The ranges, each by its name.
pub record Ranges (d : Drive) : Type 0 where
  pub tracks : d.track < 80
  pub ticks : d.pending ≤ 9401
  pub turning : (not d.motor || d.disk) ≡ true
  pub locking : (not d.locked || d.disk) ≡ true
  pub stepping : (not d.heading || not (eqb d.pending 0)) ≡ true

pub ranges : (d : Drive) → accepted_drive d ≡ true → Ranges d
unfolding accepted_drive
ranges d h =
    let e = not d.heading || not (eqb d.pending 0) in
    let f = not d.locked || d.disk in
    let g = not d.motor || d.disk in
    let p = both (ltb d.track 80) (leb d.pending 9401 && (g && (f && e))) h in
    let q = both (leb d.pending 9401) (g && (f && e)) p.1 in
    let r = both g (f && e) q.1 in
    let s = both f e r.1 in
    record {
      tracks = ltb-true d.track 80 p.0;
      ticks = leb-true d.pending 9401 q.0;
      turning = r.0;
      locking = s.0;
      stepping = s.1;
    }

pub in-ranges : (d : Drive) → Ranges d → accepted_drive d ≡ true
unfolding accepted_drive
in-ranges d r =
    simp (lt-ltb d.track 80 r.tracks, le-leb d.pending 9401 r.ticks, r.turning, r.locking, r.stepping)

pub fresh-accepted : accepted_drive fresh_drive ≡ true
unfolding accepted_drive
fresh-accepted = refl

pub inserted-accepted : (locked sides : Bool) (d : Drive) → accepted_drive d ≡ true → accepted_drive (with_disk_in locked sides d) ≡ true
inserted-accepted locked sides d h =
    let r = ranges d h in
    in-ranges (with_disk_in locked sides d)
    (record {
      tracks = r.tracks;
      ticks = r.ticks;
      turning = or-true (not d.motor);
      locking = or-true (not locked);
      stepping = r.stepping;
    })

pub removed-accepted : (d : Drive) → accepted_drive d ≡ true → accepted_drive (with_disk_out d) ≡ true
removed-accepted d h =
    let r = ranges d h in
    in-ranges (with_disk_out d) (record { tracks = r.tracks; ticks = r.ticks; turning = refl; locking = refl; stepping = r.stepping })

pub powered-accepted : (d : Drive) → accepted_drive d ≡ true → accepted_drive (after_power_cut d) ≡ true
powered-accepted d h =
    let r = ranges d h in
    in-ranges (after_power_cut d) (record { tracks = r.tracks; ticks = omega arith; turning = refl; locking = r.locking; stepping = refl })

-- ---- a register written

step_asked-accepted : (idle : Bool) (d : Drive) → accepted_drive d ≡ true → accepted_drive (step_asked idle d) ≡ true
step_asked-accepted true d h =
    let r = ranges d h in
    in-ranges (with_step d 9401 d.direction)
    (record {
      tracks = r.tracks;
      ticks = omega arith;
      turning = r.turning;
      locking = r.locking;
      stepping = or-true (not d.direction);
    })
step_asked-accepted false d h = h

with_motor-accepted : (m : Bool) (d : Drive) → (not m || d.disk) ≡ true → accepted_drive d ≡ true → accepted_drive (with_motor d m) ≡ true
with_motor-accepted m d e h =
    let r = ranges d h in
    in-ranges (with_motor d m)
    (record { tracks = r.tracks; ticks = r.ticks; turning = e; locking = r.locking; stepping = r.stepping })

motor_on-accepted : (there : Bool) (d : Drive) → there ≡ d.disk → accepted_drive d ≡ true → accepted_drive (motor_on there d) ≡ true
motor_on-accepted true d e h = with_motor-accepted true d (sym e) h
motor_on-accepted false d e h = h

ejected-accepted : (there : Bool) (d : Drive) → accepted_drive d ≡ true → accepted_drive (eject_if there d) ≡ true
ejected-accepted true d h = removed-accepted d h
ejected-accepted false d h = h

step_written-accepted : (v : Bool) (d : Drive) → accepted_drive d ≡ true → accepted_drive (step_written v d) ≡ true
step_written-accepted true d h = h
step_written-accepted false d h = step_asked-accepted (eqb d.pending 0) d h

motor_written-accepted : (v : Bool) (d : Drive) → accepted_drive d ≡ true → accepted_drive (motor_written v d) ≡ true
motor_written-accepted true d h = with_motor-accepted false d refl h
motor_written-accepted false d h = motor_on-accepted d.disk d refl h

eject_written-accepted : (v : Bool) (d : Drive) → accepted_drive d ≡ true → accepted_drive (eject_written v d) ≡ true
eject_written-accepted true d h = ejected-accepted d.disk d h
eject_written-accepted false d h = h

-- One of two drives in their ranges.
either : (b : Bool) (x y : Drive) → accepted_drive x ≡ true → accepted_drive y ≡ true → accepted_drive (cond b x y) ≡ true
either true x y h k = h
either false x y h k = k

pub register_written-accepted : (register : ℕ) (v : Bool) (d : Drive) → accepted_drive d ≡ true → accepted_drive (register_written register v d) ≡ true
unfolding register_written
register_written-accepted register v d h =
    let r = ranges d h in
    let directed : accepted_drive (with_direction d v) ≡ true =
    in-ranges (with_direction d v)
    (record { tracks = r.tracks; ticks = r.ticks; turning = r.turning; locking = r.locking; stepping = r.stepping }) in
    either (eqb register 0) _ _ directed
    (either (eqb register 1) _ _ (step_written-accepted v d h)
    (either (eqb register 2) _ _ (motor_written-accepted v d h) (either (eqb register 3) _ _ (eject_written-accepted v d h) h)))

-- ---- time

-- A step ends within 0 to 79.
pub neighbour-range : (heading : Bool) (track : ℕ) → track < 80 → neighbour heading track < 80
unfolding neighbour
neighbour-range true track h = go (eqb track 0)
  where
    go : (b : Bool) → cond b 0 (track - 1) < 80
    go true = omega arith
    go false = omega arith
neighbour-range false track h = go (ltb track 79) refl
  where
    go : (b : Bool) → ltb track 79 ≡ b → cond b (track + 1) 79 < 80
    go true e = omega (arith, ltb-true track 79 e)
    go false e = omega arith

moved-accepted : (d : Drive) → accepted_drive d ≡ true → accepted_drive (after_step d) ≡ true
moved-accepted d h =
    let r = ranges d h in
    in-ranges (after_step d)
    (record {
      tracks = neighbour-range d.heading d.track r.tracks;
      ticks = omega arith;
      turning = r.turning;
      locking = r.locking;
      stepping = refl;
    })

tick_by-accepted : (idle last : Bool) (d : Drive) → eqb d.pending 0 ≡ idle → eqb d.pending 1 ≡ last
    → accepted_drive d ≡ true → accepted_drive (drive_tick_by idle last d) ≡ true
tick_by-accepted true last d e f h = h
tick_by-accepted false true d e f h = moved-accepted d h
tick_by-accepted false false d e f h =
    let r = ranges d h in
    let left : eqb (d.pending - 1) 0 ≡ false =
    ne_eqb (d.pending - 1) 0 (λ (z : d.pending - 1 ≡ 0). omega (arith, eqb-false d.pending 0 e, eqb-false d.pending 1 f)) in
    in-ranges (with_step d (d.pending - 1) d.heading)
    (record {
      tracks = r.tracks;
      ticks = omega arith;
      turning = r.turning;
      locking = r.locking;
      stepping = ap (λ (z : Bool). not d.heading || not z) left ∙ or-true (not d.heading);
    })

pub drive_ticks-accepted : (n : ℕ) (d : Drive) → accepted_drive d ≡ true → accepted_drive (drive_ticks n d) ≡ true
unfolding drive_ticks tick_drive
drive_ticks-accepted zero d h = h
drive_ticks-accepted (suc n) d h =
    let t = drive_ticks n d in
    tick_by-accepted (eqb t.pending 0) (eqb t.pending 1) t refl refl (drive_ticks-accepted n d h)
