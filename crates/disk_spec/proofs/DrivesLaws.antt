-- Laws of the two drives and their strobe: waits add up, every step keeps the ranges, levels that stay change nothing, and a sense is a level.
use Prim.Native.Nat.{ℕ, ◌+◌, ◌/◌, ◌%◌, ◌<◌}
use mathlib.Core.Path.{◌≡◌, refl, sym, ap, ◌∙◌}
use mathlib.Core.Bool.{Bool, true, false, cond, not, ◌&&◌, ◌||◌, false≢true}
use native.Mathlib.Omega.{arith}
use lib.Dec.{eqb}
use borrow.Author.Tests.{eqb-true}
use Rattle.levels.proofs.Laws.{both}
use Rattle.disk_spec.specs.declared.Drive.{Drive}
use Rattle.disk_spec.specs.Control.{disk_moved, register_written}
use Rattle.disk_spec.specs.Sense.{level, is_drive_sense, drive_sense, sense_shown, accepted_drive}
use Rattle.disk_spec.proofs.DriveTicks.{drive_ticks-add, idle}
use Rattle.disk_spec.proofs.Ranges.{fresh-accepted, inserted-accepted, removed-accepted, powered-accepted, register_written-accepted, drive_ticks-accepted}
use Rattle.disk_spec.specs.declared.Watched.{Watched}
use Rattle.disk_spec.specs.Watched.{register_of}
use Rattle.disk_spec.specs.Strobe.{strobe_after, strobe_writes, accepted_strobe}
use Rattle.disk_spec.proofs.StrobeTicks.{strobe_ticks-add, unsteady}
use Rattle.disk_spec.proofs.Pulses.{level-writes-nothing, unlit, untouched}
use Rattle.disk_spec.proofs.Bounds.{quiet-accepted, strobe_ticks-accepted, strobe_after-accepted}
use Rattle.disk_spec.specs.declared.Drives.{Drives}
use Rattle.disk_spec.specs.Drives.{with_strobe, drive_at, with_drive_at, fresh_drives, drives_ticks, drives_busy, drives_disk_moved, drives_powered, drives_written, drives_after, drives_shown, accepted_drives}

-- Waiting a ticks and then b, for all whole numbers.
pub drives_ticks-add : (a b : ℕ) (d : Drives) → drives_ticks (a + b) d ≡ drives_ticks b (drives_ticks a d)
unfolding drives_ticks
drives_ticks-add a b d =
    simp (drive_ticks-add a b d.internal, drive_ticks-add a b d.external, strobe_ticks-add a b d.strobe)

-- Where no step is pending and no strobe is steady, time changes nothing.
pub idle-drives : (n : ℕ) (d : Drives) → drives_busy d ≡ false → drives_ticks n d ≡ d
unfolding drives_busy drives_ticks
idle-drives n d h =
    let p = neither (not (eqb d.internal.pending 0)) _ h in
    let q = neither (not (eqb d.external.pending 0)) _ p.1 in
    simp (idle n d.internal (none d.internal.pending p.0), idle n d.external (none d.external.pending q.0), unsteady n d.strobe q.1)
  where
    neither : (a b : Bool) → (a || b) ≡ false → (a ≡ false) × (b ≡ false)
    neither true b e = (e, absurd (false≢true (sym e)))
    neither false b e = (refl, e)

    none : (k : ℕ) → not (eqb k 0) ≡ false → k ≡ 0
    none k e = eqb-true k 0 (negated (eqb k 0) e)
      where
        negated : (a : Bool) → not a ≡ false → a ≡ true
        negated true e = refl
        negated false e = sym e

-- A second power cut changes nothing more.
pub powered-twice : (d : Drives) → drives_powered (drives_powered d) ≡ drives_powered d
unfolding drives_powered
powered-twice d = refl

-- ---- the ranges

-- Each part by its name.
pub record Parts (w : Watched) (d : Drives) : Type 0 where
  pub inside : accepted_drive d.internal ≡ true
  pub outside : accepted_drive d.external ≡ true
  pub strobing : accepted_strobe w d.strobe ≡ true

pub parts : (w : Watched) (d : Drives) → accepted_drives w d ≡ true → Parts w d
unfolding accepted_drives
parts w d h =
    let p = both (accepted_drive d.internal) (accepted_drive d.external && accepted_strobe w d.strobe) h in
    let q = both (accepted_drive d.external) (accepted_strobe w d.strobe) p.1 in
    record { inside = p.0; outside = q.0; strobing = q.1 }

pub whole : (w : Watched) (d : Drives) → Parts w d → accepted_drives w d ≡ true
unfolding accepted_drives
whole w d p = simp (p.inside, p.outside, p.strobing)

pub fresh_drives-accepted : (w : Watched) → accepted_drives w fresh_drives ≡ true
fresh_drives-accepted w = whole w fresh_drives (record { inside = fresh-accepted; outside = fresh-accepted; strobing = quiet-accepted w })

-- A wait changes no level.
pub drives_ticks-accepted : (n : ℕ) (w : Watched) (d : Drives) → accepted_drives w d ≡ true → accepted_drives w (drives_ticks n d) ≡ true
unfolding drives_ticks
drives_ticks-accepted n w d h =
    let p = parts w d h in
    whole w (drives_ticks n d)
    (record {
      inside = drive_ticks-accepted n d.internal p.inside;
      outside = drive_ticks-accepted n d.external p.outside;
      strobing = strobe_ticks-accepted n w d.strobe p.strobing;
    })

-- The selected drive, and another put in its place.
selected-accepted : (e : Bool) (w : Watched) (d : Drives) → Parts w d → accepted_drive (drive_at e d) ≡ true
selected-accepted true w d p = p.outside
selected-accepted false w d p = p.inside

with_selected-parts : (e : Bool) (w : Watched) (d : Drives) (x : Drive) → accepted_drive x ≡ true → Parts w d → Parts w (with_drive_at e d x)
with_selected-parts true w d x h p = record { inside = p.inside; outside = h; strobing = p.strobing }
with_selected-parts false w d x h p = record { inside = h; outside = p.outside; strobing = p.strobing }

disk_moved-accepted : (insert locked sides : Bool) (d : Drive) → accepted_drive d ≡ true → accepted_drive (disk_moved insert locked sides d) ≡ true
disk_moved-accepted true locked sides d h = inserted-accepted locked sides d h
disk_moved-accepted false locked sides d h = removed-accepted d h

pub placed-accepted : (e insert locked sides : Bool) (w : Watched) (d : Drives) → accepted_drives w d ≡ true
    → accepted_drives w (drives_disk_moved e insert locked sides d) ≡ true
unfolding drives_disk_moved
placed-accepted e insert locked sides w d h =
    let p = parts w d h in
    whole w (drives_disk_moved e insert locked sides d)
    (with_selected-parts e w d (disk_moved insert locked sides (drive_at e d))
    (disk_moved-accepted insert locked sides (drive_at e d) (selected-accepted e w d p))
    p)

pub drives_powered-accepted : (w : Watched) (d : Drives) → accepted_drives w d ≡ true → accepted_drives w (drives_powered d) ≡ true
unfolding drives_powered
drives_powered-accepted w d h =
    let p = parts w d h in
    whole w (drives_powered d)
    (record {
      inside = powered-accepted d.internal p.inside;
      outside = powered-accepted d.external p.outside;
      strobing = p.strobing;
    })

written_by-parts : (acts : Bool) (w v : Watched) (d : Drives) → Parts w d → Parts w (drives_written acts v d)
written_by-parts true w v d p =
    with_selected-parts v.select w d (register_written (register_of v) v.ca2 (drive_at v.select d))
    (register_written-accepted (register_of v) v.ca2 (drive_at v.select d) (selected-accepted v.select w d p))
    p
written_by-parts false w v d p = p

-- From the levels before an item to those after it.
pub drives_after-accepted : (before after : Watched) (d : Drives) → accepted_drives before d ≡ true
    → accepted_drives after (drives_after before after d) ≡ true
unfolding drives_after
drives_after-accepted before after d h =
    let p = parts before d h in
    let q = written_by-parts (strobe_writes before after d.strobe) before after d p in
    whole after (drives_after before after d)
    (record {
      inside = q.inside;
      outside = q.outside;
      strobing = strobe_after-accepted before after d.strobe p.strobing;
    })

-- An item that leaves every level as it is changes nothing of the drives.
pub drives-untouched : (w : Watched) (d : Drives) → accepted_drives w d ≡ true → drives_after w w d ≡ d
unfolding drives_after
drives-untouched w d h =
    ap (λ (b : Bool). with_strobe (drives_written b w d) (strobe_after w w d.strobe)) (level-writes-nothing w w d.strobe refl)
    ∙ ap (with_strobe d) (untouched w d.strobe (parts w d h).strobing)

-- An item that leaves LSTRB off changes nothing of the drives.
pub drives-unlit : (before after : Watched) (d : Drives) → before.lstrb ≡ false → after.lstrb ≡ false → accepted_drives before d ≡ true → drives_after before after d ≡ d
unfolding drives_after
drives-unlit before after d p q h =
    ap (λ (b : Bool). with_strobe (drives_written b after d) (strobe_after before after d.strobe)) (level-writes-nothing before after d.strobe (p ∙ sym q))
    ∙ ap (with_strobe d) (unlit before after d.strobe p q (parts before d h).strobing)

-- ---- the sense

level-below : (b : Bool) → level b < 2
level-below true = omega arith
level-below false = omega arith

pick-below : (t : Bool) (x y : ℕ) → x < 2 → y < 2 → cond t x y < 2
pick-below true x y h k = h
pick-below false x y h k = k

sense-below : (register : ℕ) (d : Drive) → drive_sense register d < 2
unfolding drive_sense
sense-below r d =
    pick-below (eqb r 0) _ _ (level-below d.direction)
    (pick-below (eqb r 1) _ _ (level-below (not d.disk))
    (pick-below (eqb r 2) _ _ (level-below (eqb d.pending 0))
    (pick-below (eqb r 3) _ _ (level-below (not d.locked))
    (pick-below (eqb r 4) _ _ (level-below (not d.motor))
    (pick-below (eqb r 5) _ _ (level-below (not (eqb d.track 0))) (pick-below (eqb r 12) _ _ (level-below d.sides) (omega arith)))))))

-- What a sense register shows is a level, where SN stored one.
pub shown-below : (place stored : ℕ) (d : Drives) → stored < 2 → drives_shown place stored d < 2
unfolding drives_shown sense_shown
shown-below place stored d h =
    pick-below (is_drive_sense (place % 16)) _ stored (sense-below (place % 16) (drive_at (eqb (place / 16) 1) d)) h
