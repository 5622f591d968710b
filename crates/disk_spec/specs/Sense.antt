-- What a drive's sense registers show, by request W-203 and source document 004, and the drive's ranges.
use Rattle.std.specs.Prelude.{ℕ, Bool, true, false, cond, not, ◌&&◌, ◌||◌, eqb, ltb, leb}
use Rattle.disk_spec.specs.declared.Drive.{Drive}

-- A level as a number.
abbrev pub level : Bool → ℕ
level true = 1
level false = 0

-- "Sense registers 0 to 5, 12 and 15 .. now come from the drive, the others still from SN."
unfoldable pub is_drive_sense : ℕ → Bool
is_drive_sense register = ltb register 6 || (eqb register 12 || eqb register 15)

-- Document 004: 0 DIRTN, 1 CSTIN ("0 only when a disk is in the drive"), 2 STEP, 3 WRTPRT ("0 whenever the disk is locked"),
-- 4 MOTORON, 5 TKO ("0 only if the head is at track 0"), 12 SIDES ("0 on single-sided drives and 1 on double-sided drives");
-- "15 (always 0)".
unfoldable pub drive_sense : ℕ → Drive → ℕ
drive_sense register d =
    cond (eqb register 0) (level d.direction)
    (cond (eqb register 1) (level (not d.disk))
    (cond (eqb register 2) (level (eqb d.pending 0))
    (cond (eqb register 3) (level (not d.locked))
    (cond (eqb register 4) (level (not d.motor))
    (cond (eqb register 5) (level (not (eqb d.track 0))) (cond (eqb register 12) (level d.sides) 0))))))

-- The level of a sense register, where SN last set it to `stored`.
unfoldable pub sense_shown : ℕ → ℕ → Drive → ℕ
sense_shown register stored d = cond (is_drive_sense register) (drive_sense register d) stored

-- ---- the ranges: track 0 to 79, at most 9,401 ticks left of a step, the motor on and the disk locked only with a disk, the
-- step's own direction 0 with no step pending
unfoldable pub accepted_drive : Drive → Bool
accepted_drive d =
    ltb d.track 80
    && (leb d.pending 9401
    && ((not d.motor || d.disk) && ((not d.locked || d.disk) && (not d.heading || not (eqb d.pending 0)))))
