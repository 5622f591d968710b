-- What a conversion knows of the records before the one that it is at: request W-214. "Old captures, begun on a fresh machine".
use Rattle.std.specs.Prelude.{ℕ, cond, List, get_or, eqb}
use Rattle.capture_spec.specs.declared.DriveLevels.{DriveLevels}
use Rattle.capture_spec.specs.declared.Levels.{Levels}
use Rattle.capture_spec.specs.Capture.{retired_of, line0_of}

-- Before any SN item: no disk, not locked; sides "else 1".
unfoldable pub no_levels : DriveLevels
no_levels = record { cstin = 1; wrtprt = 1; sides = 1 }

-- At the start line 0 has the fresh machine's level, 1.
unfoldable pub first_levels : Levels
first_levels = record { line0 = 1; internal = no_levels; external = no_levels }

abbrev pub with_cstin : DriveLevels → ℕ → DriveLevels
with_cstin x v = record { cstin = v; wrtprt = x.wrtprt; sides = x.sides }

abbrev pub with_wrtprt : DriveLevels → ℕ → DriveLevels
with_wrtprt x v = record { cstin = x.cstin; wrtprt = v; sides = x.sides }

abbrev pub with_sides : DriveLevels → ℕ → DriveLevels
with_sides x v = record { cstin = x.cstin; wrtprt = x.wrtprt; sides = v }

abbrev pub with_line0 : Levels → ℕ → Levels
with_line0 m v = record { line0 = v; internal = m.internal; external = m.external }

abbrev pub with_internal : Levels → DriveLevels → Levels
with_internal m x = record { line0 = m.line0; internal = x; external = m.external }

abbrev pub with_external : Levels → DriveLevels → Levels
with_external m x = record { line0 = m.line0; internal = m.internal; external = x }

-- A drive after an SN: registers 1, 3 and 12 are those that a DI is made from.
unfoldable pub drive_sense_of : DriveLevels → ℕ → ℕ → DriveLevels
drive_sense_of x register level =
    cond (eqb register 1) (with_cstin x level)
    (cond (eqb register 3) (with_wrtprt x level)
    (cond (eqb register 12) (with_sides x level) x))

-- "drive 0 internal or 1 external".
unfoldable pub drive_of : Levels → ℕ → DriveLevels
drive_of m drive = cond (eqb drive 1) m.external m.internal

unfoldable pub sense_to : Levels → ℕ → ℕ → ℕ → Levels
sense_to m drive register level =
    cond (eqb drive 1)
    (with_external m (drive_sense_of m.external register level))
    (with_internal m (drive_sense_of m.internal register level))

-- After a record: a valid retired SN has its drive, register and level in bytes 6 to 8, a valid IN its level in byte 7; no other record counts.
unfoldable pub next_of : Levels → List ℕ → Levels
next_of m r =
    cond (retired_of r) (sense_to m (get_or r 6 0) (get_or r 7 0) (get_or r 8 0))
    (cond (line0_of r) (with_line0 m (get_or r 7 0)) m)
