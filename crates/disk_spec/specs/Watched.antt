-- The levels that a drive's strobe goes by: request W-203 and source document 004.
use Rattle.std.specs.Prelude.{ℕ, Bool, true, false, ◌&&◌, eqb}
use Rattle.std.specs.Bool.{beq}
use Rattle.disk_lines.specs.declared.DiskLines.{DiskLines}
use Rattle.disk_lines.specs.Lines as lines
use Rattle.disk_spec.specs.declared.Watched.{Watched}

-- "LSTRB", "ENABLE", "CA0 to CA2, SEL and SELECT". Q6 and Q7 are not watched.
unfoldable pub watched_of : DiskLines → ℕ → Watched
watched_of d sel =
    record {
      lstrb = eqb (lines.lstrb d) 1;
      enable = eqb (lines.enable d) 1;
      ca0 = eqb (lines.ca0 d) 1;
      ca1 = eqb (lines.ca1 d) 1;
      ca2 = eqb (lines.ca2 d) 1;
      sel = eqb sel 1;
      select = eqb (lines.select d) 1;
    }

-- ---- the levels before and after an item, once its wait has passed

-- "CA0 to CA2, SEL and SELECT held still"
unfoldable pub held_still : Watched → Watched → Bool
held_still before after =
    beq before.ca0 after.ca0
    && (beq before.ca1 after.ca1
    && (beq before.ca2 after.ca2 && (beq before.sel after.sel && beq before.select after.select)))

-- "if ENABLE stayed on and CA0 to CA2, SEL and SELECT held still"
unfoldable pub unspoilt : Watched → Watched → Bool
unspoilt before after = after.enable && held_still before after

-- Document 004: CA1 and CA0 address DIRTN, STEP, MOTORON or EJECT.
abbrev pub register_by : Bool → Bool → ℕ
register_by false false = 0
register_by false true = 1
register_by true false = 2
register_by true true = 3

unfoldable pub register_of : Watched → ℕ
register_of w = register_by w.ca1 w.ca0
