-- The strobe LSTRB, and when a write to a drive's register acts, by request W-203 and source document 004. Time is in VIA ticks.
use Rattle.std.specs.Prelude.{ℕ, zero, suc, ◌+◌, Bool, true, false, cond, not, ◌&&◌, ◌||◌, eqb, ltb, leb}
use Rattle.disk_spec.specs.declared.Strobe.{Strobe}
use Rattle.disk_spec.specs.declared.Watched.{Watched}
use Rattle.disk_spec.specs.Watched.{unspoilt, register_of}

-- No strobe, or one that is spoilt.
abbrev pub no_strobe : Strobe
no_strobe = record { ticks = 0; steady = false }

abbrev pub with_ticks : Strobe → ℕ → Strobe
with_ticks s n = record { ticks = n; steady = s.steady }

-- ---- time

-- One tick, given whether the strobe is steady, and whether its count still grows: eject asks for no more than 391,680.
abbrev pub strobe_tick_by : Bool → Bool → Strobe → Strobe
strobe_tick_by true true s = with_ticks s (s.ticks + 1)
strobe_tick_by true false s = s
strobe_tick_by false grows s = s

unfoldable pub tick_strobe : Strobe → Strobe
tick_strobe s = strobe_tick_by s.steady (ltb s.ticks 391680) s

-- n ticks, one after the other.
unfoldable pub strobe_ticks : ℕ → Strobe → Strobe
strobe_ticks zero s = s
strobe_ticks (suc n) s = tick_strobe (strobe_ticks n s)

-- ---- the levels before and after an item, once its wait has passed

-- LSTRB after and before, whether nothing spoilt the strobe, and ENABLE after. LSTRB's rise begins a strobe, with ENABLE on.
abbrev pub after_by : Bool → Bool → Bool → Bool → Strobe → Strobe
after_by false was fine enable s = no_strobe
after_by true false fine enable s = record { ticks = 0; steady = enable }
after_by true true true enable s = s
after_by true true false enable s = no_strobe

unfoldable pub strobe_after : Watched → Watched → Strobe → Strobe
strobe_after before after s = after_by after.lstrb before.lstrb (unspoilt before after) after.enable s

-- ---- a write that acts

-- "after 1 to 783 VIA ticks; eject needs 391,680 or more. Other lengths .. do nothing."
unfoldable pub long_enough : ℕ → ℕ → Bool
long_enough register ticks = cond (eqb register 3) (leb 391680 ticks) (leb 1 ticks && leb ticks 783)

-- "A write acts when LSTRB drops, if ENABLE stayed on and CA0 to CA2, SEL and SELECT held still"; "SEL 1 .. do nothing". Its
-- register is `register_of after`, its value CA2, its drive SELECT.
unfoldable pub strobe_writes : Watched → Watched → Strobe → Bool
strobe_writes before after s =
    (before.lstrb && not after.lstrb)
    && ((s.steady && unspoilt before after) && (not after.sel && long_enough (register_of after) s.ticks))

-- ---- the ranges: at most 391,680 ticks; 0 ticks unless steady; steady only while LSTRB and ENABLE are on
unfoldable pub accepted_strobe : Watched → Strobe → Bool
accepted_strobe w s =
    leb s.ticks 391680 && ((s.steady || eqb s.ticks 0) && (not s.steady || (w.lstrb && w.enable)))
