-- Every step keeps the strobe in its ranges.
use Prim.Native.Nat.{ℕ, zero, suc, ◌+◌, ◌≤◌}
use mathlib.Core.Path.{◌≡◌, refl, ap}
use mathlib.Core.Bool.{Bool, true, false, not, ◌&&◌, ◌||◌, or-true}
use native.Mathlib.Omega.{arith}
use borrow.Author.Tests.{ltb-true, le-leb, leb-true}
use lib.Dec.{eqb, ltb, leb}
use Rattle.levels.proofs.Laws.{no, both}
use Rattle.disk_spec.specs.Watched.{held_still, unspoilt}
use Rattle.disk_spec.specs.Strobe.{no_strobe, strobe_tick_by, tick_strobe, strobe_ticks, after_by, strobe_after, accepted_strobe}
use Rattle.disk_spec.specs.declared.Strobe.{Strobe}
use Rattle.disk_spec.specs.declared.Watched.{Watched}

-- The ranges, each by its name, where the levels of LSTRB and ENABLE are these.
pub record Ranges (lstrb enable : Bool) (s : Strobe) : Type 0 where
  pub counting : s.ticks ≤ 391680
  pub resting : (s.steady || eqb s.ticks 0) ≡ true
  pub lit : (not s.steady || (lstrb && enable)) ≡ true

pub ranges : (w : Watched) (s : Strobe) → accepted_strobe w s ≡ true → Ranges w.lstrb w.enable s
unfolding accepted_strobe
ranges w s h =
    let a = s.steady || eqb s.ticks 0 in
    let b = not s.steady || (w.lstrb && w.enable) in
    let p = both (leb s.ticks 391680) (a && b) h in
    let q = both a b p.1 in
    record { counting = leb-true s.ticks 391680 p.0; resting = q.0; lit = q.1 }

pub in-ranges : (w : Watched) (s : Strobe) → Ranges w.lstrb w.enable s → accepted_strobe w s ≡ true
unfolding accepted_strobe
in-ranges w s r = simp (le-leb s.ticks 391680 r.counting, r.resting, r.lit)

-- No strobe is in its ranges, whatever the levels are.
pub quiet-accepted : (w : Watched) → accepted_strobe w no_strobe ≡ true
unfolding accepted_strobe
quiet-accepted w = refl

-- ---- time

tick_by-ranges : (lstrb enable steady grows : Bool) (s : Strobe) → s.steady ≡ steady → ltb s.ticks 391680 ≡ grows
    → Ranges lstrb enable s → Ranges lstrb enable (strobe_tick_by steady grows s)
tick_by-ranges lstrb enable true true s e g r =
    record {
      counting = omega (arith, ltb-true s.ticks 391680 g);
      resting = ap (λ (b : Bool). b || eqb (s.ticks + 1) 0) e;
      lit = r.lit;
    }
tick_by-ranges lstrb enable true false s e g r = r
tick_by-ranges lstrb enable false grows s e g r = r

strobe_ticks-ranges : (lstrb enable : Bool) (n : ℕ) (s : Strobe) → Ranges lstrb enable s → Ranges lstrb enable (strobe_ticks n s)
unfolding strobe_ticks tick_strobe
strobe_ticks-ranges lstrb enable zero s r = r
strobe_ticks-ranges lstrb enable (suc n) s r =
    let t = strobe_ticks n s in
    tick_by-ranges lstrb enable t.steady (ltb t.ticks 391680) t refl refl (strobe_ticks-ranges lstrb enable n s r)

-- A wait changes no level.
pub strobe_ticks-accepted : (n : ℕ) (w : Watched) (s : Strobe) → accepted_strobe w s ≡ true → accepted_strobe w (strobe_ticks n s) ≡ true
strobe_ticks-accepted n w s h = in-ranges w (strobe_ticks n s) (strobe_ticks-ranges w.lstrb w.enable n s (ranges w s h))

-- ---- an item

quiet-ranges : (lstrb enable : Bool) → Ranges lstrb enable no_strobe
quiet-ranges lstrb enable = record { counting = omega arith; resting = refl; lit = refl }

-- LSTRB rises: the strobe is steady where ENABLE is on.
rise-ranges : (enable : Bool) → Ranges true enable (record { ticks = 0; steady = enable })
rise-ranges true = record { counting = omega arith; resting = refl; lit = refl }
rise-ranges false = quiet-ranges true false

-- A strobe in its ranges stays in them where LSTRB and ENABLE are on.
on-ranges : {lstrb enable : Bool} (s : Strobe) → Ranges lstrb enable s → Ranges true true s
on-ranges s r = record { counting = r.counting; resting = r.resting; lit = or-true (not s.steady) }

after_by-ranges : (on was fine enable before : Bool) (s : Strobe) → (fine ≡ true → enable ≡ true) → Ranges was before s
    → Ranges on enable (after_by on was fine enable s)
after_by-ranges false was fine enable before s f r = quiet-ranges false enable
after_by-ranges true false fine enable before s f r = rise-ranges enable
after_by-ranges true true true true before s f r = on-ranges s r
after_by-ranges true true true false before s f r = no (f refl)
after_by-ranges true true false enable before s f r = quiet-ranges true enable

pub strobe_after-accepted : (before after : Watched) (s : Strobe) → accepted_strobe before s ≡ true
    → accepted_strobe after (strobe_after before after s) ≡ true
unfolding strobe_after unspoilt
strobe_after-accepted before after s h =
    in-ranges after (strobe_after before after s)
    (after_by-ranges after.lstrb before.lstrb (unspoilt before after) after.enable before.enable s
    (λ (e : unspoilt before after ≡ true). (both after.enable (held_still before after) e).0)
    (ranges before s h))
