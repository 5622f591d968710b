-- What a strobe promises its users: which pulses of LSTRB write, and what spoils one.
use Prim.Native.Nat.{ℕ, ◌≤◌}
use mathlib.Core.Path.{◌≡◌, refl, sym, ap, ◌∙◌}
use mathlib.Core.Bool.{Bool, true, false, not, ◌&&◌, ◌||◌, and-false, and-not_self, beq}
use native.Mathlib.Nat.{zero-add}
use native.Mathlib.Omega.{arith}
use borrow.Author.Tests.{eqb-true}
use lib.Dec.{eqb}
use Rattle.levels.proofs.Laws.{no}
use Rattle.disk_spec.proofs.StrobeTicks.{unsteady, counts}
use Rattle.disk_spec.proofs.Bounds.{Ranges, ranges}
use Rattle.disk_spec.specs.Watched.{held_still, unspoilt, register_of}
use Rattle.disk_spec.specs.Strobe.{no_strobe, with_ticks, strobe_ticks, after_by, strobe_after, long_enough, strobe_writes, accepted_strobe}
use Rattle.disk_spec.specs.declared.Strobe.{Strobe}
use Rattle.disk_spec.specs.declared.Watched.{Watched}

-- ---- the lengths that write

-- Direction, step and motor: 1 to 783 ticks. Eject: 391,680 or more.
pub lengths : (long_enough 1 0 ≡ false) × (long_enough 1 1 ≡ true) × (long_enough 1 783 ≡ true) × (long_enough 1 784 ≡ false)
    × (long_enough 1 391680 ≡ false) × (long_enough 3 783 ≡ false) × (long_enough 3 391679 ≡ false) × (long_enough 3 391680 ≡ true)
unfolding long_enough
lengths = (refl, refl, refl, refl, refl, refl, refl, refl)

-- ---- a pulse

-- The levels of w with LSTRB on or off, and ENABLE on.
abbrev pub lit : Bool → Watched → Watched
lit on w = record { lstrb = on; enable = true; ca0 = w.ca0; ca1 = w.ca1; ca2 = w.ca2; sel = w.sel; select = w.select }

same : (a : Bool) → beq a a ≡ true
same true = refl
same false = refl

still : (w : Watched) → held_still w w ≡ true
unfolding held_still
still w = simp (same w.ca0, same w.ca1, same w.ca2, same w.sel, same w.select)

-- LSTRB and ENABLE are not among them.
held : (on off : Bool) (w : Watched) → held_still (lit on w) (lit off w) ≡ true
unfolding held_still
held on off w = still w

-- LSTRB rises with ENABLE on, n ticks pass, and it drops: a write acts where SEL is 0 and n is long enough for the register.
pub pulse : (n : ℕ) (w : Watched) (s : Strobe) → n ≤ 391680
    → strobe_writes (lit true w) (lit false w) (strobe_ticks n (strobe_after (lit false w) (lit true w) s))
    ≡ (not w.sel && long_enough (register_of w) n)
unfolding strobe_after strobe_writes unspoilt register_of
pulse n w s h =
    let r : Strobe = record { ticks = 0; steady = true } in
    ap (strobe_writes (lit true w) (lit false w)) (counts n r refl (omega arith) ∙ ap (with_ticks r) (zero-add n))
    ∙ simp (held true false w)

-- ---- what spoils a strobe

-- While LSTRB is on, an item that turns ENABLE off or moves another level.
pub spoils : (before after : Watched) (s : Strobe) → before.lstrb ≡ true → after.lstrb ≡ true → unspoilt before after ≡ false
    → strobe_after before after s ≡ no_strobe
unfolding strobe_after
spoils before after s b a e = simp (b, a, e)

-- A spoilt strobe stays so while LSTRB is on, also where the level comes back.
pub spoilt-stays : (n : ℕ) (before after : Watched) → before.lstrb ≡ true → strobe_after before after (strobe_ticks n no_strobe) ≡ no_strobe
unfolding strobe_after
spoilt-stays n before after b =
    ap (strobe_after before after) (unsteady n no_strobe refl)
    ∙ ap (λ (x : Bool). after_by after.lstrb x (unspoilt before after) after.enable no_strobe) b
    ∙ rests after.lstrb (unspoilt before after) after.enable
  where
    rests : (on fine enable : Bool) → after_by on true fine enable no_strobe ≡ no_strobe
    rests false fine enable = refl
    rests true true enable = refl
    rests true false enable = refl

-- It writes nothing.
pub spoilt-writes-nothing : (n : ℕ) (before after : Watched) → strobe_writes before after (strobe_ticks n no_strobe) ≡ false
unfolding strobe_writes
spoilt-writes-nothing n before after =
    ap (strobe_writes before after) (unsteady n no_strobe refl) ∙ and-false (before.lstrb && not after.lstrb)

-- RS and PW turn ENABLE off with LSTRB: no write.
pub reset-writes-nothing : (before after : Watched) (s : Strobe) → after.enable ≡ false → strobe_writes before after s ≡ false
unfolding strobe_writes unspoilt
reset-writes-nothing before after s e = simp (e, and-false)

-- An item that leaves LSTRB as it is writes nothing.
pub level-writes-nothing : (before after : Watched) (s : Strobe) → before.lstrb ≡ after.lstrb → strobe_writes before after s ≡ false
unfolding strobe_writes
level-writes-nothing before after s e = simp (e, and-not_self after.lstrb)

-- An item that leaves every level as it is spoils nothing and does not begin anew.
quiet_is : (s : Strobe) → s.steady ≡ false → (s.steady || eqb s.ticks 0) ≡ true → s ≡ no_strobe
quiet_is s e r =
    let z : s.ticks ≡ 0 = eqb-true s.ticks 0 (sym (ap (λ (b : Bool). b || eqb s.ticks 0) e) ∙ r) in
    ap (λ (b : Bool). record { ticks = s.ticks; steady = b }) e ∙ ap (λ (n : ℕ). record { ticks = n; steady = false }) z

dark : (steady lstrb enable : Bool) → (lstrb && enable) ≡ false → (not steady || (lstrb && enable)) ≡ true → steady ≡ false
dark true lstrb enable e h = no (sym e ∙ h)
dark false lstrb enable e h = refl

-- An item that leaves LSTRB off changes nothing of it.
pub unlit : (before after : Watched) (s : Strobe) → before.lstrb ≡ false → after.lstrb ≡ false → accepted_strobe before s ≡ true → strobe_after before after s ≡ s
unfolding strobe_after
unlit before after s p q h =
    let r = ranges before s h in
    ap (λ (b : Bool). after_by b before.lstrb (unspoilt before after) after.enable s) q
    ∙ sym (quiet_is s (dark s.steady before.lstrb before.enable (ap (λ (b : Bool). b && before.enable) p) r.lit) r.resting)

pub untouched : (w : Watched) (s : Strobe) → accepted_strobe w s ≡ true → strobe_after w w s ≡ s
unfolding strobe_after unspoilt
untouched w s h = go w.lstrb w.enable refl refl
  where
    r : Ranges w.lstrb w.enable s
    r = ranges w s h

    off : (w.lstrb && w.enable) ≡ false → no_strobe ≡ s
    off e = sym (quiet_is s (dark s.steady w.lstrb w.enable e r.lit) r.resting)

    go : (l e : Bool) → w.lstrb ≡ l → w.enable ≡ e → after_by l l (e && held_still w w) e s ≡ s
    go false e p q = off (ap (λ (b : Bool). b && w.enable) p)
    go true true p q = ap (λ (b : Bool). after_by true true b true s) (still w)
    go true false p q = off (ap (λ (b : Bool). b && w.enable) p ∙ q)
