-- The strobe's look at its levels after each of the values: one look at the levels before and after them all, and whether SEL moved between.
use Prim.Native.Nat.{ℕ, ◌<◌}
use mathlib.Core.Path.{◌≡◌, refl, sym, ap, ap₂, ◌∙◌}
use mathlib.Core.Bool.{Bool, true, false, cond, not, ◌&&◌, ◌||◌, beq, true≢false, false≢true}
use mathlib.Core.List.{List, [], ◌∷◌}
use native.Mathlib.Omega.{arith}
use lib.Dec.{eqb}
use lib.ListN.{length}
use Rattle.via.specs.declared.Ports.{Ports}
use Rattle.via.specs.Writes.{ports_written}
use Rattle.disk_lines.specs.declared.DiskLines.{DiskLines}
use Rattle.disk_lines.specs.Lines as lines
use Rattle.disk_spec.specs.declared.Strobe.{Strobe}
use Rattle.disk_spec.specs.declared.Watched.{Watched}
use Rattle.disk_spec.specs.declared.Drives.{Drives}
use Rattle.disk_spec.specs.Strobe.{no_strobe, after_by, strobe_after, accepted_strobe}
use Rattle.disk_spec.specs.Watched.{watched_of, held_still, unspoilt}
use Rattle.disk_spec.specs.Drives.{with_strobe, drives_written, drives_after, accepted_drives}
use Rattle.disk_spec.proofs.Pulses.{level-writes-nothing}
use Rattle.disk_spec.proofs.DrivesLaws.{drives-unlit}
use Rattle.machine_spec.specs.Pins.{sel_of}
use Rattle.machine_write.specs.Values.{ports_after, moves_sel, spoilt_if}
use Rattle.machine_write.proofs.Values.{ports-again, ports-last}

-- The levels with these ports, and the level of SEL.
abbrev levels : DiskLines → Ports → Watched
levels l p = watched_of l (sel_of p)

abbrev sel : Ports → Bool
sel p = eqb (sel_of p) 1

-- The drives after each of the values.
unfoldable pub strobes_after : ℕ → List ℕ → DiskLines → Ports → Drives → Drives
strobes_after r [] l p d = d
strobes_after r (v ∷ vs) l p d = strobes_after r vs l (ports_written r v p) (drives_after (levels l p) (levels l (ports_written r v p)) d)

-- ---- with LSTRB off nothing changes

strobes-unlit : (r : ℕ) (vs : List ℕ) (l : DiskLines) (p : Ports) (d : Drives) → (watched_of l (sel_of p)).lstrb ≡ false → accepted_drives (watched_of l (sel_of p)) d ≡ true
    → strobes_after r vs l p d ≡ d
unfolding strobes_after watched_of accepted_drives accepted_strobe
strobes-unlit r [] l p d off a = refl
strobes-unlit r (v ∷ vs) l p d off a =
    ap (strobes_after r vs l (ports_written r v p)) (drives-unlit (levels l p) (levels l (ports_written r v p)) d off off a)
    ∙ strobes-unlit r vs l (ports_written r v p) d off a

-- ---- with LSTRB on

-- The strobe kept, where ENABLE is on and SEL has the same level before and after.
abbrev keep : Bool → Bool → Bool → Strobe → Strobe
keep enable a b s = cond (enable && beq a b) s no_strobe

same : (b : Bool) → beq b b ≡ true
same true = refl
same false = refl

and-true : (b : Bool) → (b && true) ≡ b
and-true true = refl
and-true false = refl

fine : (b e : Bool) (s : Strobe) → after_by true true b e s ≡ cond b s no_strobe
fine true e s = refl
fine false e s = refl

-- One look.
pub lit-step : (l : DiskLines) (p q : Ports) (d : Drives) → eqb (lines.lstrb l) 1 ≡ true
    → drives_after (levels l p) (levels l q) d ≡ with_strobe d (keep (eqb (lines.enable l) 1) (sel p) (sel q) d.strobe)
unfolding drives_after strobe_after unspoilt held_still watched_of
lit-step l p q d on =
    let e = eqb (lines.enable l) 1 in
    ap (λ (b : Bool). with_strobe (drives_written b (levels l q) d) (strobe_after (levels l p) (levels l q) d.strobe)) (level-writes-nothing (levels l p) (levels l q) d.strobe refl)
    ∙ ap (with_strobe d)
    (simp (on, same (eqb (lines.ca0 l) 1), same (eqb (lines.ca1 l) 1), same (eqb (lines.ca2 l) 1), same (eqb (lines.select l) 1), and-true (beq (sel p) (sel q))) (fine (e && beq (sel p) (sel q)) e d.strobe))

-- Whether SEL moves is the same after a value that came before.
moves-again : (r u : ℕ) (vs : List ℕ) (p : Ports) (b : Bool) → moves_sel r vs (ports_written r u p) b ≡ moves_sel r vs p b
unfolding moves_sel
moves-again r u [] p b = refl
moves-again r u (v ∷ vs) p b = ap₂ (λ (q : Ports) (m : Bool). cond (not (beq (sel q) b)) true m) (ports-again r u v p) (moves-again r u vs p b)

moves-after : (r : ℕ) (us vs : List ℕ) (p : Ports) (b : Bool) → 0 < length us → moves_sel r vs (ports_after r us p) b ≡ moves_sel r vs p b
moves-after r us vs p b h = ap (λ (q : Ports). moves_sel r vs q b) (ports-last r us p h) ∙ moves-again r _ vs p b

-- The strobe after each of the values.
unfoldable kept : ℕ → List ℕ → Bool → Ports → Strobe → Strobe
kept r [] e p s = s
kept r (v ∷ vs) e p s = kept r vs e (ports_written r v p) (keep e (sel p) (sel (ports_written r v p)) s)

strobes-kept : (r : ℕ) (vs : List ℕ) (l : DiskLines) (p : Ports) (d : Drives) → eqb (lines.lstrb l) 1 ≡ true
    → strobes_after r vs l p d ≡ with_strobe d (kept r vs (eqb (lines.enable l) 1) p d.strobe)
unfolding strobes_after kept
strobes-kept r [] l p d on = refl
strobes-kept r (v ∷ vs) l p d on =
    ap (strobes_after r vs l (ports_written r v p)) (lit-step l p (ports_written r v p) d on)
    ∙ strobes-kept r vs l (ports_written r v p) (with_strobe d (keep (eqb (lines.enable l) 1) (sel p) (sel (ports_written r v p)) d.strobe)) on

first : (e a b : Bool) (s : Strobe) → keep e a b s ≡ cond (e && not (cond (not (beq b a)) true false)) s no_strobe
first true true true s = refl
first true true false s = refl
first true false true s = refl
first true false false s = refl
first false a b s = refl

none : (b : Bool) → ◌≡◌ {A = Strobe} (cond b no_strobe no_strobe) no_strobe
none true = refl
none false = refl

join : (e a b m n : Bool) (s : Strobe) → (a ≡ b → n ≡ m) → cond (e && not n) (keep e a b s) no_strobe ≡ cond (e && not (cond (not (beq b a)) true m)) s no_strobe
join true true true m n s h = ap (λ (x : Bool). cond (not x) s no_strobe) (h refl)
join true false false m n s h = ap (λ (x : Bool). cond (not x) s no_strobe) (h refl)
join true true false m n s h = none (not n)
join true false true m n s h = none (not n)
join false a b m n s h = refl

kept-is : (r v : ℕ) (vs : List ℕ) (e : Bool) (p : Ports) (s : Strobe) → kept r (v ∷ vs) e p s ≡ cond (e && not (moves_sel r (v ∷ vs) p (sel p))) s no_strobe
unfolding kept moves_sel
kept-is r v [] e p s = first e (sel p) (sel (ports_written r v p)) s
kept-is r v (u ∷ vs) e p s =
    let q = ports_written r v p in
    kept-is r u vs e q (keep e (sel p) (sel q) s)
    ∙ join e (sel p) (sel q) (moves_sel r (u ∷ vs) p (sel p)) (moves_sel r (u ∷ vs) q (sel q)) s
    (λ f. moves-again r v (u ∷ vs) p (sel q) ∙ ap (moves_sel r (u ∷ vs) p) (sym f))

-- Where SEL never moves, it has its level at the end.
unmoved : (r v : ℕ) (vs : List ℕ) (p : Ports) (b : Bool) → moves_sel r (v ∷ vs) p b ≡ false → beq (sel (ports_after r (v ∷ vs) p)) b ≡ true
unfolding moves_sel ports_after
unmoved r v [] p b h = level (beq (sel (ports_written r v p)) b) h
  where
    level : (x : Bool) → cond (not x) true false ≡ false → x ≡ true
    level true h = refl
    level false h = sym h
unmoved r v (u ∷ vs) p b h = unmoved r u vs (ports_written r v p) b (moves-again r v (u ∷ vs) p b ∙ later (not (beq (sel (ports_written r v p)) b)) _ h)
  where
    later : (x y : Bool) → cond x true y ≡ false → y ≡ false
    later true y h = absurd (true≢false h)
    later false y h = h

spoil : (m e a b : Bool) (d : Drives) → (m ≡ false → beq b a ≡ true) → with_strobe d (cond (e && not m) d.strobe no_strobe) ≡ spoilt_if m (with_strobe d (keep e a b d.strobe))
spoil true true a b d h = refl
spoil true false a b d h = refl
spoil false true true true d h = refl
spoil false true false false d h = refl
spoil false true true false d h = absurd (false≢true (h refl))
spoil false true false true d h = absurd (false≢true (h refl))
spoil false false a b d h = refl

pub strobes-lit : (r : ℕ) (vs : List ℕ) (l : DiskLines) (p : Ports) (d : Drives) → 0 < length vs → (watched_of l (sel_of p)).lstrb ≡ true
    → strobes_after r vs l p d ≡ spoilt_if (moves_sel r vs p (watched_of l (sel_of p)).sel) (drives_after (watched_of l (sel_of p)) (watched_of l (sel_of (ports_after r vs p))) d)
unfolding watched_of
strobes-lit r [] l p d h on = absurd (omega arith)
strobes-lit r (v ∷ vs) l p d h on =
    let e = eqb (lines.enable l) 1 in
    let m = moves_sel r (v ∷ vs) p (sel p) in
    let q = ports_after r (v ∷ vs) p in
    strobes-kept r (v ∷ vs) l p d on ∙ ap (with_strobe d) (kept-is r v vs e p d.strobe)
    ∙ spoil m e (sel p) (sel q) d (unmoved r v vs p (sel p))
    ∙ ap (spoilt_if m) (sym (lit-step l p q d on))

-- What code does: one look at the levels before and after, where LSTRB is on before or after; SEL asked with the ports at the end.
pub strobes-by : (r : ℕ) (vs : List ℕ) (l : DiskLines) (p : Ports) (d : Drives) → 0 < length vs → accepted_drives (watched_of l (sel_of p)) d ≡ true
    → (((watched_of l (sel_of p)).lstrb || (watched_of l (sel_of (ports_after r vs p))).lstrb) ≡ true
    → strobes_after r vs l p d ≡ spoilt_if (moves_sel r vs (ports_after r vs p) (watched_of l (sel_of p)).sel) (drives_after (watched_of l (sel_of p)) (watched_of l (sel_of (ports_after r vs p))) d))
    × (((watched_of l (sel_of p)).lstrb || (watched_of l (sel_of (ports_after r vs p))).lstrb) ≡ false → strobes_after r vs l p d ≡ d)
unfolding watched_of
strobes-by r vs l p d h a = (
  λ on.
      strobes-lit r vs l p d h (once (eqb (lines.lstrb l) 1) true on)
      ∙ ap (λ (m : Bool). spoilt_if m (drives_after (levels l p) (levels l (ports_after r vs p)) d)) (sym (moves-after r vs vs p (sel p) h)),
  λ off. strobes-unlit r vs l p d (once (eqb (lines.lstrb l) 1) false off) a,
)
  where
    once : (x y : Bool) → (x || x) ≡ y → x ≡ y
    once true y e = e
    once false y e = e
