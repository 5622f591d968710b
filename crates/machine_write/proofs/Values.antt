-- Values written one after the other, on plain lists: one more, and none left.
use Prim.Native.Nat.{ℕ, ◌+◌, ◌-◌, ◌≤◌, ◌<◌}
use mathlib.Core.Path.{◌≡◌, refl, sym, ap, ◌∙◌}
use mathlib.Core.Bool.{Bool, true, false, cond, not, ◌&&◌, ◌||◌, beq, false≢true}
use mathlib.Core.List.{List, [], ◌∷◌}
use native.Mathlib.Omega.{arith}
use native.Mathlib.Numerals.{add-one}
use lib.Dec.{eqb}
use lib.ListN.{length, get_or, drop, drop_of_length-le}
use lib.Seq.{drop-cons}
use Rattle.via.specs.declared.Ports.{Ports}
use Rattle.via.specs.declared.Via.{Via}
use Rattle.via.specs.Writes.{ports_written, via_written}
use Rattle.clock_spec.specs.declared.Wires.{Wires}
use Rattle.clock_spec.specs.Phase.{shown_level, accepted_phase}
use Rattle.clock.specs.declared.Clock.{Clock}
use Rattle.clock.specs.Step.{step_wires}
use Rattle.clock.proofs.Keep.{still, keeps-step}
use Rattle.machine_spec.specs.Pins.{wires_of, sel_of}
use Rattle.machine_write.specs.Values.{ports_after, via_after, clock_after, moves_sel}

next : (vs : List ℕ) (i : ℕ) → i < length vs → drop i vs ≡ get_or vs i 0 ∷ drop (i + 1) vs
next vs i h = drop-cons vs i 0 h ∙ ap (λ (j : ℕ). get_or vs i 0 ∷ drop j vs) (sym (add-one i))

-- ---- the VIA

module _ (r : ℕ) (vs : List ℕ) (i : ℕ) (s : Via) where
  pub via-next : i < length vs → {t : Via} → t ≡ via_written r (get_or vs i 0) s → via_after r (drop (i + 1) vs) t ≡ via_after r (drop i vs) s
  unfolding via_after
  via-next h e = ap (via_after r (drop (i + 1) vs)) e ∙ ap (λ (l : List ℕ). via_after r l s) (sym (next vs i h))

  pub via-end : length vs ≤ i → via_after r (drop i vs) s ≡ s
  unfolding via_after
  via-end h = ap (λ (l : List ℕ). via_after r l s) (drop_of_length-le vs h)

-- ---- the ports: the last value counts

again : (t : Bool) (u v x : ℕ) → cond t v (cond t u x) ≡ cond t v x
again true u v x = refl
again false u v x = refl

pub ports-again : (r u v : ℕ) (p : Ports) → ports_written r v (ports_written r u p) ≡ ports_written r v p
unfolding ports_written
ports-again r u v p =
    simp (again (eqb r 0) u v p.outb, again (eqb r 1 || eqb r 15) u v p.outa, again (eqb r 2) u v p.dirb, again (eqb r 3) u v p.dira)

pub via-ports : (r : ℕ) (vs : List ℕ) (s : Via) → (via_after r vs s).ports ≡ ports_after r vs s.ports
unfolding via_after ports_after via_written
via-ports r [] s = refl
via-ports r (v ∷ vs) s = via-ports r vs (via_written r v s)

last : (r v : ℕ) (vs : List ℕ) (p : Ports) → ports_after r (v ∷ vs) p ≡ ports_written r (get_or (v ∷ vs) (length vs) 0) p
unfolding ports_after
last r v [] p = refl
last r v (u ∷ vs) p = last r u vs (ports_written r v p) ∙ ports-again r v (get_or (u ∷ vs) (length vs) 0) p

pub ports-last : (r : ℕ) (vs : List ℕ) (p : Ports) → 0 < length vs → ports_after r vs p ≡ ports_written r (get_or vs (length vs - 1) 0) p
ports-last r [] p h = absurd (omega arith)
ports-last r (v ∷ vs) p h =
    let e : length vs ≡ length (v ∷ vs) - 1 = omega arith in
    last r v vs p ∙ ap (λ (k : ℕ). ports_written r (get_or (v ∷ vs) k 0) p) e

-- ---- the clock

-- By the code's test for any register but port B's, 0 and 2.
neither : (x y : Bool) → (not x && not y) ≡ true → (x ≡ false) × (y ≡ false)
neither false false h = (refl, refl)
neither false true h = (refl, sym h)
neither true y h = (sym h, absurd (false≢true h))

-- Another register moves no wire of the clock.
other-register : (r v : ℕ) (p : Ports) (line : Bool) → (not (eqb r 0) && not (eqb r 2)) ≡ true → wires_of (ports_written r v p) line ≡ wires_of p line
unfolding wires_of ports_written
other-register r v p line h = let n = neither (eqb r 0) (eqb r 2) h in simp (n.0, n.1)

-- The phase goes with the wires, as in every accepted state.
abbrev pub Met : Ports → Clock → Type 0
Met p c = accepted_phase c.store.chip c.phase (wires_of p (shown_level c.phase)).enable ≡ true

pub clock-still : (r : ℕ) → (not (eqb r 0) && not (eqb r 2)) ≡ true → (vs : List ℕ) (p : Ports) (c : Clock) → Met p c → clock_after r vs p c ≡ c
unfolding clock_after
clock-still r h [] p c a = refl
clock-still r h (v ∷ vs) p c a =
    let l = shown_level c.phase in
    let e = other-register r v p l h in
    ap (clock_after r vs (ports_written r v p)) (ap (step_wires c (wires_of p l)) e ∙ still c (wires_of p l) a)
    ∙ clock-still r h vs (ports_written r v p) c (ap (λ (w : Wires). accepted_phase c.store.chip c.phase w.enable) e ∙ a)

module _ (r : ℕ) (vs : List ℕ) (i : ℕ) (p : Ports) (c : Clock) where
  abbrev moved : Clock
  moved = step_wires c (wires_of p (shown_level c.phase)) (wires_of (ports_written r (get_or vs i 0) p) (shown_level c.phase))

  pub clock-next : i < length vs → {q : Ports} {d : Clock} → q ≡ ports_written r (get_or vs i 0) p → d ≡ moved
      → clock_after r (drop (i + 1) vs) q d ≡ clock_after r (drop i vs) p c
  unfolding clock_after
  clock-next h {q} {d} e f =
      ap (λ (x : Ports). clock_after r (drop (i + 1) vs) x d) e ∙ ap (clock_after r (drop (i + 1) vs) (ports_written r (get_or vs i 0) p)) f
      ∙ ap (λ (l : List ℕ). clock_after r l p c) (sym (next vs i h))

  pub clock-met : Met p c → {q : Ports} {d : Clock} → q ≡ ports_written r (get_or vs i 0) p → d ≡ moved → Met q d
  unfolding wires_of
  clock-met a {q} {d} e f =
      ap (λ (x : Ports). accepted_phase d.store.chip d.phase (wires_of x (shown_level d.phase)).enable) e
      ∙ ap (λ (x : Clock). accepted_phase x.store.chip x.phase (wires_of (ports_written r (get_or vs i 0) p) (shown_level x.phase)).enable) f
      ∙ keeps-step c (wires_of p (shown_level c.phase)) (wires_of (ports_written r (get_or vs i 0) p) (shown_level c.phase)) a

  pub clock-end : length vs ≤ i → clock_after r (drop i vs) p c ≡ c
  unfolding clock_after
  clock-end h = ap (λ (l : List ℕ). clock_after r l p c) (drop_of_length-le vs h)

-- ---- SEL

module _ (r : ℕ) (vs : List ℕ) (i : ℕ) (p : Ports) (sel : Bool) where
  pub sel-found : i < length vs → not (beq (eqb (sel_of (ports_written r (get_or vs i 0) p)) 1) sel) ≡ true → moves_sel r (drop i vs) p sel ≡ true
  unfolding moves_sel
  sel-found h e = ap (λ (l : List ℕ). moves_sel r l p sel) (next vs i h) ∙ ap (λ (b : Bool). cond b true (moves_sel r (drop (i + 1) vs) p sel)) e

  pub sel-next : i < length vs → not (beq (eqb (sel_of (ports_written r (get_or vs i 0) p)) 1) sel) ≡ false → moves_sel r (drop (i + 1) vs) p sel ≡ moves_sel r (drop i vs) p sel
  unfolding moves_sel
  sel-next h e = sym (ap (λ (l : List ℕ). moves_sel r l p sel) (next vs i h) ∙ ap (λ (b : Bool). cond b true (moves_sel r (drop (i + 1) vs) p sel)) e)

  pub sel-end : length vs ≤ i → moves_sel r (drop i vs) p sel ≡ false
  unfolding moves_sel
  sel-end h = ap (λ (l : List ℕ). moves_sel r l p sel) (drop_of_length-le vs h)
