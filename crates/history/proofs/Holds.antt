-- Demand 3, proved over the chip and any accepted start; then from the fresh machine.
use mathlib.Core.Path.{◌≡◌, refl, sym, ap, ap₂, subst, ◌∙◌}
use mathlib.Core.Bool.{Bool, true, false, cond}
use mathlib.Core.List.{List, [], ◌∷◌, ◌++◌}
use mathlib.Core.Option.{Option, none}
use Prim.Native.Nat.{ℕ, ◌+◌, ◌^◌, ◌<◌}
use native.Mathlib.Omega.{arith}
use native.Mathlib.Nat.{mod-eq_of_lt, mod-add-mod, add-zero}
use lib.ListN.{length, get_or, length-replicate, get_or-replicate}
use Rattle.clock_spec.specs.Shared.{Event, quiet, second, off, stops, wrap, elapse, Written}
use Rattle.clock_spec.specs.Store.{unused_clear, act, with_event}
use Rattle.clock_spec.specs.Phase.{between, accepted_phase}
use Rattle.clock.specs.Step.{with_store, fresh_clock, acts, step_wires}
use Rattle.clock.proofs.Keep.{step-chip, step-unused}
use Rattle.clock_spec.proofs.CommandRange.{cells-most}
use Rattle.clock_spec.proofs.Places.{counted-unused, fresh-unused}
use Rattle.clock_spec.specs.Command.{cells_of}
use Rattle.clock_spec.specs.declared.Chip.{Chip}
use Rattle.clock_spec.specs.declared.Target.TheVariants.{Test, Cell}
use Rattle.clock_spec.specs.declared.Wires.{Wires}
use Rattle.clock_spec.specs.declared.Store.{Store}
use Rattle.clock.specs.declared.Clock.{Clock}
use Rattle.history.specs.History.{Start, Entry, History, protect_by, byte_to, gain_unless, with_replaced, gain_since, wires_at, rises, ending_at, protect_at, ending_clear, last, cell_at, test_at, seconds_at, Kept}
use Rattle.history.specs.Start.{start_of, Accepted, undriven, fresh_start}
use Rattle.history.specs.Demand3.{clock_after, store_after, Demand3}
use Rattle.history.proofs.Phases.{parts}
use Rattle.history.proofs.Tied.{Tie, ends, tie-step, acts-step, tie-start}
use Rattle.history.proofs.Range.{seconds-small}
use Rattle.history.proofs.Stores.{protect-act, seconds-act, test-act, cell-act, length-act, kept-protect, closed}

-- An event adds its seconds, modulo 2 ^ 32, unless the test byte stops them.
stays : (s : ℕ) → s < 2 ^ 32 → s ≡ wrap (s + 0)
stays s l = sym (ap wrap (add-zero s) ∙ mod-eq_of_lt l)

elapse-met : (t : Bool) (e : Event) (s : ℕ) → s < 2 ^ 32 → elapse t e s ≡ wrap (s + gain_unless t e)
elapse-met true quiet s l = stays s l
elapse-met true second s l = stays s l
elapse-met true (off n) s l = stays s l
elapse-met false quiet s l = stays s l
elapse-met false second s l = refl
elapse-met false (off n) s l = refl

module _ (c : Clock) (w : Wires) (ok : Accepted c w) where
  abbrev S : Start
  S = start_of c w

  -- W-206: the chip is "chosen at the start".
  pub chip-is : (h : History) → (store_after c w h).chip ≡ c.store.chip
  unfolding clock_after
  chip-is [] = refl
  chip-is (e ∷ h) =
      let c' : Clock = clock_after c w h in
      step-chip (with_store c' (with_event e.event c'.store)) (wires_at S h) e.wires ∙ chip-is h

  -- The phase is tied to the bits of the stretch at every entry.
  pub tied : (h : History) → Tie (store_after c w h).chip (clock_after c w h).phase (wires_at S h).enable (rises S h)
  unfolding clock_after step_wires between rises wires_at
  tied [] = tie-start c.store.chip c.phase w.enable (parts c.store.chip c.phase w.enable ok.phase)
  tied (e ∷ h) =
      subst (λ (k : Chip). Tie k (clock_after c w (e ∷ h)).phase e.wires.enable (rises S (e ∷ h))) (chip-is h ∙ sym (chip-is (e ∷ h)))
      (tie-step (with_event e.event (store_after c w h)) (clock_after c w h).phase e.wires.enable (wires_at S h).enable
      (wires_at S h).dataclock e.wires.dataclock e.wires.dataline (rises S h) (tied h))

  -- The chip acts where the history has a complete write end.
  acted : (e : Entry) (h : History) → acts (store_after c w h).chip (clock_after c w h).phase (between (wires_at S h) e.wires) ≡ ending_at S (e ∷ h)
  unfolding between ending_at rises
  acted e h =
      acts-step (store_after c w h).chip (clock_after c w h).phase e.wires.enable (wires_at S h).enable
      (wires_at S h).dataclock e.wires.dataclock e.wires.dataline (rises S h) (tied h)
      ∙ ap (λ (k : Chip). ends k e.wires.enable (wires_at S h).enable (wires_at S h).dataclock e.wires.dataclock (rises S (e ∷ h))) (chip-is h)

  -- So the store changes by the history alone.
  store_step : (e : Entry) (h : History) → store_after c w (e ∷ h) ≡ act (ending_at S (e ∷ h)) (with_event e.event (store_after c w h))
  unfolding clock_after step_wires
  store_step e h = ap (λ (o : Option Written). act o (with_event e.event (store_after c w h))) (acted e h)

  protect-is : (h : History) → (store_after c w h).protect ≡ protect_at S h
  unfolding clock_after protect_at
  protect-is [] = refl
  protect-is (e ∷ h) =
      ap (λ (s : Store). s.protect) (store_step e h)
      ∙ protect-act (ending_at S (e ∷ h)) (with_event e.event (store_after c w h))
      ∙ ap (protect_by (ending_at S (e ∷ h))) (protect-is h)

  clear-is : (e : Entry) (h : History) → cond (store_after c w h).protect none (ending_at S (e ∷ h)) ≡ ending_clear S (e ∷ h)
  unfolding ending_clear
  clear-is e h = ap (λ (p : Bool). cond p none (ending_at S (e ∷ h))) (protect-is h)

  test-is : (h : History) → (store_after c w h).test ≡ test_at S h
  unfolding clock_after last
  test-is [] = refl
  test-is (e ∷ h) =
      ap (λ (s : Store). s.test) (store_step e h)
      ∙ test-act (ending_at S (e ∷ h)) (with_event e.event (store_after c w h))
      ∙ ap₂ (byte_to Test) (clear-is e h) (test-is h)

  seconds-is : (h : History) → (store_after c w h).seconds ≡ seconds_at S h
  unfolding clock_after seconds_at
  seconds-is [] = refl
  seconds-is (e ∷ h) =
      ap (λ (s : Store). s.seconds) (store_step e h)
      ∙ seconds-act (ending_at S (e ∷ h)) (with_event e.event (store_after c w h))
      ∙ ap₂ with_replaced (clear-is e h) (ap₂ (λ (t s : ℕ). elapse (stops t) e.event s) (test-is h) (seconds-is h) ∙ elapse-met (stops (test_at S h)) e.event (seconds_at S h) (seconds-small S h ok.seconds))

  pub cells_are : (h : History) → length (store_after c w h).cells ≡ 256
  unfolding clock_after
  cells_are [] = ok.cells
  cells_are (e ∷ h) =
      ap (λ (s : Store). length s.cells) (store_step e h)
      ∙ length-act (ending_at S (e ∷ h)) (with_event e.event (store_after c w h))
      ∙ cells_are h

  -- The cells that the chip does not have stay 0.
  pub unused-are : (h : History) → unused_clear (store_after c w h) ≡ true
  unfolding clock_after
  unused-are [] = ok.unused
  unused-are (e ∷ h) =
      let c' : Clock = clock_after c w h in
      step-unused (with_store c' (with_event e.event c'.store)) (wires_at S h) e.wires ∙ counted-unused e.event c'.store ∙ unused-are h

  cell-is : (h : History) (i : ℕ) → i < cells_of c.store.chip → get_or (store_after c w h).cells i 0 ≡ cell_at S i h
  unfolding clock_after last
  cell-is [] i l = refl
  cell-is (e ∷ h) i l =
      let k : i < length (store_after c w h).cells = omega (arith, cells_are h, cells-most c.store.chip) in
      ap (λ (s : Store). get_or s.cells i 0) (store_step e h)
      ∙ cell-act i (ending_at S (e ∷ h)) (with_event e.event (store_after c w h)) k
      ∙ ap₂ (byte_to (Cell i)) (clear-is e h) (cell-is h i l)

  pub small : (h : History) → (store_after c w h).seconds < 2 ^ 32
  small h = rw seconds-is (seconds-small S h ok.seconds)

  still-protected : (h : History) (es : List Entry) → protect_at S h ≡ true → Kept S h es → protect_at S (es ++ h) ≡ true
  unfolding protect_at
  still-protected h [] p k = p
  still-protected h (e ∷ es) p (q, k) = kept-protect (ending_at S (e ∷ (es ++ h))) (protect_at S (es ++ h)) q (still-protected h es p k)

  under-protect : (h : History) (es : List Entry) → protect_at S h ≡ true → Kept S h es
      → ((store_after c w (es ++ h)).cells ≡ (store_after c w h).cells)
      × ((store_after c w (es ++ h)).seconds ≡ wrap ((store_after c w h).seconds + gain_since S h es))
  unfolding gain_since
  under-protect h [] p k = (refl, stays (store_after c w h).seconds (small h))
  under-protect h (e ∷ es) p (q, k) =
      let s : Store = store_after c w (es ++ h) in
      let before = under-protect h es p k in
      let step = store_step e (es ++ h) in
      let shut = closed (ending_at S (e ∷ (es ++ h))) (with_event e.event s) (protect-is (es ++ h) ∙ still-protected h es p k) in (
        ap (λ (s : Store). s.cells) step ∙ shut.0 ∙ before.0,
        ap (λ (s : Store). s.seconds) step ∙ shut.1
            ∙ ap (λ (t : ℕ). elapse (stops t) e.event s.seconds) (test-is (es ++ h))
            ∙ elapse-met (stops (test_at S (es ++ h))) e.event s.seconds (small (es ++ h))
            ∙ ap (λ (x : ℕ). wrap (x + gain_unless (stops (test_at S (es ++ h))) e.event)) before.1
            ∙ mod-add-mod ((store_after c w h).seconds + gain_since S h es) (2 ^ 32) (gain_unless (stops (test_at S (es ++ h))) e.event)
            ∙ ap wrap (omega arith),
      )

-- Demand 3, of every history from every accepted start.
pub demand3 : (c : Clock) (w : Wires) → Accepted c w → (h : History) → Demand3 c w h
demand3 c w ok h = record {
  store = record {
    cells = cell-is c w ok h;
    chip = chip-is c w ok h;
    seconds = seconds-is c w ok h;
    protect = protect-is c w ok h;
    test = test-is c w ok h;
  };
  under_protect = under-protect c w ok h;
}

-- The fresh machine is an instance: its cells, seconds, protect and test start from 0.
pub fresh-accepted : (k : Chip) → Accepted (fresh_clock k) undriven
unfolding accepted_phase
fresh-accepted k = record { phase = refl; cells = length-replicate {A = ℕ} 256 0; unused = fresh-unused k; seconds = omega arith }

pub demand3-fresh : (k : Chip) (h : History) → Demand3 (fresh_clock k) undriven h
demand3-fresh k h = demand3 (fresh_clock k) undriven (fresh-accepted k) h

pub cells-from-0 : (k : Chip) (h : History) (i : ℕ) → i < cells_of k → cell_at (fresh_start k) i h ≡ last (fresh_start k) (Cell i) 0 h
cells-from-0 k h i l = ap (λ (d : ℕ). last (fresh_start k) (Cell i) d h) (get_or-replicate 256 i 0 0 (omega (arith, cells-most k)))
