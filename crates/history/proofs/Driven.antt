-- From the chip to a machine: where every item drives the chip as its entries do, demand 3 holds of every list of items.
use mathlib.Core.Path.{◌≡◌, refl, sym, ap, ap₂, subst, ◌∙◌}
use mathlib.Core.List.{List, [], ◌∷◌, ◌++◌, append_assoc}
use Prim.Native.Nat.{ℕ, ◌+◌}
use lib.ListN.{get_or}
use Rattle.clock_spec.specs.Shared.{wrap}
use Rattle.clock.specs.Step.{step_clock}
use Rattle.clock_spec.specs.declared.Wires.{Wires}
use Rattle.clock.specs.declared.Clock.{Clock}
use Rattle.history.specs.History.{Entry, History, wires_at, gain_since}
use Rattle.history.specs.Start.{start_of, Accepted}
use Rattle.history.specs.Demand3.{clock_after, StoreIs}
use Rattle.history.specs.Items.{state_after, history_of, entries_since, FollowsEntries, Machine3}
use Rattle.history.proofs.Holds.{demand3}
use Rattle.history.proofs.Keeps.{accepted-after}

abbrev wires_after : Clock → Wires → History → Wires
wires_after c w h = wires_at (start_of c w) h

pub wires-append : (c : Clock) (w : Wires) (c' : Clock) (es h : List Entry) → wires_after c w (es ++ h) ≡ wires_after c' (wires_after c w h) es
unfolding wires_at
wires-append c w c' [] h = refl
wires-append c w c' (e ∷ es) h = refl

pub clock-append : (c : Clock) (w : Wires) (es h : List Entry) → clock_after c w (es ++ h) ≡ clock_after (clock_after c w h) (wires_after c w h) es
unfolding clock_after
clock-append c w [] h = refl
clock-append c w (e ∷ es) h =
    ap₂ (λ (x : Clock) (y : Wires). step_clock e.event x y e.wires) (clock-append c w es h) (wires-append c w (clock_after c w h) es h)

pub history-since : {M I : Type 0} (step : I → M → M) (trace : I → M → List Entry) (m : M) (is js : List I)
    → history_of step trace m (js ++ is) ≡ entries_since step trace m is js ++ history_of step trace m is
unfolding history_of entries_since
history-since step trace m is [] = refl
history-since step trace m is (j ∷ js) =
    let t : List Entry = trace j (state_after step m (js ++ is)) in
    ap (λ (l : List Entry). t ++ l) (history-since step trace m is js)
    ∙ sym (append_assoc t (entries_since step trace m is js) (history_of step trace m is))

module _ {M I : Type 0} (clock : M → Clock) (wires : M → Wires) (step : I → M → M) (trace : I → M → List Entry)
    (D : FollowsEntries clock wires step trace) where
  pub ok_step : (i : I) (m : M) → Accepted (clock m) (wires m) → Accepted (clock (step i m)) (wires (step i m))
  ok_step i m ok =
      subst (λ (c : Clock). Accepted c (wires (step i m))) (sym (D.clock-is i m ok))
      (subst (λ (w : Wires). Accepted (clock_after (clock m) (wires m) (trace i m)) w) (sym (D.wires-are i m ok))
      (accepted-after (clock m) (wires m) ok (trace i m)))

  pub ok-after : (m : M) → Accepted (clock m) (wires m) → (is : List I) → Accepted (clock (state_after step m is)) (wires (state_after step m is))
  unfolding state_after
  ok-after m ok [] = ok
  ok-after m ok (i ∷ is) = ok_step i (state_after step m is) (ok-after m ok is)

  pub driven : (m : M) → Accepted (clock m) (wires m) → (is : List I)
      → (clock (state_after step m is) ≡ clock_after (clock m) (wires m) (history_of step trace m is))
      × (wires (state_after step m is) ≡ wires_after (clock m) (wires m) (history_of step trace m is))
  unfolding state_after history_of clock_after wires_at
  driven m ok [] = (refl, refl)
  driven m ok (i ∷ is) =
      let m' = state_after step m is in
      let h = history_of step trace m is in
      let ok' = ok-after m ok is in
      let r = driven m ok is in
      let es = trace i m' in (
        D.clock-is i m' ok' ∙ ap₂ (λ (x : Clock) (y : Wires). clock_after x y es) r.0 r.1 ∙ sym (clock-append (clock m) (wires m) es h),
        D.wires-are i m' ok' ∙ ap₂ (λ (x : Clock) (y : Wires). wires_after x y es) r.0 r.1
            ∙ sym (wires-append (clock m) (wires m) (clock_after (clock m) (wires m) h) es h),
      )

  pub machine3 : (m : M) → Accepted (clock m) (wires m) → (is : List I) → Machine3 clock wires step trace m is
  machine3 m ok is =
      let h : History = history_of step trace m is in
      let d = demand3 (clock m) (wires m) ok h in
      let r = (driven m ok is).0 in
      record {
        store = subst (λ (c : Clock). StoreIs (start_of (clock m) (wires m)) h c.store) (sym r) d.store;
        under_protect = λ js p k.
            let es : List Entry = entries_since step trace m is js in
            let q : clock (state_after step m (js ++ is)) ≡ clock_after (clock m) (wires m) (es ++ h) =
            (driven m ok (js ++ is)).0 ∙ ap (clock_after (clock m) (wires m)) (history-since step trace m is js) in
            let u = d.under_protect es p k in (
              ap (λ (c : Clock). c.store.cells) q ∙ u.0 ∙ sym (ap (λ (c : Clock). c.store.cells) r),
              ap (λ (c : Clock). c.store.seconds) q ∙ u.1 ∙ sym (ap (λ (c : Clock). wrap (c.store.seconds + gain_since (start_of (clock m) (wires m)) h es)) r),
            );
      }
