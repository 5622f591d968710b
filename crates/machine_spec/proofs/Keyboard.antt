-- KC items are pulses of the VIA, one after the other.
use Prim.Native.Nat.{ℕ}
use mathlib.Core.Path.{◌≡◌, refl, ap, ◌∙◌}
use mathlib.Core.List.{List, [], ◌∷◌}
use Rattle.units.specs.Units.{for_ticks}
use Rattle.via.specs.declared.Via.{Via}
use Rattle.via.specs.Via.{ticks}
use Rattle.via.specs.Shift.{pulse_of}
use Rattle.via.specs.EightPulses.{bits_of, pulsed, given}
use Rattle.via.proofs.Eight.{eight-pulses}
use Rattle.item_spec.specs.declared.Item.TheVariants.{Pulse}
use Rattle.machine_spec.specs.declared.Machine.{Machine}
use Rattle.machine_spec.specs.Accesses.{keyboard_pulse}
use Rattle.machine_spec.specs.Action.{acted_of}
use Rattle.machine_spec.specs.Stages.{item_wait, after_wait}
use Rattle.machine_spec.specs.Step.{step_of, after_items}
use Rattle.machine_spec.specs.Keyboard.{pulse_items, values_of, Keyboard}
use Rattle.machine_spec.proofs.Step.{pulse-quiet, quiet_step}

pulses-via : (m : Machine) (ws ls : List ℕ) → (after_items m (pulse_items ws ls)).via ≡ pulsed ws ls m.via
unfolding pulse_items pulsed step_of acted_of item_wait keyboard_pulse
pulses-via m [] ls = refl
pulses-via m (w ∷ ws) [] = refl
pulses-via m (w ∷ ws) (l ∷ ls) = pulses-via (step_of m (Pulse (for_ticks w) l)).machine ws ls

pulses-values : (m : Machine) (ws ls : List ℕ) → values_of m (pulse_items ws ls) ≡ given ws ls m.via
unfolding pulse_items values_of given step_of acted_of item_wait keyboard_pulse
pulses-values m [] ls = refl
pulses-values m (w ∷ ws) [] = refl
pulses-values m (w ∷ ws) (l ∷ ls) = ap (λ (x : List ℕ). (pulse_of l (ticks w m.via)).value ∷ x) (pulses-values (step_of m (Pulse (for_ticks w) l)).machine ws ls)

pub keyboard : (m : Machine) → Keyboard m
unfolding acted_of item_wait
keyboard m =
    record {
      alone = λ w l a. quiet_step m (Pulse w l) a (pulse-quiet w l);
      byte_in = λ ws x n z e h.
          let q = (eight-pulses m.via).shift_in ws x n z e h in
          (pulses-via m ws (bits_of x) ∙ q.0, pulses-values m ws (bits_of x) ∙ q.1);
      byte_out = λ ws ls n k z e h.
          let q = (eight-pulses m.via).shift_out ws ls n k z e h in
          (pulses-via m ws ls ∙ q.0, pulses-values m ws ls ∙ q.1);
    }
