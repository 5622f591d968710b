-- W-211: "Final state and answer equal those of the last of the single WR items."
use Rattle.std.specs.Prelude.{None, Ok}
use Prim.Native.Nat.{ℕ, ◌+◌, ◌*◌, ◌≤◌}
use mathlib.Core.Path.{◌≡◌, refl, sym, ap, ◌∙◌}
use mathlib.Core.List.{List, [], ◌∷◌}
use native.Mathlib.Omega.{arith}
use lib.ListN.{length, get_or, length-drop}
use Rattle.units.specs.Units.{for_ticks}
use Rattle.units.specs.declared.WaitTicks.{WaitTicks}
use Rattle.item_spec.specs.declared.Many.{Many}
use Rattle.item_spec.specs.declared.Decoded.{Decoded}
use Rattle.item_spec.specs.Items.{write_to}
use Rattle.item_spec.specs.declared.Location.{Location}
use Rattle.item_spec.specs.declared.Location.TheVariants.{Via, Iwm}
use Rattle.item_spec.specs.declared.Item.TheVariants.{WriteVia, WriteIwm}
use Rattle.item_spec.specs.Many.{single, values_of, singles_after, single_bytes, single_records_after, single_records}
use Rattle.item_spec.specs.Kinds.{decoded_of}
use Rattle.item_spec.proofs.ItemRange.{many-range}
use Rattle.item_spec.proofs.ManyLaws.{single-decoded, first-wait}
use Rattle.machine_spec.specs.declared.Machine.{Machine}
use Rattle.machine_spec.specs.Machine.{no_value}
use Rattle.machine_spec.specs.Stages.{refuses_of}
use Rattle.machine_spec.specs.Step.{step_of, after_items}
use Rattle.machine_spec.proofs.Items.{unread}
use Rattle.run_spec.specs.declared.Turn.{Turn}
use Rattle.run_spec.specs.Turn.{done_turn, turn_by, turn_of}
use Rattle.run_spec.proofs.Turns.{carried-out}

-- What every single WR keeps, an MW keeps.
pub many-keep : (P : Machine → Type 0) (x : Many) → ((m : Machine) (w : WaitTicks) (v : ℕ) → P m → P (step_of m (single x w v)).machine)
    → (vs : List ℕ) (m : Machine) (w : WaitTicks) → P m → P (after_items m (singles_after x w vs))
many-keep P x k [] m w h = h
many-keep P x k (v ∷ vs) m w h = many-keep P x k vs (step_of m (single x w v)).machine (for_ticks 0) (k m w v h)

-- No state refuses a single WR, and its answer has value 0.
single-unrefused : (m : Machine) (x : Many) (w : WaitTicks) (v : ℕ) → refuses_of m (single x w v) ≡ None
unfolding refuses_of
single-unrefused m x w v = go x.to
  where
    go : (l : Location) → refuses_of m (write_to l w v) ≡ None
    go (Via r) = refl
    go (Iwm k) = refl

single-value : (m : Machine) (x : Many) (w : WaitTicks) (v : ℕ) → (step_of m (single x w v)).value ≡ 0
single-value m x w v = go x.to
  where
    go : (l : Location) → (step_of m (write_to l w v)).value ≡ 0
    go (Via r) = unread m (WriteVia w r v) refl
    go (Iwm k) = unread m (WriteIwm w k v) refl

-- Records one after the other, each from the state that the one before left: what the last of them leaves.
abbrev pub turns_of : Turn → List (List ℕ) → Turn
turns_of t [] = t
turns_of t (s ∷ ss) = turns_of (turn_of t.machine s) ss

single-turn : (m : Machine) (s : List ℕ) (x : Many) → decoded_of s ≡ Ok (Decoded.Many x) → (a b v : ℕ)
    → turn_of m (single_bytes s a b v) ≡ done_turn (no_value (step_of m (single x (for_ticks (a + b * 256)) v)).machine)
single-turn m s x e a b v =
    carried-out m (single_bytes s a b v) (single x (for_ticks (a + b * 256)) v) (single-decoded s x e a b v) (single-unrefused m x (for_ticks (a + b * 256)) v)
    ∙ ap (λ (n : ℕ). done_turn (record { machine = (step_of m (single x (for_ticks (a + b * 256)) v)).machine; value = n })) (single-value m x (for_ticks (a + b * 256)) v)

singles-turn : (s : List ℕ) (x : Many) → decoded_of s ≡ Ok (Decoded.Many x) → (vs : List ℕ) (v a b : ℕ) (t : Turn)
    → turns_of t (single_records_after s a b (v ∷ vs)) ≡ done_turn (no_value (after_items t.machine (singles_after x (for_ticks (a + b * 256)) (v ∷ vs))))
singles-turn s x e [] v a b t = single-turn t.machine s x e a b v
singles-turn s x e (u ∷ vs) v a b t =
    singles-turn s x e vs u 0 0 (turn_of t.machine (single_bytes s a b v))
    ∙ ap (λ (n : Turn). done_turn (no_value (after_items n.machine (singles_after x (for_ticks 0) (u ∷ vs))))) (single-turn t.machine s x e a b v)

-- An MW leaves the state and the answer of the last of its single WR records, run one after the other from the state given, whatever came before (t).
pub many-as-singles : (s : List ℕ) (x : Many) → decoded_of s ≡ Ok (Decoded.Many x) → (t : Turn) → turn_of t.machine s ≡ turns_of t (single_records s)
unfolding turn_of
many-as-singles s x e t = ap (turn_by t.machine s) e ∙ go (values_of s) (simp length-drop (omega (arith, (many-range s x e).least)))
  where
    go : (vs : List ℕ) → 1 ≤ length vs → done_turn (no_value (after_items t.machine (singles_after x x.wait vs))) ≡ turns_of t (single_records_after s (get_or s 2 0) (get_or s 3 0) vs)
    go [] h = absurd (omega arith)
    go (v ∷ vs) h =
        ap (λ (w : WaitTicks). done_turn (no_value (after_items t.machine (singles_after x w (v ∷ vs))))) (sym (first-wait s x e))
        ∙ sym (singles-turn s x e vs v (get_or s 2 0) (get_or s 3 0) t)
