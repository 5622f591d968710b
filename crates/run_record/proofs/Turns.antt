-- A record's turn by the item that it is handed on as, with its values.
use Prim.Native.Nat.{ℕ, ◌-◌, ◌≤◌, ◌<◌}
use mathlib.Core.Path.{◌≡◌, refl, sym, ap, ◌∙◌}
use Rattle.std.specs.Prelude.{Option, Some, None, Result, Ok, Err}
use Rattle.refusal.specs.declared.Refusal.{Refusal}
use mathlib.Core.List.{List}
use native.Mathlib.Nat.{le_of_eq}
use lib.ListN.{length, get_or, take, drop, length-drop}
use lib.Seq.{take_all}
use Rattle.units.specs.declared.WaitTicks.{WaitTicks}
use Rattle.item_spec.specs.declared.Item.{Item}
use Rattle.item_spec.specs.declared.Item.TheVariants.{ReadVia, ReadIwm, WriteVia, WriteIwm, Blank, Second, Line, Sense, Reset, Power, Disk, Pulse}
use Rattle.item_spec.specs.declared.Decoded.{Decoded}
use Rattle.item_spec.specs.declared.Decoded.TheVariants.{One}
use Rattle.item_spec.specs.declared.Location.{Location}
use Rattle.item_spec.specs.declared.Location.TheVariants.{Via, Iwm}
use Rattle.item_spec.specs.Items.{write_to}
use Rattle.item_spec.specs.Many.{singles_after}
use Rattle.item_spec.specs.Kinds.{decoded_of}
use Rattle.item_spec.proofs.ItemRange.{Good, decoded-range, many-range, single-range}
use Rattle.item_many.specs.LastWrite.{as_last_write}
use Rattle.item_decode.specs.Values.{first_value, values_in}
use Rattle.item_decode.proofs.ValueLaws.{OneValue, AllValues, values-right}
use Rattle.machine_spec.specs.declared.Machine.{Machine}
use Rattle.machine_spec.specs.Machine.{no_value}
use Rattle.machine_spec.specs.Stages.{refuses_of}
use Rattle.machine_spec.specs.Step.{step_of, after_items}
use Rattle.machine_spec.proofs.Items.{unread}
use Rattle.machine_write.specs.Values.{step_with}
use Rattle.run_spec.specs.declared.Turn.{Turn}
use Rattle.run_spec.specs.Turn.{refused_turn, done_turn, turn_unless, turn_by, turn_of}
use Rattle.run_record.specs.Judged.{JudgedInRange}

-- Where the state does not refuse the item, it is carried out with these values.
abbrev pub turn_unless_with : Machine → List ℕ → Item → Option Refusal → Turn
turn_unless_with m vs i None = done_turn (step_with m i vs)
turn_unless_with m vs i (Some r) = refused_turn m r

abbrev pub turn_with : Machine → List ℕ → Result Item Refusal → Turn
turn_with m vs (Ok i) = turn_unless_with m vs i (refuses_of m i)
turn_with m vs (Err r) = refused_turn m r

-- One value is a single step.
single_step : (m : Machine) (i : Item) (vs : List ℕ) → OneValue vs i → step_of m i ≡ step_with m i vs
unfolding step_with
single_step m (ReadVia w r) vs g = refl
single_step m (ReadIwm w k) vs g = refl
single_step m (WriteVia w r v) vs g = ap (step_with m (WriteVia w r v)) (sym g)
single_step m (WriteIwm w k v) vs g = ap (step_with m (WriteIwm w k v)) (sym g)
single_step m (Blank w) vs g = refl
single_step m (Second w) vs g = refl
single_step m (Line w l v) vs g = refl
single_step m (Sense w d r v) vs g = refl
single_step m (Reset w) vs g = refl
single_step m (Power w t) vs g = refl
single_step m (Disk w d i l b) vs g = refl
single_step m (Pulse w l) vs g = refl

-- An MW is never refused, and its answer has value 0.
many-steps : (m : Machine) (vs : List ℕ) (w : WaitTicks) (l : Location) (v : ℕ)
    → done_turn (no_value (after_items m (singles_after (record { wait = w; to = l }) w vs))) ≡ turn_with m vs (Ok (write_to l w v))
unfolding step_with refuses_of
many-steps m vs w (Via n) v =
    ap (λ (k : ℕ). done_turn (record { machine = after_items m (singles_after (record { wait = w; to = Via n }) w vs); value = k })) (sym (unread m (WriteVia w n v) refl))
many-steps m vs w (Iwm n) v =
    ap (λ (k : ℕ). done_turn (record { machine = after_items m (singles_after (record { wait = w; to = Iwm n }) w vs); value = k })) (sym (unread m (WriteIwm w n v) refl))

pub turn-with : (m : Machine) (s : List ℕ) → 2 ≤ length s → turn_of m s ≡ turn_with m (values_in s) (as_last_write s (decoded_of s))
unfolding turn_of
turn-with m s h = go (decoded_of s) (values-right s h)
  where
    unless : (i : Item) → OneValue (values_in s) i → (o : Option Refusal) → turn_unless m i o ≡ turn_unless_with m (values_in s) i o
    unless i g None = ap done_turn (single_step m i (values_in s) g)
    unless i g (Some r) = refl

    go : (d : Result Decoded Refusal) → Good (λ i. OneValue (values_in s) i × (0 < length (values_in s))) (λ x. AllValues s x × (0 < length (values_in s))) d → turn_by m s d ≡ turn_with m (values_in s) (as_last_write s d)
    go (Ok (One i)) g = unless i g.0 (refuses_of m i)
    go (Ok (Decoded.Many x)) g =
        ap (λ (vs : List ℕ). done_turn (no_value (after_items m (singles_after x x.wait vs)))) (sym g.0)
        ∙ many-steps m (values_in s) x.wait x.to (get_or s (length s - 1) 0)
    go (Err r) g = refl

-- The same of what the code has decoded.
pub decoded-turn : (m : Machine) (s : List ℕ) → 2 ≤ length s → (d : Result Item Refusal) → d ≡ as_last_write s (decoded_of s) → turn_of m s ≡ turn_with m (values_in s) d
decoded-turn m s h d e = turn-with m s h ∙ ap (turn_with m (values_in s)) (sym e)

-- The item is in range, and has a value.
pub judged-range : (s : List ℕ) → 2 ≤ length s → JudgedInRange (values_in s) (as_last_write s (decoded_of s))
judged-range s h = go (decoded_of s) refl (values-right s h)
  where
    go : (d : Result Decoded Refusal) → decoded_of s ≡ d → Good (λ i. OneValue (values_in s) i × (0 < length (values_in s))) (λ x. AllValues s x × (0 < length (values_in s))) d
        → JudgedInRange (values_in s) (as_last_write s d)
    go (Ok (One i)) e g = (decoded-range s i e, g.1)
    go (Ok (Decoded.Many x)) e g = (single-range x (many-range s x e).number x.wait (get_or s (length s - 1) 0), g.1)
    go (Err r) e g = tt

-- A slice of the record from where its values begin.
pub values-are : (s : List ℕ) (f : ℕ) → f ≡ first_value s → take (length s - f) (drop f s) ≡ values_in s
values-are s f e = take_all (length s - f) (drop f s) (le_of_eq (length-drop f s)) ∙ ap (λ (k : ℕ). drop k s) e
