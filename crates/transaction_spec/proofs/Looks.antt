-- Bit 0 of the answer to each read of port B is the level of the data line.
use Prim.Native.Nat.{ℕ, ◌+◌, ◌*◌, ◌/◌, ◌%◌, ◌<◌}
use mathlib.Core.Path.{◌≡◌, refl, ap, ap₂, ◌∙◌}
use mathlib.Core.Bool.{Bool, true, false, cond}
use mathlib.Core.List.{List, [], ◌∷◌}
use native.Mathlib.Omega.{arith}
use lib.Dec.{eqb}
use lib.ListN.{get_or}
use Rattle.units.specs.Units.{for_ticks}
use Rattle.clock_spec.specs.Command.{bit_number}
use Rattle.clock_spec.specs.Store.{fetch}
use Rattle.clock_spec.specs.Phase.{shown_level}
use Rattle.clock_spec.specs.Patterns.{bits_high_first}
use Rattle.clock_spec.specs.declared.Target.{Target}
use Rattle.clock_spec.specs.declared.Phase.TheVariants.{Idle}
use Rattle.via.specs.Registers.{register_read, value_read}
use Rattle.via.proofs.Bits.{port-bit}
use Rattle.via.specs.Via.{ticks}
use Rattle.disk_spec.specs.Drives.{accepted_drives}
use Rattle.item_spec.specs.declared.Item.TheVariants.{ReadVia}
use Rattle.machine_spec.specs.declared.Machine.{Machine}
use Rattle.machine_spec.specs.Machine.{strobe_levels}
use Rattle.machine_spec.specs.Wiring.{inputs_of}
use Rattle.machine_spec.specs.Accesses.{via_read}
use Rattle.machine_spec.specs.Action.{acted_of}
use Rattle.machine_spec.specs.Stages.{item_wait}
use Rattle.machine_spec.specs.Step.{step_of, answer_of}
use Rattle.transaction_spec.specs.Promise.{answers_of, bits}
use Rattle.transaction_spec.specs.declared.Act.{Act}
use Rattle.transaction_spec.specs.declared.Act.TheVariants.{Port, Side, Look}
use Rattle.transaction_spec.specs.Acts.{out_at, dir_at, items, acts_by}
use Rattle.transaction_spec.proofs.Pins.{digit, bit-low, out-low}
use Rattle.transaction_spec.proofs.Chip.{Held, held, moved, seen, Means, body, read}
use Rattle.transaction_spec.proofs.Fold.{at, step-at, opened}

input-bit : (line : Bool) (l : List ℕ) → eqb ((inputs_of line l).b / 1 % 2) 1 ≡ line
unfolding inputs_of
input-bit line l = digit _ line (low (bit_number line) (get_or l 0 0) (get_or l 1 0) (get_or l 2 0) (get_or l 3 0) (bit-low line))
  where
    low : (x a b c d : ℕ) → x < 2 → (x + 2 + 4 + (8 * a + 16 * b + 32 * c + 64 * d) + 128) / 1 % 2 ≡ x
    low x a b c d h = omega arith

dir-small : (r : ℕ) (x : Bool) → r < 32 → dir_at r x < 256
dir-small r true h = omega arith
dir-small r false h = omega arith

module _ (m : Machine) (q r : ℕ) (ok : accepted_drives (strobe_levels m) m.drives ≡ true) (small : r < 32) where
  look-value : (h : Held) → eqb ((step_of (at m q r h) (ReadVia (for_ticks 0) 0)).value / 1 % 2) 1 ≡ cond h.x h.b (shown_level h.phase)
  unfolding step_of acted_of item_wait ticks via_read register_read value_read
  look-value h =
      let i = (inputs_of (shown_level h.phase) m.inputs).b in
      port-bit 0 (out_at q h.e h.c h.b) (dir_at r h.x) i (omega arith) (dir-small r h.x small)
      ∙ simp (out-low r true true h.x, out-low q h.e h.c h.b, input-bit (shown_level h.phase) m.inputs)

  looks : (h : Held) (xs : List Act) → bits xs (answers_of (at m q r h) (items q r xs)) ≡ seen h xs
  unfolding answer_of
  looks h [] = refl
  looks h (Port e c b ∷ xs) =
      ap (λ (n : Machine). bits xs (answers_of n (items q r xs))) (step-at m q r ok h (Port e c b)) ∙ looks (moved h (Port e c b)) xs
  looks h (Side x ∷ xs) = ap (λ (n : Machine). bits xs (answers_of n (items q r xs))) (step-at m q r ok h (Side x)) ∙ looks (moved h (Side x)) xs
  looks h (Look ∷ xs) =
      ap₂ (λ (b : Bool) (l : List Bool). b ∷ l) (look-value h)
      (ap (λ (n : Machine). bits xs (answers_of n (items q r xs))) (step-at m q r ok h Look) ∙ looks (moved h Look) xs)

  -- "A read's byte stands, high bit first, in bit 0 of its eight RD answers."
  pub read-seen : (l : Bool) (c e d : ℕ) (t : Target) → c < 256 → e < 256 → Means m.clock.store.chip l true c e t
      → bits (acts_by true l c e d) (answers_of m (items q r (acts_by true l c e d))) ≡ bits_high_first 8 (fetch t m.clock.store)
  read-seen l c e d t h k n =
      ap (λ (x : Machine). bits (body true l c e d) (answers_of x (items q r (body true l c e d)))) (opened m q r ok)
      ∙ looks (held true false false true Idle m.clock.store) (body true l c e d)
      ∙ (read m.clock.store l c e d t h k n).1
