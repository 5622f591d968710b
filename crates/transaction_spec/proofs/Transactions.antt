-- Request W-209: running a transaction does what was asked.
use Prim.Native.Nat.{ℕ, ◌+◌, ◌*◌, ◌/◌, ◌≤◌, ◌<◌}
use mathlib.Core.Path.{◌≡◌, refl, sym, ap, ◌∙◌}
use mathlib.Core.Bool.{Bool, true, false, true≢false}
use native.Mathlib.Omega.{arith}
use lib.ListN.{length}
use borrow.Author.Tests.{ltb-true}
use Rattle.std.specs.Prelude.{None}
use Rattle.clock_spec.specs.Command.{cells_of}
use Rattle.clock_spec.proofs.CommandRange.{cells-most}
use Rattle.clock_spec.specs.Store.{fetch}
use Rattle.clock_spec.specs.Phase.{accepted_phase, shown_level}
use Rattle.clock_spec.specs.declared.Wires.{Wires}
use Rattle.clock_spec.specs.Patterns.{bits_high_first}
use Rattle.clock_spec.specs.declared.Target.{Target}
use Rattle.clock_spec.specs.declared.Chip.{Chip}
use Rattle.clock_spec.specs.declared.Phase.{Phase}
use Rattle.clock_spec.specs.declared.Phase.TheVariants.{Idle, Listening, Sending, Ignoring}
use Rattle.machine_spec.specs.declared.Machine.{Machine}
use Rattle.machine_spec.specs.Machine.{wires, accepted_of}
use Rattle.machine_spec.proofs.MachineLaws.{parts}
use Rattle.run_spec.specs.Outcome.{Out, run_of}
use Rattle.transaction_spec.specs.Promise.{bare, asked_by, left_by, answers_of, bytes_of_answers, bits, Does}
use Rattle.transaction_spec.specs.Acts.{items, bytes_of, acts_by}
use Rattle.transaction_spec.specs.declared.Ask.{Ask}
use Rattle.transaction_spec.specs.declared.Ask.TheVariants.{WriteCell, WriteSeconds, WriteProtect, ReadCell, ReadSeconds}
use Rattle.transaction_spec.specs.Asked.{target_of, reads_of, byte_of, has_of, command_of, extended_of, second_byte_of, acts_of, transaction_of, size_by, count_by, size_of, count_of}
use Rattle.transaction_spec.proofs.Pins.{pins}
use Rattle.transaction_spec.proofs.Chip.{Means}
use Rattle.transaction_spec.proofs.Fold.{folded, write-folds, read-folds}
use Rattle.transaction_spec.proofs.Bytes.{bytes_run}
use Rattle.transaction_spec.proofs.Looks.{read-seen}
use Rattle.transaction_spec.proofs.Commands.{seconds-named, seconds-small, cell-named, cell-small, second-small, protect-named}

-- With enable up the chip is idle.
idle : (k : Chip) (p : Phase) (e : Bool) → e ≡ true → accepted_phase k p e ≡ true → p ≡ Idle
unfolding accepted_phase
idle k Idle e h a = refl
idle k (Listening bs n v) true h a = absurd (true≢false (sym a))
idle k (Sending y n) true h a = absurd (true≢false (sym a))
idle k Ignoring true h a = absurd (true≢false (sym a))
idle k (Listening bs n v) false h a = absurd (true≢false (sym h))
idle k (Sending y n) false h a = absurd (true≢false (sym h))
idle k Ignoring false h a = absurd (true≢false (sym h))

-- The command's bytes mean what is asked.
record Commands (k : Chip) (a : Ask) : Type 0 where
  first : command_of a < 256
  second : second_byte_of a < 256
  means : Means k (extended_of a) (reads_of a) (command_of a) (second_byte_of a) (target_of a)

cell_in : (k : Chip) (i : ℕ) → i < cells_of k → i < 256
cell_in k i h = omega (arith, cells-most k)

commands : (k : Chip) (a : Ask) → has_of k a ≡ true → Commands k a
unfolding command_of second_byte_of extended_of has_of reads_of target_of
commands k (WriteCell i d) h =
    let l : i < cells_of k = ltb-true _ _ h in record { first = cell-small false i (cell_in k i l); second = second-small i; means = cell-named k false i l }
commands k (WriteSeconds n d) h = record { first = seconds-small false n (ltb-true _ _ h); second = omega arith; means = seconds-named k false n (ltb-true _ _ h) }
commands k (WriteProtect d) h = record { first = omega arith; second = omega arith; means = protect-named k }
commands k (ReadCell i) h =
    let l : i < cells_of k = ltb-true _ _ h in record { first = cell-small true i (cell_in k i l); second = second-small i; means = cell-named k true i l }
commands k (ReadSeconds n) h = record { first = seconds-small true n (ltb-true _ _ h); second = omega arith; means = seconds-named k true n (ltb-true _ _ h) }

-- "The length of each transaction is fixed."
pub size_is : (m : Machine) (a : Ask) → length (transaction_of m a) ≡ size_of a
unfolding transaction_of acts_of size_of
size_is m a = go (reads_of a) (extended_of a)
  where
    go : (z l : Bool)
        → length (bytes_of (m.via.ports.outb / 8) (m.via.ports.dirb / 8) (acts_by z l (command_of a) (second_byte_of a) (byte_of a))) ≡ size_by z l
    go true true = refl
    go true false = refl
    go false true = refl
    go false false = refl

pub count-is : (a : Ask) → length (acts_of a) ≡ count_of a
unfolding acts_of count_of
count-is a = go (reads_of a) (extended_of a)
  where
    go : (z l : Bool) → length (acts_by z l (command_of a) (second_byte_of a) (byte_of a)) ≡ count_by z l
    go true true = refl
    go true false = refl
    go false true = refl
    go false false = refl

-- "And ends with enable up."
pub ends-up : (m : Machine) (z : Bool) (t : Target) (d : ℕ) → (wires (left_by m z t d)).enable ≡ true
ends-up m true t d = ap (λ (w : Wires). w.enable) (pins m.via.ports _ _ true true false false (shown_level m.clock.phase))
ends-up m false t d = ap (λ (w : Wires). w.enable) (pins m.via.ports _ _ true true false true (shown_level m.clock.phase))

module _ (m : Machine) (a : Ask) (room : ℕ) (ok : accepted_of m ≡ true) (free : (wires m).enable ≡ true) (has : has_of m.clock.store.chip a ≡ true) (long : 8 * count_of a ≤ room)
  where
    abbrev q : ℕ
    q = m.via.ports.outb / 8

    abbrev r : ℕ
    r = m.via.ports.dirb / 8

    runs : run_of m (transaction_of m a) room
        ≡ record {
          machine = folded m (items q r (acts_of a));
          stop = None;
          consumed = length (transaction_of m a);
          answers = bytes_of_answers (answers_of m (items q r (acts_of a)));
        }
    unfolding run_of transaction_of
    runs = simp ok (bytes_run q r (acts_of a) m room (omega (arith, count-is a)))

    still : m.clock.phase ≡ Idle
    still = idle m.clock.store.chip m.clock.phase (wires m).enable free (parts m ok).phase

    abbrev chip : Chip
    chip = m.clock.store.chip

    left : byte_of a < 256 → folded m (items q r (acts_of a)) ≡ left_by m (reads_of a) (target_of a) (byte_of a)
    unfolding acts_of
    left k = go (reads_of a) (commands chip a has).means
      where
        go : (z : Bool) → Means chip (extended_of a) z (command_of a) (second_byte_of a) (target_of a)
            → folded m (items q r (acts_by z (extended_of a) (command_of a) (second_byte_of a) (byte_of a))) ≡ left_by m z (target_of a) (byte_of a)
        go true e =
            read-folds m q r (parts m ok).drives (extended_of a) (command_of a) (second_byte_of a) (byte_of a) (target_of a) (commands chip a has).first (commands chip a has).second e
            ∙ ap (λ (p : Phase). bare m (8 * q + 6) (8 * r + 6) p m.clock.store) (sym still)
        go false e =
            write-folds m q r (parts m ok).drives (extended_of a) (command_of a) (second_byte_of a) (byte_of a) (target_of a) (commands chip a has).first (commands chip a has).second k e
            ∙ ap (λ (p : Phase). bare m (8 * q + 6) (8 * r + 7) p (asked_by false (target_of a) (byte_of a) m.clock.store)) (sym still)

    shows : m.via.ports.dirb < 256 → reads_of a ≡ true
        → bits (acts_of a) (answers_of m (items q r (acts_of a))) ≡ bits_high_first 8 (fetch (target_of a) m.clock.store)
    unfolding acts_of
    shows k h = go (reads_of a) h (commands chip a has).means
      where
        go : (z : Bool) → z ≡ true → Means chip (extended_of a) z (command_of a) (second_byte_of a) (target_of a)
            → bits (acts_by z (extended_of a) (command_of a) (second_byte_of a) (byte_of a)) (answers_of m (items q r (acts_by z (extended_of a) (command_of a) (second_byte_of a) (byte_of a))))
            ≡ bits_high_first 8 (fetch (target_of a) m.clock.store)
        go true h e =
            read-seen m q r (parts m ok).drives (omega arith) (extended_of a) (command_of a) (second_byte_of a) (byte_of a) (target_of a) (commands chip a has).first (commands chip a has).second e
        go false h e = absurd (true≢false (sym h))

    -- "Running them with answer room does what was asked under the protect rule, changes nothing else in the state .., and ends with enable up."
    pub does : byte_of a < 256 → m.via.ports.dirb < 256 → Does m a (run_of m (transaction_of m a) room) (answers_of m (items q r (acts_of a)))
    does k l =
        record {
          stop = ap (λ (o : Out). o.stop) runs;
          consumed = ap (λ (o : Out). o.consumed) runs ∙ size_is m a;
          machine = ap (λ (o : Out). o.machine) runs ∙ left k;
          up =
              ap (λ (o : Out). (wires o.machine).enable) runs
              ∙ ap (λ (n : Machine). (wires n).enable) (left k)
              ∙ ends-up m (reads_of a) (target_of a) (byte_of a);
          answers = ap (λ (o : Out). o.answers) runs;
          shown = shows l;
        }
