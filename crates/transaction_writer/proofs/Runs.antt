-- What the writer wrote, run: request W-209's promise in one statement.
use Prim.Native.Nat.{ℕ, ◌*◌, ◌/◌, ◌≤◌, ◌<◌}
use mathlib.Core.Path.{◌≡◌, refl, ap, ◌∙◌}
use mathlib.Core.Bool.{Bool, true, false, cond}
use mathlib.Core.List.{List}
use Rattle.std.specs.Prelude.{Result, Ok, Err}
use Rattle.refusal.specs.declared.Refusal.{Refusal}
use Rattle.refusal.specs.declared.Refusal.TheVariants.{OutOfRange, NoRoom, NotAccepted, TransactionOpen}
use lib.ListN.{length, take, drop}
use lib.Seq.{take_at}
use lib.Dec.{ltb}
use Rattle.machine_spec.specs.declared.Machine.{Machine}
use Rattle.machine_spec.specs.Machine.{wires, accepted_of}
use Rattle.run_spec.specs.Outcome.{run_of}
use Rattle.transaction_spec.specs.declared.Ask.{Ask}
use Rattle.transaction_spec.specs.Acts.{items}
use Rattle.transaction_spec.specs.Asked.{byte_of, has_of, acts_of, transaction_of, size_of, count_of}
use Rattle.transaction_spec.specs.Promise.{answers_of, Does}
use Rattle.transaction_spec.proofs.Transactions.{does, size_is}
use Rattle.transaction_writer.specs.Writer.{writer_answer, buffer_by, buffer_after}

abbrev bytes_wrote : Result ℕ Refusal → ℕ
bytes_wrote (Ok n) = n
bytes_wrote (Err r) = 0

-- Where bytes are written nothing was refused.
none-refused : (x y e f : Bool) (k n : ℕ) → cond x (cond y (cond e (cond f (Err NoRoom) (Ok k)) (Err TransactionOpen)) (Err OutOfRange)) (Err NotAccepted) ≡ Ok n
    → (x ≡ true) × (y ≡ true) × (e ≡ true) × (k ≡ n)
none-refused true true true false k n h = (refl, refl, refl, ap bytes_wrote h)
none-refused true true true true k n h = cc
none-refused true true false f k n h = cc
none-refused true false e f k n h = cc
none-refused false y e f k n h = cc

module _ (m : Machine) (a : Ask) (d : List ℕ) (n : ℕ) (w : writer_answer m a (length d) ≡ Ok n) where
  facts : (accepted_of m ≡ true) × (has_of m.clock.store.chip a ≡ true) × ((wires m).enable ≡ true) × (size_of a ≡ n)
  unfolding writer_answer
  facts = none-refused (accepted_of m) (has_of m.clock.store.chip a) (wires m).enable (ltb (length d) (size_of a)) (size_of a) n w

  -- The first n bytes of the buffer are the transaction.
  pub first-bytes : take n (buffer_after m a d) ≡ transaction_of m a
  unfolding buffer_after
  first-bytes =
      ap (λ (x : Result ℕ Refusal). take n (buffer_by x (transaction_of m a) d)) w
      ∙ take_at (transaction_of m a) (drop n d) n (size_is m a ∙ facts.3)

  -- "Running them with answer room does what was asked under the protect rule .., and ends with enable up."
  pub written-does : (room : ℕ) → 8 * count_of a ≤ room → byte_of a < 256 → m.via.ports.dirb < 256
      → Does m a (run_of m (take n (buffer_after m a d)) room) (answers_of m (items (m.via.ports.outb / 8) (m.via.ports.dirb / 8) (acts_of a)))
  written-does room l b p = rw first-bytes (does m a room facts.0 facts.2 facts.1 l b p)
