-- A plan's parts are the transaction; the refusals of `write_transaction`, on plain lists.
use Prim.Native.Nat.{ℕ, ◌≤◌, ◌<◌}
use mathlib.Core.Path.{◌≡◌, sym, ap, ap₂, ◌∙◌}
use mathlib.Core.Bool.{true, false}
use mathlib.Core.List.{List, ◌++◌}
use native.Mathlib.Omega.{arith}
use lib.ListN.{length, drop}
use borrow.Author.Tests.{lt-ltb, le-ltb}
use Rattle.machine_spec.specs.declared.Machine.{Machine}
use Rattle.machine_spec.specs.Machine.{wires, accepted_of}
use Rattle.transaction_spec.specs.declared.Ask.{Ask}
use Rattle.transaction_spec.specs.Asked.{reads_of, byte_of, written_by, has_of, command_of, extended_of, second_byte_of, second_of, acts_of, transaction_of, size_of, count_of}
use Rattle.transaction_spec.proofs.Transactions.{size_is}
use Rattle.transaction_plan.specs.declared.Plan.{Plan}
use Rattle.transaction_plan.specs.Plan.{parts}
use Rattle.std.specs.Prelude.{Result, Ok, Err}
use Rattle.refusal.specs.declared.Refusal.{Refusal}
use Rattle.refusal.specs.declared.Refusal.TheVariants.{OutOfRange, NoRoom, NotAccepted, TransactionOpen}
use Rattle.transaction_writer.specs.Writer.{plan_of, writer_answer, buffer_by, buffer_after}
use Rattle.transaction_writer.proofs.Laws.{all-parts}

module _ (m : Machine) (a : Ask) where
  plan-parts : parts (plan_of m a) (count_of a) ≡ transaction_of m a
  unfolding plan_of count_of transaction_of acts_of second_of written_by
  plan-parts = all-parts m.via.ports.outb m.via.ports.dirb (reads_of a) (extended_of a) (command_of a) (second_byte_of a) (byte_of a)

  planned : (s : Plan) (k : ℕ) → s ≡ plan_of m a → k ≡ count_of a → parts s k ≡ transaction_of m a
  planned s k e f = ap₂ (λ (x : Plan) (i : ℕ). parts x i) e f ∙ plan-parts

  pub fits : (s : Plan) (k n room : ℕ) → s ≡ plan_of m a → k ≡ count_of a → n ≡ size_of a → n ≤ room → length (parts s k) ≤ room
  fits s k n room e f g h = omega (arith, ap length (planned s k e f), size_is m a)

  -- The refusals, in their order.
  module _ (d : List ℕ) where
    pub refuses : (x : Refusal) → Err x ≡ writer_answer m a (length d) → (Err x ≡ writer_answer m a (length d)) × (d ≡ buffer_after m a d)
    unfolding buffer_after
    refuses x e = (e, ap (λ (y : Result ℕ Refusal). buffer_by y (transaction_of m a) d) e)

    pub seven : accepted_of m ≡ false → (Err NotAccepted ≡ writer_answer m a (length d)) × (d ≡ buffer_after m a d)
    unfolding writer_answer
    seven h = refuses NotAccepted (simp h)

    module _ (h : accepted_of m ≡ true) where
      pub five : has_of m.clock.store.chip a ≡ false → (Err OutOfRange ≡ writer_answer m a (length d)) × (d ≡ buffer_after m a d)
      unfolding writer_answer
      five g = refuses OutOfRange (simp (h, g))

      module _ (g : has_of m.clock.store.chip a ≡ true) where
        pub ten : (wires m).enable ≡ false → (Err TransactionOpen ≡ writer_answer m a (length d)) × (d ≡ buffer_after m a d)
        unfolding writer_answer
        ten e = refuses TransactionOpen (simp (h, g, e))

        module _ (e : (wires m).enable ≡ true) (n : ℕ) (z : n ≡ size_of a) where
          pub six : length d < n → (Err NoRoom ≡ writer_answer m a (length d)) × (d ≡ buffer_after m a d)
          unfolding writer_answer
          six l = refuses NoRoom (simp (h, g, e, ← z, lt-ltb _ _ l))

          -- And the transaction where nothing is refused.
          pub all : n ≤ length d → (s : Plan) (k : ℕ) (o : List ℕ) → s ≡ plan_of m a → k ≡ count_of a → o ≡ parts s k ++ drop (length (parts s k)) d → o ≡ buffer_after m a d
          unfolding writer_answer buffer_after
          all l s k o p f q =
              let t = planned s k p f in
              let v : Ok n ≡ writer_answer m a (length d) = simp (h, g, e, ← z, le-ltb _ _ l) in
              q ∙ ap₂ (λ (x : List ℕ) (i : ℕ). x ++ drop i d) t (ap length t ∙ size_is m a ∙ sym z) ∙ ap (λ (y : Result ℕ Refusal). buffer_by y (transaction_of m a) d) v
