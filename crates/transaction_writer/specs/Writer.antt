-- Request W-209: the answer, and the buffer after it.
use Rattle.std.specs.Prelude.{ℕ, cond, List, ◌++◌, Result, Ok, Err, length, drop, ltb}
use Rattle.refusal.specs.declared.Refusal.{Refusal}
use Rattle.refusal.specs.declared.Refusal.TheVariants.{OutOfRange, NoRoom, NotAccepted, TransactionOpen}
use Rattle.machine_spec.specs.declared.Machine.{Machine}
use Rattle.machine_spec.specs.Machine.{wires, accepted_of}
use Rattle.transaction_spec.specs.declared.Ask.{Ask}
use Rattle.transaction_spec.specs.Asked.{written_by, has_of, command_of, second_of, transaction_of, size_of}
use Rattle.transaction_plan.specs.declared.Plan.{Plan}

-- Port B's output and direction bytes, the command's bytes, the byte to write.
unfoldable pub plan_of : Machine → Ask → Plan
plan_of m a =
    record {
      outputs = m.via.ports.outb;
      directions = m.via.ports.dirb;
      command = command_of a;
      second = second_of a;
      byte = written_by a;
    }

-- "In this order: a state not accepted is refusal 7; a cell or seconds byte the chip doesn't have is 5; enable down is 10; a buffer shorter than the
-- transaction is 6."
unfoldable pub writer_answer : Machine → Ask → ℕ → Result ℕ Refusal
writer_answer m a room =
    cond (accepted_of m)
    (cond (has_of m.clock.store.chip a)
    (cond (wires m).enable
    (cond (ltb room (size_of a)) (Err NoRoom) (Ok (size_of a)))
    (Err TransactionOpen))
    (Err OutOfRange))
    (Err NotAccepted)

-- "The buffer is unchanged by all four."
abbrev pub buffer_by : Result ℕ Refusal → List ℕ → List ℕ → List ℕ
buffer_by (Ok n) x d = x ++ drop n d
buffer_by (Err r) x d = d

unfoldable pub buffer_after : Machine → Ask → List ℕ → List ℕ
buffer_after m a d = buffer_by (writer_answer m a (length d)) (transaction_of m a) d
