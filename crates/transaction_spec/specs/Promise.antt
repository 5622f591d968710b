-- Request W-209: what running a transaction does.
use Rattle.std.specs.Prelude.{Some, None, Ok}
use Rattle.std.specs.Prelude.{ℕ, ◌+◌, ◌*◌, ◌/◌, ◌%◌, ◌≡◌, Bool, true, false, cond, List, [], ◌∷◌, ◌++◌, eqb}
use Rattle.std.proofs.Math.Option.{some}
use Rattle.clock_spec.specs.Store.{act, fetch}
use Rattle.clock_spec.specs.Patterns.{bits_high_first}
use Rattle.clock_spec.specs.declared.Target.{Target}
use Rattle.clock_spec.specs.declared.Store.{Store}
use Rattle.clock_spec.specs.declared.Phase.{Phase}
use Rattle.via.specs.declared.Ports.{Ports}
use Rattle.via.specs.Setters.{with_ports}
use Rattle.item_spec.specs.declared.Shown.{Shown}
use Rattle.item_spec.specs.declared.Item.{Item}
use Rattle.item_spec.specs.Record.{answer_bytes}
use Rattle.machine_spec.specs.declared.Machine.{Machine}
use Rattle.machine_spec.specs.Machine.{with_via, with_clock, wires}
use Rattle.machine_spec.specs.Step.{step_of, answer_of}
use Rattle.run_spec.specs.Outcome.{Out}
use Rattle.transaction_spec.specs.declared.Act.{Act}
use Rattle.transaction_spec.specs.declared.Act.TheVariants.{Port, Side, Look}
use Rattle.transaction_spec.specs.declared.Ask.{Ask}
use Rattle.transaction_spec.specs.Asked.{target_of, reads_of, byte_of, acts_of, size_of}

-- ---- the state after it

abbrev pub ports_at : Ports → ℕ → ℕ → Ports
ports_at p o d = record { outb = o; outa = p.outa; dirb = d; dira = p.dira }

-- The machine m with these port B bytes and this clock; all else is m's.
abbrev pub bare : Machine → ℕ → ℕ → Phase → Store → Machine
bare m o d p s = with_clock (with_via m (with_ports m.via (ports_at m.via.ports o d))) (record { phase = p; store = s })

-- What is asked for, of the store: a write acts under the protect rule.
abbrev pub asked_by : Bool → Target → ℕ → Store → Store
asked_by true t d s = s
asked_by false t d s = act (some (record { to = t; byte = d })) s

-- The state after a transaction: port B's output bits 0 to 2 are 6, its direction bits 0 to 2 are 7 after a write and 6 after a read.
abbrev pub left_by : Machine → Bool → Target → ℕ → Machine
left_by m z t d = bare m (8 * (m.via.ports.outb / 8) + 6) (8 * (m.via.ports.dirb / 8) + cond z 6 7) m.clock.phase (asked_by z t d m.clock.store)

-- ---- its answers

-- The answers of items, one after the other.
abbrev pub answers_of : Machine → List Item → List Shown
answers_of m [] = []
answers_of m (i ∷ rest) = answer_of (step_of m i) ∷ answers_of (step_of m i).machine rest

abbrev pub bytes_of_answers : List Shown → List ℕ
bytes_of_answers [] = []
bytes_of_answers (a ∷ rest) = answer_bytes (Ok a) ++ bytes_of_answers rest

-- Of the answers, bit 0 of each that a look gets.
abbrev pub bits : List Act → List Shown → List Bool
bits [] more = []
bits (a ∷ xs) [] = []
bits (Port e c b ∷ xs) (x ∷ more) = bits xs more
bits (Side y ∷ xs) (x ∷ more) = bits xs more
bits (Look ∷ xs) (x ∷ more) = eqb (x.value / 1 % 2) 1 ∷ bits xs more

-- ---- the promise

-- "Running them with answer room does what was asked under the protect rule, changes nothing else in the state but port B's output and direction bits 0 to 2, and
-- ends with enable up. A read's byte stands, high bit first, in bit 0 of its eight RD answers." The answers are l.
pub record Does (m : Machine) (a : Ask) (o : Out) (l : List Shown) : Type 0 where
  pub stop : o.stop ≡ None
  pub consumed : o.consumed ≡ size_of a
  pub machine : o.machine ≡ left_by m (reads_of a) (target_of a) (byte_of a)
  pub up : (wires o.machine).enable ≡ true
  pub answers : o.answers ≡ bytes_of_answers l
  pub shown : reads_of a ≡ true → bits (acts_of a) l ≡ bits_high_first 8 (fetch (target_of a) m.clock.store)
