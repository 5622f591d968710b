-- W-212: "Laws we cut captures by." Of every state m, accepted or not, of either clock chip. A wait is in VIA ticks, the time off in seconds, a room in bytes.
use Rattle.std.specs.Prelude.{None}
use Rattle.std.specs.Prelude.{ℕ, ◌+◌, ◌-◌, ◌%◌, ◌<◌, ◌≡◌, true, List, ◌++◌, length, drop}
use Rattle.units.specs.Units.{for_ticks}
use Rattle.units.specs.declared.WaitTicks.{WaitTicks}
use Rattle.item_spec.specs.declared.Item.{Item}
use Rattle.item_spec.specs.declared.Item.TheVariants.{Reset, Power}
use Rattle.machine_spec.specs.declared.Machine.{Machine}
use Rattle.machine_spec.specs.declared.Did.{Did}
use Rattle.machine_spec.specs.Machine.{accepted_of}
use Rattle.machine_spec.specs.Stages.{after_wait}
use Rattle.machine_spec.specs.Step.{step_of}
use Rattle.run_spec.specs.Outcome.{Out, run_of, ran_of, over}
use Rattle.image_spec.specs.Image.{machine_of, valid_image}
use Rattle.entry_spec.specs.Call.{call_of, call_image, call_answers}

-- One item and then another: the state after both, and the value that the second reads.
abbrev pub one_then_other : Machine → Item → Item → Did
one_then_other m i j = step_of (step_of m i).machine j

-- "With no wait between": the second item's wait, in VIA ticks.
unfoldable pub wait_between : WaitTicks
wait_between = for_ticks 0

-- "One of s+t modulo 4,294,967,296": the seconds off of two power cuts as those of one.
unfoldable pub seconds_off : ℕ → ℕ → ℕ
seconds_off s t = (s + t) % 4294967296

-- "The answer room left" by the first part of a list.
unfoldable pub room_left : ℕ → Out → ℕ
room_left room first = room - length first.answers

-- A list run whole against its two parts: "answers joined", counts added, and the state and the stop number of the second part.
pub record JoinedAs (first second together : Out) : Type 0 where
  pub machine : together.machine ≡ second.machine
  pub stop : together.stop ≡ second.stop
  pub answers : together.answers ≡ first.answers ++ second.answers
  pub consumed : together.consumed ≡ first.consumed + second.consumed
  pub written : (ran_of together).written ≡ (ran_of first).written + (ran_of second).written
  -- The memory d for the answers: the second part gets what lies past the first part's answers.
  pub memory : (d : List ℕ) → over together d ≡ first.answers ++ over second (drop (length first.answers) d)

pub record Laws (m : Machine) : Type 0 where
  -- "Waiting a and then b ticks leaves the state that a+b leaves, for all whole numbers a and b, also above 65,535."
  pub waits : (a b : ℕ) → after_wait b (after_wait a m) ≡ after_wait (a + b) m
  -- A state between two waits is one that a run accepts.
  pub wait_accepted : (a : ℕ) → accepted_of m ≡ true → accepted_of (after_wait a m) ≡ true
  -- "Two resets with no wait between equal one": the first after any wait w, the second with none.
  pub resets : (w : WaitTicks) → one_then_other m (Reset w) (Reset wait_between) ≡ step_of m (Reset w)
  -- "Power cuts of s and t seconds, with no wait between, equal one of s+t modulo 4,294,967,296", also while the test byte stops the seconds.
  pub power_cuts : (w : WaitTicks) (s t : ℕ) → one_then_other m (Power w s) (Power wait_between t) ≡ step_of m (Power w (seconds_off s t))
  -- That one is a PW that can be written: its seconds fit four bytes.
  pub seconds_fit : (s t : ℕ) → seconds_off s t < 4294967296
  -- "Running a list cut between records equals running the whole, answers joined, where the first part stops with 0 and the second gets the answer room left."
  pub cut_list : (a b : List ℕ) (room : ℕ) → (run_of m a room).stop ≡ None
      → JoinedAs (run_of m a room) (run_of (run_of m a room).machine b (room_left room (run_of m a room))) (run_of m (a ++ b) room)
  -- The first part is then read to its end: it holds whole records alone.
  pub first_whole : (a : List ℕ) (room : ℕ) → (run_of m a room).stop ≡ None → (run_of m a room).consumed ≡ length a

-- The same in calls of the C entry: the first with the image i, the second with the image `left` by it; a room is the length of the memory lent for answers.
pub record CallsJoined (i left a b : List ℕ) (room : ℕ) : Type 0 where
  -- State reached, stop number, answers joined, counts added.
  pub outcome : JoinedAs (call_of i a room) (call_of left b (room_left room (call_of i a room))) (call_of i (a ++ b) room)
  -- The second call leaves the image that one call with the whole list leaves, byte by byte.
  pub image : call_image i (a ++ b) room ≡ call_image left b (room_left room (call_of i a room))
  -- The second call is lent the memory past the first call's answers.
  pub memory : (d : List ℕ) → length d ≡ room
      → call_answers i (a ++ b) d ≡ (call_of i a room).answers ++ call_answers left b (drop (length (call_of i a room).answers) d)

-- Of every image i, valid or not. By the entry's contract the image left is as valid as i, and its state is the one reached: the first two premises.
abbrev pub CutCall : List ℕ → Type 0
CutCall i =
    (left a b : List ℕ) (room : ℕ) → valid_image left ≡ valid_image i → machine_of left ≡ (call_of i a room).machine → (call_of i a room).stop ≡ None
    → CallsJoined i left a b room
