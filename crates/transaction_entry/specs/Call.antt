-- Request W-209 at the C entry: what numbers ask for, and what a call on a lent image leaves.
use Rattle.std.specs.Prelude.{ℕ, ◌*◌, ◌/◌, ◌≤◌, ◌≡◌, true, cond, List, take, eqb, ltb}
use Rattle.machine_spec.specs.declared.Machine.{Machine}
use Rattle.image_spec.specs.Image.{machine_of, valid_image}
use Rattle.entry_spec.specs.Call.{call_of}
use Rattle.transaction_spec.specs.declared.Ask.{Ask}
use Rattle.transaction_spec.specs.declared.Ask.TheVariants.{WriteCell, WriteSeconds, WriteProtect, ReadCell, ReadSeconds}
use Rattle.transaction_spec.specs.Acts.{items}
use Rattle.transaction_spec.specs.Asked.{acts_of, transaction_of, size_of, count_of}
use Rattle.transaction_spec.specs.Promise.{answers_of, Does}
use Rattle.transaction_writer.specs.Writer.{writer_answer, buffer_after}
use Rattle.std.specs.Prelude.{Option, Some, None, Result, Ok, Err}
use Rattle.refusal.specs.declared.Refusal.{Refusal}
use Rattle.refusal.specs.declared.Refusal.TheVariants.{OutOfRange, NotAccepted}
use Rattle.refusal.specs.Numbers.{number_of}

-- ---- what is asked for

-- 1 to 4: write a cell, read a cell, write a seconds byte, read a seconds byte. A read takes no value.
unfoldable pub placed_of : ℕ → ℕ → ℕ → Option Ask
placed_of ask place value =
    cond (eqb ask 1) (Some (WriteCell place value))
    (cond (eqb ask 2) (Some (ReadCell place))
    (cond (eqb ask 3) (Some (WriteSeconds place value))
    (cond (eqb ask 4) (Some (ReadSeconds place)) None)))

-- 5: write protect, which has no number. No chip has a cell or a seconds byte above 255.
unfoldable pub request_of : ℕ → ℕ → ℕ → Option Ask
request_of ask number value = cond (eqb ask 5) (Some (WriteProtect value)) (cond (ltb number 256) (placed_of ask number value) None)

-- ---- what is answered, from a state and from an image

-- Numbers that ask for nothing are refused like a cell that the chip does not have.
unfoldable pub answer_of : Machine → Option Ask → ℕ → Result ℕ Refusal
answer_of m (Some a) room = writer_answer m a room
answer_of m None room = Err OutOfRange

unfoldable pub buffer_of : Machine → Option Ask → List ℕ → List ℕ
buffer_of m (Some a) d = buffer_after m a d
buffer_of m None d = d

-- "A state not accepted is refusal 7", and so are bytes that no accepted state's image is; it comes first.
unfoldable pub result_of : List ℕ → Option Ask → ℕ → Result ℕ Refusal
result_of image q room = cond (valid_image image) (answer_of (machine_of image) q room) (Err NotAccepted)

unfoldable pub output_of : List ℕ → Option Ask → List ℕ → List ℕ
output_of image q d = cond (valid_image image) (buffer_of (machine_of image) q d) d

unfoldable pub stop_of : Result ℕ Refusal → ℕ
stop_of (Ok n) = 0
stop_of (Err r) = number_of r

unfoldable pub written_of : Result ℕ Refusal → ℕ
written_of (Ok n) = n
written_of (Err r) = 0

-- ---- the promise

-- W-209 of calls: n bytes of the buffer d were written for an image. They are the transaction of what was asked for, and a call of the run with the same image, these bytes
-- and 8 bytes of answer room for each item does it.
pub record CallDoes (image : List ℕ) (q : Option Ask) (n : ℕ) (d : List ℕ) : Type 0 where
  pub valid : valid_image image ≡ true
  pub ask : Ask
  pub known : q ≡ Some ask
  pub size : n ≡ size_of ask
  pub bytes : take n d ≡ transaction_of (machine_of image) ask
  pub does : (room : ℕ) → 8 * count_of ask ≤ room
      → Does (machine_of image) ask (call_of image (take n d) room) (answers_of (machine_of image) (items ((machine_of image).via.ports.outb / 8) ((machine_of image).via.ports.dirb / 8) (acts_of ask)))
