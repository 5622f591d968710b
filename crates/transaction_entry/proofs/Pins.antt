-- The numbers of what is asked for, by samples; the refusals of calls, by laws.
use Prim.Native.Nat.{ℕ}
use mathlib.Core.Path.{◌≡◌, refl, ap}
use mathlib.Core.Bool.{Bool, true, false, cond}
use mathlib.Core.List.{List, []}
use lib.ListN.{length}
use Rattle.image_spec.specs.Image.{machine_of, exact_image, valid_image}
use Rattle.transaction_spec.specs.declared.Ask.{Ask}
use Rattle.transaction_spec.specs.declared.Ask.TheVariants.{WriteCell, WriteSeconds, WriteProtect, ReadCell, ReadSeconds}
use Rattle.transaction_spec.specs.Asked.{transaction_of}
use Rattle.transaction_writer.specs.Writer.{writer_answer, buffer_by, buffer_after}
use Rattle.std.specs.Prelude.{Option, Some, None, Result, Ok, Err}
use Rattle.refusal.specs.declared.Refusal.{Refusal}
use Rattle.refusal.specs.declared.Refusal.TheVariants.{OutOfRange, NotAccepted, TransactionOpen}
use Rattle.transaction_entry.specs.Call.{placed_of, request_of, answer_of, buffer_of, result_of, output_of, stop_of, written_of}

-- ---- samples: docs/FORMATS.md has these numbers

pub record Sampled : Type 0 where
  pub write_cell : request_of 1 3 170 ≡ Some (WriteCell 3 170)
  pub read_cell : request_of 2 3 170 ≡ Some (ReadCell 3)
  pub write-seconds : request_of 3 2 170 ≡ Some (WriteSeconds 2 170)
  pub read-seconds : request_of 4 2 170 ≡ Some (ReadSeconds 2)
  -- Its number is not looked at.
  pub protect : (request_of 5 3 128 ≡ Some (WriteProtect 128)) × (request_of 5 300 128 ≡ Some (WriteProtect 128))
  pub none : (request_of 0 3 170 ≡ None) × (request_of 6 3 170 ≡ None)
  -- Cell 258 is not cell 2.
  pub far : (request_of 1 255 170 ≡ Some (WriteCell 255 170)) × (request_of 1 256 170 ≡ None) × (request_of 2 258 170 ≡ None) × (request_of 4 258 170 ≡ None)
  -- An empty image, and nothing asked for.
  pub first : result_of [] None 0 ≡ Err NotAccepted
  pub counts : (stop_of (Ok 396) ≡ 0) × (written_of (Ok 396) ≡ 396) × (stop_of (Err TransactionOpen) ≡ 10) × (written_of (Err TransactionOpen) ≡ 0)

pub sampled : Sampled
unfolding request_of placed_of result_of answer_of stop_of written_of valid_image exact_image
sampled =
    record {
      write_cell = refl;
      read_cell = refl;
      write-seconds = refl;
      read-seconds = refl;
      protect = (refl, refl);
      none = (refl, refl);
      far = (refl, refl, refl, refl);
      first = refl;
      counts = (refl, refl, refl, refl);
    }

-- ---- laws

module _ (i : List ℕ) where
  -- 7 comes first, whatever is asked for; then 5 of what is no request.
  pub seven : valid_image i ≡ false → (q : Option Ask) (room : ℕ) → result_of i q room ≡ Err NotAccepted
  unfolding result_of
  seven e q room = simp e

  pub five : valid_image i ≡ true → (room : ℕ) → result_of i None room ≡ Err OutOfRange
  unfolding result_of answer_of
  five e room = simp e

  -- All else is the writer's answer.
  pub writer : valid_image i ≡ true → (a : Ask) (room : ℕ) → result_of i (Some a) room ≡ writer_answer (machine_of i) a room
  unfolding result_of answer_of
  writer e a room = simp e

  -- "The buffer is unchanged by all four", and nothing is counted.
  module _ (d : List ℕ) where
    kept : (r : Result ℕ Refusal) (n : Refusal) (x : List ℕ) → r ≡ Err n → (buffer_by r x d ≡ d) × (written_of r ≡ 0)
    unfolding written_of
    kept r n x e = (ap (λ (y : Result ℕ Refusal). buffer_by y x d) e, ap written_of e)

    pub unchanged : (q : Option Ask) (n : Refusal) → result_of i q (length d) ≡ Err n → (output_of i q d ≡ d) × (written_of (result_of i q (length d)) ≡ 0)
    unfolding result_of output_of answer_of buffer_of buffer_after written_of
    unchanged q n = go (valid_image i) q
      where
        go : (b : Bool) (q : Option Ask) → cond b (answer_of (machine_of i) q (length d)) (Err NotAccepted) ≡ Err n
            → (cond b (buffer_of (machine_of i) q d) d ≡ d) × (written_of (cond b (answer_of (machine_of i) q (length d)) (Err NotAccepted)) ≡ 0)
        go false q e = (refl, refl)
        go true None e = (refl, refl)
        go true (Some a) e = kept (writer_answer (machine_of i) a (length d)) n (transaction_of (machine_of i) a) e
