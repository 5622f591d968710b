-- What a call with C linkage leaves: requests W-201 and W-206.
use Rattle.std.specs.Prelude.{Some}
use Rattle.refusal.specs.declared.Refusal.TheVariants.{NotAccepted}
use Rattle.std.specs.Prelude.{ℕ, cond, List, length, ltb, eqb}
use Rattle.octets.specs.Octets.{put_at}
use Rattle.clock_spec.specs.Command.{cells_of}
use Rattle.clock_spec.specs.declared.Chip.{Chip}
use Rattle.clock_spec.specs.declared.Chip.TheVariants.{First, Later}
use Rattle.machine_spec.specs.Machine.{fresh_machine}
use Rattle.run_spec.specs.Outcome.{Out, halt, run_of, over}
use Rattle.image_spec.specs.Image.{image_length, image_of, machine_of, valid_image}

-- "An image that no accepted state has gets refusal 7", both counts 0; every other is the state that the run starts from.
unfoldable pub call_of : List ℕ → List ℕ → ℕ → Out
call_of image list room = cond (valid_image image) (run_of (machine_of image) list room) (halt (machine_of image) (Some NotAccepted))

-- The image of the state reached; on 7 "all three buffers keep their bytes".
unfoldable pub call_image : List ℕ → List ℕ → ℕ → List ℕ
call_image image list room = cond (valid_image image) (image_of (call_of image list room).machine) image

unfoldable pub call_answers : List ℕ → List ℕ → List ℕ → List ℕ
call_answers image list answers = over (call_of image list (length answers)) answers

-- The fresh machine's image: refusal 6 where the room is shorter, with nothing written; what lies past the image keeps its bytes.
unfoldable pub room_stop : Chip → List ℕ → ℕ
room_stop k d = cond (ltb (length d) (image_length k)) 6 0

unfoldable pub room_image : Chip → List ℕ → List ℕ
room_image k d = cond (ltb (length d) (image_length k)) d (put_at d 0 (image_of (fresh_machine k)))

-- W-206: "a machine is made with 20 or 256 cells, chosen at the start": what each number of cells gives, and what any other does.
abbrev pub by_cells : {A : Type 0} → (Chip → A) → A → ℕ → A
by_cells f other cells = cond (eqb cells (cells_of First)) (f First) (cond (eqb cells (cells_of Later)) (f Later) other)

-- Another number is refusal 5, checked before 6, with nothing written; its images have length 0.
unfoldable pub fresh_stop : ℕ → List ℕ → ℕ
fresh_stop cells d = by_cells (λ k. room_stop k d) 5 cells

unfoldable pub fresh_image : ℕ → List ℕ → List ℕ
fresh_image cells d = by_cells (λ k. room_image k d) d cells

unfoldable pub length_for : ℕ → ℕ
length_for cells = by_cells image_length 0 cells
