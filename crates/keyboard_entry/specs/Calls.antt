-- What a call with C linkage leaves of a keyboard: request W-210, in the form of W-201.
use Rattle.std.specs.Prelude.{ℕ, ◌≡◌, cond, List, length, ltb, Err}
use Rattle.octets.specs.Octets.{put_at}
use Rattle.keyboard.specs.declared.Keyboard.{Keyboard}
use Rattle.refusal.specs.declared.Refusal.TheVariants.{NotAccepted}
use Rattle.keyboard.specs.State.{fresh_keyboard}
use Rattle.keyboard.specs.Numbers.{Response, answers_of}
use Rattle.keyboard.specs.Steps.{Stepped, respond}
use Rattle.keyboard_image.specs.Image.{image_length, image_of, keyboard_of, valid_image}

-- A step on a lent image: "a state outside its ranges in docs/ is 7 and checked first"; bytes that are no image are none in its ranges.
unfoldable pub call_of : (Keyboard → Stepped) → List ℕ → Stepped
call_of step image = cond (valid_image image) (step (keyboard_of image)) (respond (keyboard_of image) (Err NotAccepted))

-- The image of the keyboard after it; a refusal leaves the bytes as they are.
unfoldable pub call_image : (Keyboard → Stepped) → List ℕ → List ℕ
call_image step image = cond (valid_image image) (image_of (call_of step image).keyboard) image

-- Whether there is an answer byte: 1, else 0.
unfoldable pub answered_of : Response → ℕ
answered_of r = cond (answers_of r) 1 0

-- A function of a keyboard does this step: from each keyboard it gives the step's response and leaves the step's keyboard.
abbrev pub DoesStep : (Keyboard → Response → Keyboard → Type 0) → (Keyboard → Stepped) → Type 0
DoesStep returns step = (before : Keyboard) (response : Response) (after : Keyboard) → returns before response after → record { keyboard = after; response = response } ≡ step before

-- A keyboard just made: refusal 6 where the room is shorter than an image, with nothing written; what lies past the image keeps its bytes.
unfoldable pub fresh_stop : List ℕ → ℕ
fresh_stop d = cond (ltb (length d) image_length) 6 0

unfoldable pub fresh_image : ℕ → List ℕ → List ℕ
fresh_image model d = cond (ltb (length d) image_length) d (put_at d 0 (image_of (fresh_keyboard model)))
