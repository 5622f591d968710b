-- The image of a keyboard: one record of kind KB, one image for each accepted state.
use Rattle.std.specs.Prelude.{ℕ, ◌-◌, Bool, false, cond, ◌&&◌, List, [], ◌∷◌, ◌++◌, length, get_or, take, drop, eqb}
use Rattle.octets.specs.Octets.{le32_of, bytes32}
use Rattle.keyboard.specs.declared.Keyboard.{Keyboard}
use Rattle.keyboard.specs.State.{accepted_of}

abbrev pub image_length : ℕ
image_length = 18

-- "A record is a length (2 bytes, counting what follows it), a kind (2 bytes), a body." K is 75, B 66. Then the model, how many codes are held, the
-- eight places, and the VIA ticks until a waiting Inquiry answers Null.
unfoldable pub image_of : Keyboard → List ℕ
image_of k = ((image_length - 2) ∷ 0 ∷ 75 ∷ 66 ∷ k.model ∷ k.held ∷ []) ++ k.codes ++ bytes32 k.left

-- How it is read.
unfoldable pub keyboard_of : List ℕ → Keyboard
keyboard_of s = record { model = get_or s 4 0; held = get_or s 5 0; codes = take 8 (drop 6 s); left = le32_of s 14 }

abbrev pub headed : List ℕ → Bool
headed s = eqb (get_or s 0 0) (image_length - 2) && (eqb (get_or s 1 0) 0 && (eqb (get_or s 2 0) 75 && eqb (get_or s 3 0) 66))

-- The right length, the right head, and a state in its ranges.
unfoldable pub valid_image : List ℕ → Bool
valid_image s = cond (eqb (length s) image_length) (headed s && accepted_of (keyboard_of s)) false
