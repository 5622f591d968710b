-- The keyboard's state, by request W-210: the key codes held, a waiting Inquiry, the model.
use Rattle.std.specs.Prelude.{ℕ, ◌-◌, Bool, true, ◌&&◌, ◌||◌, List, [], ◌∷◌, ◌++◌, length, take, drop, replicate, eqb, leb}
use Rattle.keyboard.specs.declared.Keyboard.{Keyboard}

-- ---- the codes as a list, the oldest first

-- "It keeps up to 8 key codes in order".
unfoldable pub codes_of : Keyboard → List ℕ
codes_of k = take k.held k.codes

-- Eight places: the codes, and 0 where no code is ("room not in use holds 0").
unfoldable pub places : List ℕ → List ℕ
places codes = codes ++ replicate (8 - length codes) 0

-- ---- the state, field by field

abbrev pub with_codes : Keyboard → List ℕ → Keyboard
with_codes k codes = record { model = k.model; held = length codes; codes = places codes; left = k.left }

-- The VIA ticks until a waiting Inquiry answers Null; 0: none waits.
abbrev pub with_left : Keyboard → ℕ → Keyboard
with_left k left = record { model = k.model; held = k.held; codes = k.codes; left = left }

-- No code held, no Inquiry waiting; "a byte set at the making".
abbrev pub fresh_keyboard : ℕ → Keyboard
fresh_keyboard model = record { model = model; held = 0; codes = replicate 8 0; left = 0 }

-- ---- the ranges

unfoldable pub all_zero : List ℕ → Bool
all_zero [] = true
all_zero (x ∷ xs) = eqb x 0 && all_zero xs

-- 0 to 8 codes, the other places 0; at most 195,840 VIA ticks left; an Inquiry waits only with no code held.
unfoldable pub accepted_of : Keyboard → Bool
accepted_of k =
    leb k.held 8
    && (all_zero (drop k.held k.codes) && (leb k.left 195840 && (eqb k.left 0 || eqb k.held 0)))
