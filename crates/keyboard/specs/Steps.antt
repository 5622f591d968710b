-- What a command byte, a key code and a wait do, by request W-210 and source document 000. Time is in VIA ticks.
use Rattle.std.specs.Prelude.{ℕ, zero, suc, ◌-◌, Bool, true, false, cond, List, [], ◌∷◌, ◌++◌, eqb, Some, None, Ok, Err}
use Rattle.keyboard.specs.declared.Keyboard.{Keyboard}
use Rattle.refusal.specs.declared.Refusal.TheVariants.{NotAccepted, TooManyKeys}
use Rattle.keyboard.specs.declared.Reply.TheVariants.{Code, Null, Model, Ack}
use Rattle.keyboard.specs.State.{codes_of, with_codes, with_left, accepted_of}
use Rattle.keyboard.specs.Numbers.{Response}

-- The keyboard after a step, and its response.
pub record Stepped : Type 0 where
  pub keyboard : Keyboard
  pub response : Response

abbrev pub respond : Keyboard → Response → Stepped
respond k r = record { keyboard = k; response = r }

-- "a state outside its ranges in docs/ is 7 and checked first, and both change nothing"
abbrev pub if_accepted : Keyboard → Stepped → Stepped
if_accepted k s = cond (accepted_of k) s (respond k (Err NotAccepted))

-- ---- a command byte

-- "answers and drops the oldest code held, else .."
abbrev pub oldest_else : Stepped → List ℕ → Keyboard → Stepped
oldest_else other [] k = other
oldest_else other (c ∷ cs) k = respond (with_codes k cs) (Ok (Some (Code c)))

-- "Instant ($14) answers and drops the oldest code held, else Null ($7B)"
unfoldable pub instant : Keyboard → Stepped
instant k = oldest_else (respond k (Ok (Some Null))) (codes_of k) k

-- "Inquiry ($10) too, but with none held it answers the first key that comes, which isn't kept, or Null once 195,840 VIA ticks
-- pass with no key"
unfoldable pub inquiry : Keyboard → Stepped
inquiry k = oldest_else (respond (with_left k 195840) (Ok None)) (codes_of k) k

-- "Model ($16) a byte set at the making; Test ($36) $7D"; "Model and Test drop no code; other command bytes get no answer".
unfoldable pub answer_to : ℕ → Keyboard → Stepped
answer_to byte k =
    cond (eqb byte 16) (inquiry k)
    (cond (eqb byte 20) (instant k)
    (cond (eqb byte 22) (respond k (Ok (Some (Model k.model))))
    (cond (eqb byte 54) (respond k (Ok (Some Ack)))
    (respond k (Ok None)))))

-- "any command ends a waiting Inquiry"
unfoldable pub command_of : ℕ → Keyboard → Stepped
command_of byte k = if_accepted k (answer_to byte (with_left k 0))

-- ---- a key code

-- Given whether no Inquiry waits, and whether 8 codes are held. A waiting Inquiry "answers the first key that comes, which isn't kept";
-- "It keeps up to 8 key codes in order; a ninth is refusal 11".
abbrev pub key_by : Bool → Bool → ℕ → Keyboard → Stepped
key_by false full code k = respond (with_left k 0) (Ok (Some (Code code)))
key_by true true code k = respond k (Err TooManyKeys)
key_by true false code k = respond (with_codes k (codes_of k ++ (code ∷ []))) (Ok None)

unfoldable pub key_of : ℕ → Keyboard → Stepped
key_of code k = if_accepted k (key_by (eqb k.left 0) (eqb k.held 8) code k)

-- ---- time

-- One tick, given whether no Inquiry waits, and whether this is the last tick of its 195,840: "Null once 195,840 VIA ticks pass".
abbrev pub tick_by : Bool → Bool → Stepped → Stepped
tick_by true last s = s
tick_by false true s = respond (with_left s.keyboard 0) (Ok (Some Null))
tick_by false false s = respond (with_left s.keyboard (s.keyboard.left - 1)) s.response

abbrev pub tick : Stepped → Stepped
tick s = tick_by (eqb s.keyboard.left 0) (eqb s.keyboard.left 1) s

-- n ticks, one after the other.
unfoldable pub ticks : ℕ → Stepped → Stepped
ticks zero s = s
ticks (suc n) s = tick (ticks n s)

unfoldable pub wait_of : ℕ → Keyboard → Stepped
wait_of n k = if_accepted k (ticks n (respond k (Ok None)))
