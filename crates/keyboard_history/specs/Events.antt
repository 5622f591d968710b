-- Events one after the other, by request W-210: "command bytes, key codes and waits go in; answer bytes come out". Every list of events has the
-- newest first; lists of codes have the oldest first. Time is in VIA ticks.
use Rattle.std.specs.Prelude.{ℕ, cond, List, [], ◌∷◌, ◌++◌, eqb, Some, None, Ok, Err}
use Rattle.keyboard.specs.declared.Keyboard.{Keyboard}
use Rattle.keyboard.specs.declared.Reply.TheVariants.{Code, Null, Model, Ack}
use Rattle.keyboard.specs.Numbers.{Response, refusal_of}
use Rattle.keyboard.specs.Steps.{Stepped, respond, command_of, key_of, wait_of}

pub data Event : Type 0 where
  command : ℕ → Event
  key : ℕ → Event
  wait : ℕ → Event

unfoldable pub step_of : Event → Keyboard → Stepped
step_of (command byte) k = command_of byte k
step_of (key code) k = key_of code k
step_of (wait n) k = wait_of n k

-- The keyboard after these events.
unfoldable pub keyboard_after : Keyboard → List Event → Keyboard
keyboard_after k [] = k
keyboard_after k (e ∷ es) = (step_of e (keyboard_after k es)).keyboard

-- The response to an event that comes after these.
abbrev pub response_to : Event → Keyboard → List Event → Response
response_to e k es = (step_of e (keyboard_after k es)).response

-- The responses to these, the newest first.
unfoldable pub responses : Keyboard → List Event → List Response
responses k [] = []
responses k (e ∷ es) = response_to e k es ∷ responses k es

-- ---- the key codes that came in, and those that went out

-- A key that is not refused came in.
abbrev pub code_in : Event → Response → List ℕ
code_in (key code) r = cond (eqb (refusal_of r) 0) (code ∷ []) []
code_in (command byte) r = []
code_in (wait n) r = []

unfoldable pub codes_in : Keyboard → List Event → List ℕ
codes_in k [] = []
codes_in k (e ∷ es) = codes_in k es ++ code_in e (response_to e k es)

-- A response that is a key code went out.
abbrev pub code_out : Response → List ℕ
code_out (Ok (Some (Code c))) = c ∷ []
code_out (Ok (Some Null)) = []
code_out (Ok (Some (Model m))) = []
code_out (Ok (Some Ack)) = []
code_out (Ok None) = []
code_out (Err e) = []

unfoldable pub codes_out : Keyboard → List Event → List ℕ
codes_out k [] = []
codes_out k (e ∷ es) = codes_out k es ++ code_out (response_to e k es)

-- ---- a wait cut in two

-- What the two parts say together: the first part's response, or the second's where the first says nothing.
abbrev pub or_else : Response → Response → Response
or_else (Ok (Some a)) r = Ok (Some a)
or_else (Ok None) r = r
or_else (Err e) r = Err e

abbrev pub both_waits : Stepped → Stepped → Stepped
both_waits s t = respond t.keyboard (or_else s.response t.response)
