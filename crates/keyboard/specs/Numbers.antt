-- The papers' numbers for a response: the refusals of request W-210, the bytes of source document 000.
use Rattle.std.specs.Prelude.{ℕ, Bool, true, false, Option, Some, None, Result, Ok, Err}
use Rattle.refusal.specs.declared.Refusal.{Refusal}
use Rattle.refusal.specs.Numbers.{number_of}
use Rattle.keyboard.specs.declared.Reply.{Reply}
use Rattle.keyboard.specs.declared.Reply.TheVariants.{Code, Null, Model, Ack}

-- What comes out: an answer, none, or a refusal.
abbrev pub Response : Type 0
Response = Result (Option Reply) Refusal

-- "a ninth is refusal 11, a state outside its ranges in docs/ is 7": `number_of` has these.
unfoldable pub refusal_of : Response → ℕ
refusal_of (Ok r) = 0
refusal_of (Err e) = number_of e

-- Whether "answer bytes come out".
unfoldable pub answers_of : Response → Bool
answers_of (Ok (Some r)) = true
answers_of (Ok None) = false
answers_of (Err e) = false

-- "Null ($7B)"; "ACK ($7D)"; 0 where there is no byte.
unfoldable pub byte_of : Response → ℕ
byte_of (Ok (Some (Code c))) = c
byte_of (Ok (Some Null)) = 123
byte_of (Ok (Some (Model m))) = m
byte_of (Ok (Some Ack)) = 125
byte_of (Ok None) = 0
byte_of (Err e) = 0
