-- Samples: a keyboard of model $0B through some events, the oldest first.
use Prim.Native.Nat.{ℕ}
use Rattle.std.specs.Prelude.{Some, None, Ok, Err}
use mathlib.Core.Path.{◌≡◌, refl}
use mathlib.Core.List.{List, [], ◌∷◌, reverse}
use Rattle.keyboard.specs.declared.Keyboard.{Keyboard}
use Rattle.refusal.specs.declared.Refusal.TheVariants.{NotAccepted, TooManyKeys}
use Rattle.keyboard.specs.declared.Reply.TheVariants.{Code, Null, Model, Ack}
use Rattle.keyboard.specs.Numbers.{Response, refusal_of, byte_of}
use Rattle.keyboard.specs.State.{codes_of, places, fresh_keyboard, all_zero, accepted_of}
use Rattle.keyboard.specs.Steps.{instant, inquiry, answer_to, command_of, key_of, ticks, wait_of}
use Rattle.keyboard_history.specs.Events.{Event, command, key, wait, step_of, keyboard_after, responses}

abbrev said : Keyboard → List Event → List Response
said k es = reverse (responses k (reverse es))

abbrev left : Keyboard → List Event → Keyboard
left k es = keyboard_after k (reverse es)

-- A keyboard with these codes in its places, and so many VIA ticks left.
abbrev with : ℕ → ℕ → ℕ → ℕ → Keyboard
with held first second ticks-left =
    record { model = 11; held = held; codes = first ∷ second ∷ 0 ∷ 0 ∷ 0 ∷ 0 ∷ 0 ∷ 0 ∷ []; left = ticks-left }

pub record Samples : Type 0 where
  -- Instant and Inquiry take the oldest; Model and Test drop none; a code may be $7B and is a code all the same.
  pub oldest : said (fresh_keyboard 11) (key 51 ∷ key 43 ∷ key 123 ∷ command 22 ∷ command 20 ∷ command 54 ∷ command 16 ∷ command 20 ∷ command 20 ∷ [])
      ≡ Ok None ∷ Ok None ∷ Ok None ∷ Ok (Some (Model 11)) ∷ Ok (Some (Code 51)) ∷ Ok (Some Ack) ∷ Ok (Some (Code 43)) ∷ Ok (Some (Code 123)) ∷ Ok (Some Null) ∷ []
  pub shifted : left (fresh_keyboard 11) (key 51 ∷ key 43 ∷ key 123 ∷ command 20 ∷ []) ≡ with 2 43 123 0
  -- An Inquiry with none held waits; the first key answers it and isn't kept, the next one is.
  pub waits : left (fresh_keyboard 11) (command 16 ∷ wait 3 ∷ []) ≡ with 0 0 0 195837
  pub answers : said (fresh_keyboard 11) (command 16 ∷ wait 3 ∷ key 51 ∷ key 43 ∷ wait 7 ∷ []) ≡ Ok None ∷ Ok None ∷ Ok (Some (Code 51)) ∷ Ok None ∷ Ok None ∷ []
  pub unkept : left (fresh_keyboard 11) (command 16 ∷ wait 3 ∷ key 51 ∷ key 43 ∷ wait 7 ∷ []) ≡ with 1 43 0 0
  -- Five ticks left: four say nothing, five answer Null, once.
  pub before : said (with 0 0 0 5) (wait 4 ∷ key 51 ∷ []) ≡ Ok None ∷ Ok (Some (Code 51)) ∷ []
  pub null : said (with 0 0 0 5) (wait 4 ∷ wait 1 ∷ wait 9 ∷ key 51 ∷ []) ≡ Ok None ∷ Ok (Some Null) ∷ Ok None ∷ Ok None ∷ []
  pub longer : said (with 0 0 0 5) (wait 7 ∷ []) ≡ Ok (Some Null) ∷ []
  -- Any command ends a waiting Inquiry, an unknown one ($11) too; an Inquiry again waits anew.
  pub ended : said (with 0 0 0 5) (command 17 ∷ wait 6 ∷ []) ≡ Ok None ∷ Ok None ∷ []
  pub ended-by-test : said (with 0 0 0 5) (command 54 ∷ wait 6 ∷ []) ≡ Ok (Some Ack) ∷ Ok None ∷ []
  pub anew : left (with 0 0 0 5) (command 16 ∷ wait 2 ∷ []) ≡ with 0 0 0 195838
  -- Eight codes are kept; a ninth is refused, and is not among those that come out.
  pub ninth : said (fresh_keyboard 11) (key 1 ∷ key 2 ∷ key 3 ∷ key 4 ∷ key 5 ∷ key 6 ∷ key 7 ∷ key 8 ∷ key 9 ∷ command 20 ∷ key 10 ∷ command 16 ∷ [])
      ≡ Ok None ∷ Ok None ∷ Ok None ∷ Ok None ∷ Ok None ∷ Ok None ∷ Ok None ∷ Ok None ∷ Err TooManyKeys ∷ Ok (Some (Code 1)) ∷ Ok None ∷ Ok (Some (Code 2)) ∷ []
  -- Out of range: an Inquiry that waits beside a code; a place not in use that holds no 0; 195,841 VIA ticks left.
  pub beside : said (with 1 51 0 5) (command 20 ∷ key 9 ∷ wait 2 ∷ []) ≡ Err NotAccepted ∷ Err NotAccepted ∷ Err NotAccepted ∷ []
  pub beside-kept : left (with 1 51 0 5) (command 20 ∷ key 9 ∷ wait 2 ∷ []) ≡ with 1 51 0 5
  pub unused : said (with 1 51 43 0) (command 20 ∷ []) ≡ Err NotAccepted ∷ []
  pub too_long : said (with 0 0 0 195841) (wait 1 ∷ []) ≡ Err NotAccepted ∷ []
  pub longest : said (with 0 0 0 195840) (wait 1 ∷ []) ≡ Ok None ∷ []
  pub nine : said (with 9 0 0 0) (wait 1 ∷ []) ≡ Err NotAccepted ∷ []
  -- The papers' numbers.
  pub numbers : refusal_of (Err TooManyKeys) ∷ refusal_of (Err NotAccepted) ∷ byte_of (Ok (Some Null)) ∷ byte_of (Ok (Some Ack)) ∷ byte_of (Ok (Some (Code 51))) ∷ byte_of (Ok (Some (Model 11))) ∷ [] ≡ 11 ∷ 7 ∷ 123 ∷ 125 ∷ 51 ∷ 11 ∷ []

pub samples : Samples
unfolding refusal_of byte_of codes_of places all_zero accepted_of instant inquiry answer_to command_of key_of ticks wait_of step_of keyboard_after responses
samples =
    record {
      oldest = refl;
      shifted = refl;
      waits = refl;
      answers = refl;
      unkept = refl;
      before = refl;
      null = refl;
      longer = refl;
      ended = refl;
      ended-by-test = refl;
      anew = refl;
      ninth = refl;
      beside = refl;
      beside-kept = refl;
      unused = refl;
      too_long = refl;
      longest = refl;
      nine = refl;
      numbers = refl;
    }
