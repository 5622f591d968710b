-- Where a Null comes, from the events alone but for the codes held: request W-210, "Null once 195,840 VIA ticks pass with no key". Every list of events
-- has the newest first.
use Rattle.std.specs.Prelude.{ℕ, ◌+◌, ◌-◌, Bool, true, false, not, ◌&&◌, List, [], ◌∷◌, eqb, ltb, leb, Some, None, Ok, Err}
use Rattle.keyboard.specs.declared.Keyboard.{Keyboard}
use Rattle.keyboard.specs.declared.Reply.TheVariants.{Code, Null, Model, Ack}
use Rattle.keyboard.specs.State.{codes_of}
use Rattle.keyboard.specs.Numbers.{Response}
use Rattle.keyboard_history.specs.Events.{Event, command, key, wait, keyboard_after}

abbrev pub is_null : Response → Bool
is_null (Ok (Some (Code c))) = false
is_null (Ok (Some Null)) = true
is_null (Ok (Some (Model m))) = false
is_null (Ok (Some Ack)) = false
is_null (Ok None) = false
is_null (Err e) = false

abbrev pub none : List ℕ → Bool
none [] = true
none (x ∷ xs) = false

-- The last key or command is an Inquiry with no code held. At the start: one waits.
unfoldable pub inquiry_open : Keyboard → List Event → Bool
inquiry_open k [] = not (eqb k.left 0)
inquiry_open k (command byte ∷ es) = eqb byte 16 && none (codes_of (keyboard_after k es))
inquiry_open k (key code ∷ es) = false
inquiry_open k (wait n ∷ es) = inquiry_open k es

-- The VIA ticks since then, with no key and no command. At the start: those that it has waited.
unfoldable pub ticks_since : Keyboard → List Event → ℕ
ticks_since k [] = 195840 - k.left
ticks_since k (command byte ∷ es) = 0
ticks_since k (key code ∷ es) = 0
ticks_since k (wait n ∷ es) = ticks_since k es + n

-- Whether this event, after these, answers Null: a wait in which the 195,840 ticks since an Inquiry come to their end; an Instant with no code held; no key.
unfoldable pub null_at : Event → Keyboard → List Event → Bool
null_at (command byte) k es = eqb byte 20 && none (codes_of (keyboard_after k es))
null_at (key code) k es = false
null_at (wait n) k es = inquiry_open k es && (ltb (ticks_since k es) 195840 && leb 195840 (ticks_since k es + n))
