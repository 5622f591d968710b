-- The line is 1 in every phase but sending.
use mathlib.Core.Path.{◌≡◌, refl}
use mathlib.Core.Bool.{true}
use mathlib.Core.List.{List, [], ◌∷◌}
use Prim.Native.Nat.{ℕ}
use types.Run.{OneOf, miss}
use denote.Enum.Declared.{tag_of}
use Rattle.clock_spec.specs.contracts.Phase.{the_type}
use Rattle.clock_spec.specs.Phase.{shown_level}
use Rattle.clock_spec.specs.declared.Phase.{Phase}
use Rattle.clock_spec.specs.declared.Phase.TheVariants.{Idle, Listening, Sending, Ignoring}

abbrev not-sending : List ℕ
not-sending = 0 ∷ 1 ∷ 3 ∷ []

pub undriven : (p : Phase) → OneOf not-sending (tag_of the_type p) → true ≡ shown_level p
unfolding shown_level
undriven Idle h = refl
undriven (Listening bs n v) h = refl
undriven (Sending y n) h = absurd (miss not-sending 2 tt h)
undriven Ignoring h = refl
