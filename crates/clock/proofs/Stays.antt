-- Phases that an edge leaves as they are, by the tag of the phase.
use mathlib.Core.Path.{◌≡◌, refl}
use mathlib.Core.Bool.{Bool}
use mathlib.Core.List.{List, [], ◌∷◌}
use Prim.Native.Nat.{ℕ}
use types.Run.{OneOf, miss}
use denote.Enum.Declared.{tag_of}
use Rattle.clock_spec.specs.Store.{act}
use Rattle.clock_spec.specs.contracts.Phase.{the_type}
use Rattle.clock_spec.specs.declared.Phase.{Phase}
use Rattle.clock_spec.specs.declared.Phase.TheVariants.{Idle, Listening, Sending, Ignoring}
use Rattle.clock_spec.specs.declared.Edge.TheVariants.{Fall, Rise}
use Rattle.clock.specs.Step.{with_phase, next, acts, after_edge}
use Rattle.clock.specs.declared.Clock.{Clock}

abbrev not-sending : List ℕ
not-sending = 0 ∷ 1 ∷ 3 ∷ []

abbrev not-counting : List ℕ
not-counting = 0 ∷ 2 ∷ 3 ∷ []

pub fall-stays : (c : Clock) → OneOf not-sending (tag_of the_type c.phase) → c ≡ after_edge c Fall
unfolding after_edge next acts act
fall-stays c h = go c.phase h
  where
    go : (p : Phase) → OneOf not-sending (tag_of the_type p) → with_phase c p ≡ after_edge (with_phase c p) Fall
    go Idle h = refl
    go (Listening bs n v) h = refl
    go (Sending y n) h = absurd (miss not-sending 2 tt h)
    go Ignoring h = refl

pub rise-stays : (c : Clock) (b : Bool) → OneOf not-counting (tag_of the_type c.phase) → c ≡ after_edge c (Rise b)
unfolding after_edge next acts act
rise-stays c b h = go c.phase h
  where
    go : (p : Phase) → OneOf not-counting (tag_of the_type p) → with_phase c p ≡ after_edge (with_phase c p) (Rise b)
    go Idle h = refl
    go (Listening bs n v) h = absurd (miss not-counting 1 tt h)
    go (Sending y n) h = refl
    go Ignoring h = refl
