-- The data line. The level after an item may hang on what the chip then shows; a step finds it by what the chip shows before.
-- Where the chip takes the bit the two are the same, so the step is the same by either.
use mathlib.Core.Path.{◌≡◌, refl, ap, ap₂}
use mathlib.Core.Bool.{Bool, true, false, cond}
use mathlib.Core.Option.{Option}
use Prim.Native.Nat.{ℕ, ◌+◌, ◌*◌}
use lib.Dec.{eqb}
use Rattle.clock_spec.specs.Command.{bit_number}
use Rattle.clock_spec.specs.Shared.{Written}
use Rattle.clock_spec.specs.Store.{act}
use Rattle.clock_spec.specs.Phase.{edge_of, between, with_line, hear, byte_phase, shown_level}
use Rattle.clock.specs.Step.{next, acts, step_wires}
use Rattle.clock_spec.specs.declared.Bytes.{Bytes}
use Rattle.clock_spec.specs.declared.Verdict.{Verdict}
use Rattle.clock_spec.specs.declared.Verdict.TheVariants.{More, Reads, Writes, Ignored}
use Rattle.clock_spec.specs.declared.Phase.{Phase}
use Rattle.clock_spec.specs.declared.Phase.TheVariants.{Idle, Listening, Sending, Ignoring}
use Rattle.clock_spec.specs.declared.Wires.{Wires}
use Rattle.clock_spec.specs.declared.Store.{Store}
use Rattle.clock.specs.declared.Clock.{Clock}

byte-shown : (s : Store) (bs : Bytes) (b : ℕ) (v : Verdict) → shown_level (byte_phase s bs b v) ≡ true
unfolding shown_level
byte-shown s bs b More = refl
byte-shown s bs b (Reads t) = refl
byte-shown s bs b (Writes t) = refl
byte-shown s bs b Ignored = refl

bit-shown : (s : Store) (bs : Bytes) (n b : ℕ) (v : Verdict) (t : Bool) → shown_level (cond t (byte_phase s bs b v) (Listening bs (n + 1) b)) ≡ true
unfolding shown_level
bit-shown s bs n b v true = byte-shown s bs b v
bit-shown s bs n b v false = refl

-- The phase after the levels, where `level` gives the line's level by what the chip shows.
abbrev pub after : Store → (Bool → Bool) → Bool → Bool → Bool → Bool → Phase → Phase
after s level e' e c c' p = next s p (edge_of e' e c c' (level (shown_level p)))

pub settled : (s : Store) (level : Bool → Bool) (p : Phase) (e' e c c' : Bool)
    → (next s p (edge_of e' e c c' (level (shown_level (after s level e' e c c' p)))) ≡ after s level e' e c c' p)
    × (acts s.chip p (edge_of e' e c c' (level (shown_level (after s level e' e c c' p)))) ≡ acts s.chip p (edge_of e' e c c' (level (shown_level p))))
unfolding next acts shown_level
settled s level p true e c c' = (refl, refl)
settled s level p false true c c' = (refl, refl)
settled s level p false false false false = (refl, refl)
settled s level p false false true false = (refl, refl)
settled s level p false false true true = (refl, refl)
settled s level Idle false false false true = (refl, refl)
settled s level (Listening bs n v) false false false true =
    let w = 2 * v + bit_number (level true) in
    let q = bit-shown s bs n w (hear s.chip bs w) (eqb n 7) in (
      ap (λ (x : Bool). next s (Listening bs n v) (edge_of false false false true (level x))) q,
      ap (λ (x : Bool). acts s.chip (Listening bs n v) (edge_of false false false true (level x))) q,
    )
settled s level (Sending y n) false false false true = (refl, refl)
settled s level Ignoring false false false true = (refl, refl)

abbrev joined_to : Store → Phase → Option Written → Clock
joined_to s p o = record { phase = p; store = act o s }

-- The same of the clock's step: the line by the phase before it, or by the phase after it.
pub settled-step : (c : Clock) (w w' : Wires) (level : Bool → Bool)
    → step_wires c w (with_line w' (level (shown_level (step_wires c w (with_line w' (level (shown_level c.phase)))).phase)))
    ≡ step_wires c w (with_line w' (level (shown_level c.phase)))
unfolding step_wires between
settled-step c w w' level =
    let q = settled c.store level c.phase w'.enable w.enable w.dataclock w'.dataclock in
    ap₂ (λ (p : Phase) (o : Option Written). joined_to c.store p o) q.0 q.1

-- The level of the data line before an item makes no difference.
pub before-line : (c : Clock) (w w' : Wires) (d : Bool) → step_wires c (with_line w d) w' ≡ step_wires c w w'
unfolding step_wires between
before-line c w w' d = refl
