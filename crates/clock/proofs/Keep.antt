-- The step keeps an accepted state accepted, keeps the chip's size and the cells not in use, and wires that stay as they are change nothing.
use mathlib.Core.Path.{◌≡◌, refl, ap, ap₂, ◌∙◌}
use mathlib.Core.Bool.{Bool, true, false, cond, ◌&&◌, false≢true}
use mathlib.Core.Option.{Option, none}
use Prim.Native.Nat.{ℕ, suc, ◌+◌, ◌*◌, ◌^◌, ◌<◌}
use native.Mathlib.Omega.{arith}
use native.Mathlib.Numerals.{add-one}
use lib.Dec.{ltb, eqb}
use borrow.Author.Tests.{ltb-true, lt-ltb, eqb-false}
use Rattle.clock_spec.specs.Command.{bit_number}
use Rattle.clock_spec.specs.Shared.{Written}
use Rattle.clock_spec.specs.Patterns.{meant, extend}
use Rattle.clock_spec.specs.Store.{unused_clear, act}
use Rattle.clock_spec.specs.Phase.{edge_of, between, by_first, by_third, hear, with_byte, byte_phase, is_more, few_bits, more_follows, accepted_phase}
use Rattle.clock.specs.Step.{next, acts, step_wires}
use Rattle.clock_spec.specs.declared.Chip.{Chip}
use Rattle.clock_spec.specs.declared.Command.{Command}
use Rattle.clock_spec.specs.declared.Command.TheVariants.{Write, Read, Extended, Illegal}
use Rattle.clock_spec.specs.declared.Bytes.{Bytes}
use Rattle.clock_spec.specs.declared.Bytes.TheVariants.{Nothing, One, Two}
use Rattle.clock_spec.specs.declared.Verdict.{Verdict}
use Rattle.clock_spec.specs.declared.Verdict.TheVariants.{More, Reads, Writes, Ignored}
use Rattle.clock_spec.specs.declared.Phase.{Phase}
use Rattle.clock_spec.specs.declared.Phase.TheVariants.{Idle, Listening, Sending, Ignoring}
use Rattle.clock_spec.specs.declared.Edge.{Edge}
use Rattle.clock_spec.specs.declared.Edge.TheVariants.{Up, Starts, Still, Fall, Rise}
use Rattle.clock_spec.specs.declared.Wires.{Wires}
use Rattle.clock_spec.specs.declared.Store.{Store}
use Rattle.clock.specs.declared.Clock.{Clock}
use Rattle.clock_spec.proofs.CommandRange.{bit_le, cond-case, Ranged, hear-sound, written-ranged}
use Rattle.clock_spec.proofs.PhaseRange.{few-count, few-value, few-small}
use Rattle.clock_spec.proofs.Places.{act-chip, act-unused}
use Rattle.levels.proofs.Laws.{both, joined}

-- ---- the phase

-- A third byte is the last.
pub third_last : (c : Command) → is_more (by_third c) ≡ true → ⊥
third_last (Write t) h = false≢true h
third_last (Read t) h = false≢true h
third_last (Extended z a) h = false≢true h
third_last Illegal h = false≢true h

-- Bytes that another one follows, with the byte b that another follows too.
follows-more : (k : Chip) (bs : Bytes) (b : ℕ) → more_follows k bs ≡ true → b < 256 → is_more (hear k bs b) ≡ true → more_follows k (with_byte bs b) ≡ true
unfolding more_follows hear
follows-more k Nothing b f l m = joined (ltb b 256) (is_more (by_first (meant k b))) (lt-ltb b 256 l) m
follows-more k (One c) b f l m =
    let i : ltb c 256 ≡ true = (both (ltb c 256) (is_more (by_first (meant k c))) f).0 in
    joined (ltb c 256 && ltb b 256) (is_more (hear k (One c) b)) (joined (ltb c 256) (ltb b 256) i (lt-ltb b 256 l)) m
follows-more k (Two c d) b f l m = absurd (third_last (extend (meant k c) d) m)

byte-ok : (k : Chip) (s : Store) (bs : Bytes) (b : ℕ) (v : Verdict) → hear k bs b ≡ v → more_follows k bs ≡ true → b < 256
    → accepted_phase k (byte_phase s bs b v) false ≡ true
unfolding accepted_phase
byte-ok k s bs b More e f l = joined (more_follows k (with_byte bs b)) true (follows-more k bs b f l (ap is_more e)) refl
byte-ok k s bs b (Reads t) e f l = refl
byte-ok k s bs b (Writes t) e f l = refl
byte-ok k s bs b Ignored e f l = refl

-- One bit more.
few-more : (n v : ℕ) (b : Bool) → few_bits n v ≡ true → eqb n 7 ≡ false → few_bits (n + 1) (2 * v + bit_number b) ≡ true
few-more n v b h e =
    let l : n < 8 = few-count n v h in
    let u : v < 2 ^ n = few-value n v h in
    let x : 2 * v + bit_number b < 2 ^ suc n = omega (arith, bit_le b) in
    joined (ltb (n + 1) 8) (ltb (2 * v + bit_number b) (2 ^ (n + 1))) (lt-ltb (n + 1) 8 (omega (arith, eqb-false n 7 e)))
    (lt-ltb (2 * v + bit_number b) (2 ^ (n + 1)) (rw add-one x))

bit_ok : (s : Store) (bs : Bytes) (n v : ℕ) (b t : Bool) → eqb n 7 ≡ t → (more_follows s.chip bs && few_bits n v) ≡ true
    → let w = 2 * v + bit_number b in accepted_phase s.chip (cond t (byte_phase s bs w (hear s.chip bs w)) (Listening bs (n + 1) w)) false ≡ true
unfolding accepted_phase
bit_ok s bs n v b true e h =
    let p = both (more_follows s.chip bs) (few_bits n v) h in
    byte-ok s.chip s bs (2 * v + bit_number b) (hear s.chip bs (2 * v + bit_number b)) refl p.0 (omega (arith, few-small n v p.1, bit_le b))
bit_ok s bs n v b false e h =
    let p = both (more_follows s.chip bs) (few_bits n v) h in
    joined (more_follows s.chip bs) (few_bits (n + 1) (2 * v + bit_number b)) p.0 (few-more n v b p.1 e)

fall-ok : (k : Chip) (y n : ℕ) (t : Bool) → eqb n 8 ≡ t → ltb n 9 ≡ true → accepted_phase k (cond t Ignoring (Sending y (n + 1))) false ≡ true
unfolding accepted_phase
fall-ok k y n true e h = refl
fall-ok k y n false e h = lt-ltb (n + 1) 9 (omega (arith, eqb-false n 8 e, ltb-true n 9 h))

pub keeps : (s : Store) (p : Phase) (e' e c c' d : Bool) → accepted_phase s.chip p e ≡ true
    → accepted_phase s.chip (next s p (edge_of e' e c c' d)) e' ≡ true
unfolding next accepted_phase more_follows
keeps s p true e c c' d h = refl
keeps s p false true c c' d h = refl
keeps s p false false false false d h = h
keeps s p false false true true d h = h
keeps s Idle false false true false d h = h
keeps s (Listening bs n v) false false true false d h = h
keeps s (Sending y n) false false true false d h = fall-ok s.chip y n (eqb n 8) refl h
keeps s Ignoring false false true false d h = h
keeps s Idle false false false true d h = h
keeps s (Listening bs n v) false false false true d h = bit_ok s bs n v d (eqb n 7) refl h
keeps s (Sending y n) false false false true d h = h
keeps s Ignoring false false false true d h = h

-- ---- the store

-- A write that is complete is in the chip's range.
acts-ranged : (k : Chip) (p : Phase) (e : Edge) → Ranged k (acts k p e)
unfolding acts
acts-ranged k p Up = tt
acts-ranged k p Starts = tt
acts-ranged k p Still = tt
acts-ranged k p Fall = tt
acts-ranged k Idle (Rise b) = tt
acts-ranged k (Listening bs n v) (Rise b) =
    let w = 2 * v + bit_number b in
    cond-case (Ranged k) (eqb n 7) (λ e. written-ranged k (hear k bs w) w (hear-sound k bs w)) (λ e. tt)
acts-ranged k (Sending y n) (Rise b) = tt
acts-ranged k Ignoring (Rise b) = tt

-- The step changes neither which chip it is nor the cells that it does not have.
pub step-chip : (c : Clock) (w w' : Wires) → (step_wires c w w').store.chip ≡ c.store.chip
unfolding step_wires
step-chip c w w' = act-chip (acts c.store.chip c.phase (between w w')) c.store

pub step-unused : (c : Clock) (w w' : Wires) → unused_clear (step_wires c w w').store ≡ unused_clear c.store
unfolding step_wires
step-unused c w w' =
    act-unused (acts c.store.chip c.phase (between w w')) c.store (acts-ranged c.store.chip c.phase (between w w'))

pub keeps-step : (c : Clock) (w w' : Wires) → accepted_phase c.store.chip c.phase w.enable ≡ true
    → accepted_phase (step_wires c w w').store.chip (step_wires c w w').phase w'.enable ≡ true
unfolding step_wires between
keeps-step c w w' h =
    ap (λ (k : Chip). accepted_phase k (step_wires c w w').phase w'.enable) (step-chip c w w')
    ∙ keeps c.store c.phase w'.enable w.enable w.dataclock w'.dataclock w'.dataline h

-- ---- wires that stay

still-phase : (k : Chip) (s : Store) (p : Phase) (e c d : Bool) → accepted_phase k p e ≡ true → next s p (edge_of e e c c d) ≡ p
unfolding next accepted_phase
still-phase k s Idle true c d h = refl
still-phase k s (Listening bs n v) true c d h = absurd (false≢true h)
still-phase k s (Sending y n) true c d h = absurd (false≢true h)
still-phase k s Ignoring true c d h = absurd (false≢true h)
still-phase k s p false true d h = refl
still-phase k s p false false d h = refl

still-acts : (k : Chip) (p : Phase) (e c d : Bool) → acts k p (edge_of e e c c d) ≡ none
unfolding acts
still-acts k p true c d = refl
still-acts k p false true d = refl
still-acts k p false false d = refl

-- Wires that stay as they are change nothing.
pub still : (c : Clock) (w : Wires) → accepted_phase c.store.chip c.phase w.enable ≡ true → step_wires c w w ≡ c
unfolding step_wires between act
still c w h =
    ap₂ (λ (p : Phase) (o : Option Written). stepped p o)
    (still-phase c.store.chip c.store c.phase w.enable w.dataclock w.dataline h)
    (still-acts c.store.chip c.phase w.enable w.dataclock w.dataline)
  where
    stepped : Phase → Option Written → Clock
    stepped p o = record { phase = p; store = act o c.store }
