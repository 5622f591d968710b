-- What an accepted phase says, part by part.
use mathlib.Core.Path.{◌≡◌}
use mathlib.Core.Bool.{Bool, true, false, not, ◌&&◌}
use Prim.Native.Nat.{ℕ, ◌^◌, ◌<◌}
use lib.Dec.{ltb}
use borrow.Author.Tests.{ltb-true, not-true}
use Rattle.levels.proofs.Laws.{both}
use Rattle.clock_spec.specs.Phase.{hear, is_more, few_bits, more_follows, accepted_phase}
use Rattle.clock_spec.proofs.PhaseRange.{few-count, few-value}
use Rattle.clock_spec.specs.declared.Chip.{Chip}
use Rattle.clock_spec.specs.declared.Bytes.{Bytes}
use Rattle.clock_spec.specs.declared.Bytes.TheVariants.{Nothing, One, Two}
use Rattle.clock_spec.specs.declared.Phase.{Phase}
use Rattle.clock_spec.specs.declared.Phase.TheVariants.{Idle, Listening, Sending, Ignoring}
use Rattle.history.proofs.Bits.{AllBytes}

-- The chip is idle exactly while enable, e, is 1; n bits taken have a value below 2 ^ n.
abbrev pub Parts : Phase → Bool → Type 0
Parts Idle e = e ≡ true
Parts (Listening bs n v) e = (e ≡ false) × AllBytes bs × (n < 8) × (v < 2 ^ n)
Parts (Sending y n) e = (e ≡ false) × (n < 9)
Parts Ignoring e = e ≡ false

follows-bytes : (k : Chip) (bs : Bytes) → more_follows k bs ≡ true → AllBytes bs
unfolding more_follows
follows-bytes k Nothing h = tt
follows-bytes k (One c) h = ltb-true c 256 (both (ltb c 256) (is_more (hear k Nothing c)) h).0
follows-bytes k (Two c d) h =
    let p = both (ltb c 256) (ltb d 256) (both (ltb c 256 && ltb d 256) (is_more (hear k (One c) d)) h).0 in
    (ltb-true c 256 p.0, ltb-true d 256 p.1)

pub parts : (k : Chip) (p : Phase) (e : Bool) → accepted_phase k p e ≡ true → Parts p e
unfolding accepted_phase
parts k Idle e h = h
parts k (Listening bs n v) e h =
    let r : (more_follows k bs && few_bits n v) ≡ true = (both (not e) (more_follows k bs && few_bits n v) h).1 in
    let f : few_bits n v ≡ true = (both (more_follows k bs) (few_bits n v) r).1 in (
      not-true e (both (not e) (more_follows k bs && few_bits n v) h).0,
      follows-bytes k bs (both (more_follows k bs) (few_bits n v) r).0,
      few-count n v f,
      few-value n v f,
    )
parts k (Sending y n) e h = (not-true e (both (not e) (ltb n 9) h).0, ltb-true n 9 (both (not e) (ltb n 9) h).1)
parts k Ignoring e h = not-true e h
