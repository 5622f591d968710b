-- A complete write's byte is below 256, and where it goes to a seconds byte this is one of 0 to 3; so the seconds stay below 2 ^ 32.
use mathlib.Core.Bool.{Bool}
use mathlib.Core.List.{List, [], ◌∷◌}
use mathlib.Core.Option.{Option, none, some}
use Prim.Native.Nat.{ℕ, zero, suc, ◌+◌, ◌^◌, ◌<◌}
use native.Mathlib.Omega.{arith}
use native.Mathlib.Nat.{mod-lt}
use lib.Dec.{eqb}
use lib.ListN.{length, take, drop}
use Rattle.clock_spec.specs.Command.{num, TargetInRange, Legal}
use Rattle.clock_spec.specs.Patterns.{meant, extend}
use Rattle.clock_spec.specs.Shared.{stops, Written, write_by, wrap}
use Rattle.clock_spec.specs.declared.Chip.{Chip}
use Rattle.clock_spec.specs.declared.Target.{Target}
use Rattle.clock_spec.specs.declared.Target.TheVariants.{Seconds, Test, Protect, Cell}
use Rattle.clock_spec.specs.declared.Command.{Command}
use Rattle.clock_spec.specs.declared.Command.TheVariants.{Write, Read, Extended, Illegal}
use Rattle.history.specs.History.{Start, History, is_rise, complete, complete_in, gain_unless, test_at, with_replaced, wires_at, rises, ending_at, protect_at, ending_clear, seconds_at}
use Rattle.octets.proofs.Laws.{replace-small}
use Rattle.clock_spec.proofs.CommandRange.{cond-case, Ranged, meant-legal, extend-legal}
use Rattle.history.proofs.Bits.{num-bound}

abbrev Fine : Chip → Option Written → Type 0
Fine k none = Unit {0}
Fine k (some w) = TargetInRange k w.to × (w.byte < 256)

write-fine : (k : Chip) (c : Command) (b : ℕ) → Legal k c → b < 256 → Fine k (write_by c b)
write-fine k (Write t) b l h = (l, h)
write-fine k (Read t) b l h = tt
write-fine k (Extended z a) b l h = tt
write-fine k Illegal b l h = tt

complete-fine : (k : Chip) (o : Option (List Bool)) → Fine k (complete_in k o)
complete-fine k none = tt
complete-fine k (some bs) =
    cond-case (Fine k) (eqb (length bs) 16)
    (λ e. write-fine k (meant k (num (drop 8 bs))) (num (take 8 bs)) (meant-legal k (num (drop 8 bs))) (num-bound 8 bs))
    λ n16.
    cond-case (Fine k) (eqb (length bs) 24)
    (λ e. write-fine k (extend (meant k (num (drop 16 bs))) (num (take 8 (drop 8 bs)))) (num (take 8 bs))
    (extend-legal k (meant k (num (drop 16 bs))) (num (take 8 (drop 8 bs))) (meant-legal k (num (drop 16 bs)))) (num-bound 8 bs))
    (λ e. tt)

ended-fine : (S : Start) (h : History) → Fine S.chip (ending_at S h)
unfolding ending_at
ended-fine S [] = tt
ended-fine S (e ∷ h) =
    cond-case (Fine S.chip) (is_rise (wires_at S h) e.wires) (λ q. complete-fine S.chip (rises S (e ∷ h))) (λ q. tt)

replaced-small : (k : Chip) (o : Option Written) (s : ℕ) → Fine k o → s < 2 ^ 32 → with_replaced o s < 2 ^ 32
replaced-small k none s f l = l
replaced-small k (some w) s f l = go w.to f.0
  where
    go : (t : Target) → TargetInRange k t → with_replaced (some (record { to = t; byte = w.byte })) s < 2 ^ 32
    go (Seconds n) r = replace-small n w.byte s r f.1 l
    go Test r = l
    go Protect r = l
    go (Cell i) r = l

pub seconds-small : (S : Start) (h : History) → S.seconds < 2 ^ 32 → seconds_at S h < 2 ^ 32
unfolding seconds_at ending_clear
seconds-small S [] l = l
seconds-small S (e ∷ h) l =
    replaced-small S.chip (ending_clear S (e ∷ h)) (wrap (seconds_at S h + gain_unless (stops (test_at S h)) e.event))
    (cond-case (Fine S.chip) (protect_at S h) (λ q. tt) (λ q. ended-fine S (e ∷ h)))
    (mod-lt (seconds_at S h + gain_unless (stops (test_at S h)) e.event) (omega arith))

-- A write that ends is in the chip's range.
pub ended-ranged : (S : Start) (h : History) → Ranged S.chip (ending_at S h)
ended-ranged S h = go (ending_at S h) (ended-fine S h)
  where
    go : (o : Option Written) → Fine S.chip o → Ranged S.chip o
    go none f = tt
    go (some w) f = f.0
