-- A write to a cell changes that cell and no other; no write changes which chip it is, nor the cells that the chip does not have.
use mathlib.Core.Path.{◌≡◌, refl, sym, ap, ◌∙◌}
use mathlib.Core.Bool.{Bool, true, false, cond}
use mathlib.Core.List.{List}
use mathlib.Core.Option.{Option, none, some}
use Prim.Native.Nat.{ℕ, ◌<◌}
use lib.Dec.{eqb}
use lib.ListN.{length, get_or, set}
use lib.Seq.{get_or-set_same, get_or-set_other, drop-set-lt}
use borrow.Author.Tests.{eqb-true, eqb-false}
use Rattle.levels.specs.Levels.{all_below}
use Rattle.clock_spec.specs.Command.{cells_of, TargetInRange}
use Rattle.clock_spec.specs.Shared.{Event, Written}
use Rattle.clock_spec.specs.Writable.{writable}
use Rattle.clock_spec.specs.Store.{fresh_store, unused_clear, put, act, with_event}
use Rattle.clock_spec.specs.declared.Chip.{Chip}
use Rattle.clock_spec.specs.declared.Chip.TheVariants.{First, Later}
use Rattle.clock_spec.specs.declared.Target.{Target}
use Rattle.clock_spec.specs.declared.Target.TheVariants.{Seconds, Test, Protect, Cell}
use Rattle.clock_spec.specs.declared.Store.{Store}
use Rattle.clock_spec.proofs.CommandRange.{cond-case, Ranged}

-- A write to cell i changes cell i alone.
pub put-cell : (i j b : ℕ) (s : Store) → i < length s.cells
    → get_or (put (Cell i) b s).cells j 0 ≡ cond (eqb i j) b (get_or s.cells j 0)
unfolding put
put-cell i j b s l = go (eqb i j) refl
  where
    go : (t : Bool) → eqb i j ≡ t → get_or (set s.cells i b) j 0 ≡ cond t b (get_or s.cells j 0)
    go true e = rw (← (eqb-true i j e)) (get_or-set_same s.cells i b 0 l)
    go false e = get_or-set_other s.cells i j b 0 (λ q. eqb-false i j e (sym q))

put-chip : (t : Target) (b : ℕ) (s : Store) → (put t b s).chip ≡ s.chip
unfolding put
put-chip (Seconds n) b s = refl
put-chip Test b s = refl
put-chip Protect b s = refl
put-chip (Cell i) b s = refl

-- W-206: "chosen at the start".
pub act-chip : (o : Option Written) (s : Store) → (act o s).chip ≡ s.chip
unfolding act
act-chip none s = refl
act-chip (some w) s =
    cond-case (λ (r : Store). r.chip ≡ s.chip) (writable w.to s.protect) (λ e. put-chip w.to w.byte s) (λ e. refl)

put-unused : (t : Target) (b : ℕ) (s : Store) → TargetInRange s.chip t → unused_clear (put t b s) ≡ unused_clear s
unfolding put unused_clear
put-unused (Seconds n) b s r = refl
put-unused Test b s r = refl
put-unused Protect b s r = refl
put-unused (Cell i) b s r = ap (all_below 1) (drop-set-lt (cells_of s.chip) s.cells i b r)

-- "Room not in use holds 0", after every write too.
pub act-unused : (o : Option Written) (s : Store) → Ranged s.chip o → unused_clear (act o s) ≡ unused_clear s
unfolding act
act-unused none s r = refl
act-unused (some w) s r =
    cond-case (λ (x : Store). unused_clear x ≡ unused_clear s) (writable w.to s.protect) (λ e. put-unused w.to w.byte s r) (λ e. refl)

-- Nor do SE and the time off touch them; and the fresh chip has them so.
pub counted-unused : (e : Event) (s : Store) → unused_clear (with_event e s) ≡ unused_clear s
unfolding unused_clear
counted-unused e s = refl

pub fresh-unused : (k : Chip) → unused_clear (fresh_store k) ≡ true
unfolding unused_clear all_below
fresh-unused First = refl
fresh-unused Later = refl
