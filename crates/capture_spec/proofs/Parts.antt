-- What is written for one record, case by case.
use Prim.Native.Nat.{ℕ}
use mathlib.Core.Path.{◌≡◌, refl}
use mathlib.Core.Bool.{true, false}
use mathlib.Core.List.{List, ◌++◌}
use lib.ListN.{length}
use Rattle.capture_spec.specs.declared.Levels.{Levels}
use Rattle.capture_spec.specs.Capture.{retired_of}
use Rattle.capture_spec.specs.Convert.{line_for, disk_for, changes_of, part_of, lone_of}

-- an IN and a DI have 18 bytes
pub pair-long : (m : Levels) (r : List ℕ) → length (line_for m r ++ disk_for m r) ≡ 18
unfolding line_for disk_for
pair-long m r = refl

module _ (m : Levels) (r : List ℕ) where
  pub part_same : retired_of r ≡ false → part_of m r ≡ r
  unfolding part_of
  part_same e = simp e

  module _ (e : retired_of r ≡ true) where
    pub part-line : changes_of m r ≡ false → part_of m r ≡ line_for m r
    unfolding part_of
    part-line f = simp (e, f)

    pub part_pair : changes_of m r ≡ true → part_of m r ≡ line_for m r ++ disk_for m r
    unfolding part_of
    part_pair f = simp (e, f)

    pub size-line : changes_of m r ≡ false → 8 ≡ length (part_of m r)
    unfolding line_for
    size-line f = rw (part-line f) refl

    pub size-pair : changes_of m r ≡ true → 18 ≡ length (part_of m r)
    size-pair f = rw (part_pair f, pair-long m r) refl
