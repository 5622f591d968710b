-- The two passes of a conversion: what was measured so far, and what is left to write.
use Prim.Native.Nat.{ℕ, ◌+◌, ◌-◌, ◌≤◌, ◌<◌}
use mathlib.Core.Path.{◌≡◌, refl, sym, ap, subst, ◌∙◌}
use mathlib.Core.List.{List, [], ◌++◌}
use Rattle.std.specs.Prelude.{Option, Some, None}
use native.Mathlib.Omega.{arith}
use lib.ListN.{length, drop, length-append}
use borrow.Author.Tests.{lt-ltb, le-ltb}
use Rattle.refusal.specs.declared.Refusal.{Refusal}
use Rattle.refusal.specs.declared.Refusal.TheVariants.{CutRecord, NoRoom}
use Rattle.capture_spec.specs.declared.Levels.{Levels}
use Rattle.capture_spec.specs.declared.Converted.{Converted}
use Rattle.capture_spec.specs.Capture.{Capture, row, end, cut, capture_of}
use Rattle.capture_spec.specs.Levels.{first_levels, next_of}
use Rattle.capture_spec.specs.Convert.{part_of, lone_of, turned_from, count_from, end_of, turned_of, converted_of, output_of}
use Rattle.capture_spec.proofs.Walk.{lone-fits}

-- what is still to write
pub todo-end : (m : Levels) → turned_from m end ≡ []
unfolding turned_from
todo-end m = refl

pub todo-cut : (m : Levels) (x : List ℕ) → turned_from m (cut x) ≡ []
unfolding turned_from
todo-cut m x = refl

pub todo-next : (m : Levels) (r : List ℕ) (c : Capture) → turned_from m (row r c) ≡ part_of m r ++ turned_from (next_of m r) c
unfolding turned_from
todo-next m r c = refl

pub whole-todo : (l : List ℕ) → turned_of l ≡ turned_from first_levels (capture_of l)
unfolding turned_of
whole-todo l = refl

-- of the capture l the records c are left; n bytes and `count` items were measured, and they fit the room
pub record Measured (l : List ℕ) (room : ℕ) (c : Capture) (m : Levels) (n count : ℕ) : Type 0 where
  pub n≤ : n ≤ room
  pub count≤ : count ≤ n
  pub total : length (turned_of l) ≡ n + length (turned_from m c)
  pub counted : count_from first_levels (capture_of l) ≡ count + count_from m c
  pub ends : end_of (capture_of l) ≡ end_of c

pub measured-first : (l : List ℕ) (room : ℕ) → Measured l room (capture_of l) first_levels 0 0
unfolding turned_of
measured-first l room = record { n≤ = omega arith; count≤ = omega arith; total = omega arith; counted = omega arith; ends = refl }

-- all of it fits, and that is what is given back
abbrev pub Fits : List ℕ → ℕ → Converted → Type 0
Fits l room x = (length (turned_of l) ≤ room) × (x ≡ converted_of l room)

done : (l : List ℕ) (room : ℕ) (e : Option Refusal) (n count : ℕ) → n ≤ room → length (turned_of l) ≡ n → count_from first_levels (capture_of l) ≡ count → end_of (capture_of l) ≡ e
    → Fits l room (record { refusal = e; written = n; count = count })
unfolding converted_of
done l room e n count h p q r = (omega arith, simp (p, q, r, le-ltb room n h))

module _ (l : List ℕ) (room : ℕ) (m : Levels) (n count : ℕ) where
  -- the end of the list
  pub measured-end : Measured l room end m n count → Fits l room (record { refusal = None; written = n; count = count })
  unfolding turned_from count_from end_of
  measured-end w = done l room None n count w.n≤ (omega (arith, w.total)) (omega (arith, w.counted)) w.ends

  -- a record refused with 1
  pub measured-cut : (x : List ℕ) → Measured l room (cut x) m n count → Fits l room (record { refusal = Some CutRecord; written = n; count = count })
  unfolding turned_from count_from end_of
  measured-cut x w = done l room (Some CutRecord) n count w.n≤ (omega (arith, w.total)) (omega (arith, w.counted)) w.ends

  module _ (r : List ℕ) (c : Capture) (w : Measured l room (row r c) m n count) where
    sum : length (turned_of l) ≡ n + length (part_of m r) + length (turned_from (next_of m r) c)
    sum = omega (arith, w.total, ap length (todo-next m r c), length-append (part_of m r) (turned_from (next_of m r) c))

    -- too little room
    pub measured-long : room - n < length (part_of m r) → room < length (turned_of l)
    measured-long h = omega (arith, sum, w.n≤)

    -- one more record
    pub measured-next : length (part_of m r) ≤ room - n → Measured l room c (next_of m r) (n + length (part_of m r)) (count + lone_of m r)
    unfolding count_from end_of
    measured-next h =
        record {
          n≤ = omega (arith, w.n≤);
          count≤ = omega (arith, w.count≤, lone-fits m r);
          total = sum;
          counted = omega (arith, w.counted);
          ends = w.ends;
        }

-- ---- what is given back, and the memory
pub six : (l : List ℕ) (room : ℕ) → room < length (turned_of l) → record { refusal = Some NoRoom; written = 0; count = 0 } ≡ converted_of l room
unfolding converted_of
six l room h = simp (lt-ltb room (length (turned_of l)) h)

-- nothing written
pub output-kept : (l d : List ℕ) → length d < length (turned_of l) → d ≡ output_of l d
unfolding output_of
output-kept l d h = simp (lt-ltb (length d) (length (turned_of l)) h)

-- all of it written
pub output-written : (l d o : List ℕ) → length (turned_of l) ≤ length d → o ≡ turned_of l ++ drop (length (turned_of l)) d → o ≡ output_of l d
unfolding output_of
output-written l d o h e = e ∙ (simp (le-ltb (length d) (length (turned_of l)) h))
