-- What is written for a record, case by case, as `retired` finds it.
use Rattle.std.proofs.Common.{ℕ, ◌≡◌, ◌+◌, ◌≤◌, Bool, true, false, cond, List, ◌++◌, Some, None, Option, length, take, drop, refl, sym, ap, ◌∙◌, arith, length-append, length-drop, append_assoc}
use lib.Seq.{drop-drop}
use Rattle.octets.specs.Octets.{put_at}
use Rattle.octets.proofs.Laws.{put-take, put-drop}
use Rattle.capture_spec.specs.declared.Levels.{Levels}
use Rattle.capture_spec.specs.Capture.{retired_of}
use Rattle.capture_spec.specs.Convert.{line_for, disk_for, changes_of, part_of, lone_of}
use Rattle.capture_spec.proofs.Parts.{part_same, part-line, part_pair, size-line, size-pair}

found : (t : Bool) (x r : List ℕ) → Some x ≡ cond {A = Option (List ℕ)} t (Some r) None → (t ≡ true) × (x ≡ r)
found true x r e = (refl, cc)
found false x r e = absurd (cc)

missed : (t : Bool) (r : List ℕ) → None ≡ cond {A = Option (List ℕ)} t (Some r) None → t ≡ false
missed true r e = absurd (cc)
missed false r e = refl

module _ (m : Levels) (x r : List ℕ) (e : Some x ≡ cond {A = Option (List ℕ)} (retired_of r) (Some r) None) where
  is : x ≡ r
  is = (found (retired_of r) x r e).1

  pub pair : changes_of m x ≡ true → part_of m r ≡ line_for m x ++ disk_for m x
  pair c = part_pair m r (found (retired_of r) x r e).0 (ap (changes_of m) (sym is) ∙ c) ∙ ap (λ (y : List ℕ). line_for m y ++ disk_for m y) (sym is)

  pub alone : changes_of m x ≡ false → part_of m r ≡ line_for m x
  alone c = part-line m r (found (retired_of r) x r e).0 (ap (changes_of m) (sym is) ∙ c) ∙ ap (line_for m) (sym is)

  pub eighteen : changes_of m x ≡ true → 18 ≡ length (part_of m r)
  eighteen c = size-pair m r (found (retired_of r) x r e).0 (ap (changes_of m) (sym is) ∙ c)

  pub eight : changes_of m x ≡ false → 8 ≡ length (part_of m r)
  eight c = size-line m r (found (retired_of r) x r e).0 (ap (changes_of m) (sym is) ∙ c)

  pub least : 8 ≤ length (part_of m r)
  least = go (changes_of m x) refl
    where
      go : (t : Bool) → changes_of m x ≡ t → 8 ≤ length (part_of m r)
      go true c = omega (arith, eighteen c)
      go false c = omega (arith, eight c)

  pub counted : changes_of m x ≡ false → 1 ≡ lone_of m r
  unfolding lone_of
  counted c = simp ((found (retired_of r) x r e).0, ap (changes_of m) (sym is) ∙ c)

  pub not-counted : changes_of m x ≡ true → 0 ≡ lone_of m r
  unfolding lone_of
  not-counted c = simp ((found (retired_of r) x r e).0, ap (changes_of m) (sym is) ∙ c)

module _ (m : Levels) (r : List ℕ) (e : None ≡ cond {A = Option (List ℕ)} (retired_of r) (Some r) None) where
  pub other : part_of m r ≡ r
  other = part_same m r (missed (retired_of r) r e)

  pub other-not-counted : 0 ≡ lone_of m r
  unfolding lone_of
  other-not-counted = simp (missed (retired_of r) r e)

-- two parts written one after the other
pub put-both : (d : List ℕ) (at : ℕ) (x y : List ℕ) → at + length (x ++ y) ≤ length d → put_at (put_at d at x) (at + length x) y ≡ put_at d at (x ++ y)
put-both d at x y fits =
    let l : length (x ++ y) ≡ length x + length y = length-append x y in
    let f : at + length x ≤ length d = omega arith in
    let a : take (at + length x) (put_at d at x) ≡ take at d ++ x = put-take d at x f in
    let b : drop (at + length x + length y) (put_at d at x) ≡ drop (at + length (x ++ y)) d =
    sym (drop-drop (length y) (at + length x) (put_at d at x)) ∙ ap (drop (length y)) (put-drop d at x f) ∙ drop-drop (length y) (at + length x) d ∙ ap (λ (n : ℕ). drop n d) (omega arith) in
    ap (λ (t : List ℕ). t ++ y ++ drop (at + length x + length y) (put_at d at x)) a
    ∙ ap (λ (t : List ℕ). take at d ++ x ++ y ++ t) b
    ∙ ap (λ (t : List ℕ). t ++ drop (at + length (x ++ y)) d) (append_assoc (take at d) x y)

line-eight : (m : Levels) (x : List ℕ) → length (line_for m x) ≡ 8
unfolding line_for
line-eight m x = refl

-- the IN and the DI after it
pub put-pair : (d : List ℕ) (at : ℕ) (m : Levels) (x r : List ℕ) (e : Some x ≡ cond {A = Option (List ℕ)} (retired_of r) (Some r) None) → changes_of m x ≡ true → at + length (part_of m r) ≤ length d
    → put_at (put_at d at (line_for m x)) (at + 8) (disk_for m x) ≡ put_at d at (part_of m r)
put-pair d at m x r e c fits =
    ap (λ (n : ℕ). put_at (put_at d at (line_for m x)) (at + n) (disk_for m x)) (sym (line-eight m x))
    ∙ put-both d at (line_for m x) (disk_for m x) (omega (arith, fits, ap length (pair m x r e c)))
    ∙ ap (put_at d at) (sym (pair m x r e c))
