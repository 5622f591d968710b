-- W-214: a capture without a valid retired SN is unchanged, byte for byte; converting twice equals converting once.
use Prim.Native.Nat.{ℕ, zero, suc, ◌+◌, ◌-◌, ◌≤◌}
use mathlib.Core.Path.{◌≡◌, refl, sym, ap, ◌∙◌}
use mathlib.Core.Bool.{Bool, true, false}
use mathlib.Core.List.{List, [], ◌∷◌, ◌++◌, append-nil, append_assoc}
use native.Mathlib.Omega.{arith}
use native.Mathlib.Nat.{zero-add}
use lib.ListN.{length, take, drop, take-append-drop}
use lib.Seq.{drop-nil}
use borrow.Author.Tests.{le-ltb}
use Rattle.item_spec.specs.Record.{frame_of}
use Rattle.std.specs.Prelude.{Option, Some, None as Nothing}
use Rattle.item_spec.specs.Kinds.{is_kind}
use Rattle.item_spec.proofs.RecordLaws.{whole-fits}
use Rattle.capture_spec.specs.declared.Levels.{Levels}
use Rattle.capture_spec.specs.Capture.{Capture, row, end, cut, framed, capture_from, capture_of, bytes_of, left_of, None, retired_of}
use Rattle.capture_spec.specs.Levels.{first_levels, next_of}
use Rattle.capture_spec.specs.Convert.{line_for, disk_for, changes_of, part_of, lone_of, turned_from, count_from, end_of, turned_of, converted_of}
use Rattle.capture_spec.proofs.Parts.{part_same, part-line, part_pair}
use Rattle.capture_spec.proofs.Frames.{Records, line-record, disk-record, capture-records, capture-cons}

-- ---- the converted capture as records

abbrev pub part_rows : Levels → List ℕ → Bool → Bool → Capture → Capture
part_rows m r true true c = row (line_for m r) (row (disk_for m r) c)
part_rows m r true false c = row (line_for m r) c
part_rows m r false u c = row r c

unfoldable pub rows_from : Levels → Capture → Capture
rows_from m (row r c) = part_rows m r (retired_of r) (changes_of m r) (rows_from (next_of m r) c)
rows_from m end = end
rows_from m (cut l) = end

-- what is written is read back as these records
pub turned_rows : (c : Capture) (m : Levels) → Records c → capture_of (turned_from m c) ≡ rows_from m c
unfolding turned_from rows_from capture_from
turned_rows (row r c) m h = go (retired_of r) (changes_of m r) refl refl (turned_rows c (next_of m r) h.1)
  where
    go : (t u : Bool) → retired_of r ≡ t → changes_of m r ≡ u → capture_of (turned_from (next_of m r) c) ≡ rows_from (next_of m r) c
        → capture_of (part_of m r ++ turned_from (next_of m r) c) ≡ part_rows m r t u (rows_from (next_of m r) c)
    go true true p q e =
        let x = turned_from (next_of m r) c in
        ap (λ (y : List ℕ). capture_of (y ++ x)) (part_pair m r p q)
        ∙ ap capture_of (append_assoc (line_for m r) (disk_for m r) x)
        ∙ capture-cons (line_for m r) (disk_for m r ++ x) (line-record m r)
        ∙ ap (row (line_for m r)) (capture-cons (disk_for m r) x (disk-record m r) ∙ ap (row (disk_for m r)) e)
    go true false p q e =
        let x = turned_from (next_of m r) c in
        ap (λ (y : List ℕ). capture_of (y ++ x)) (part-line m r p q) ∙ capture-cons (line_for m r) x (line-record m r) ∙ ap (row (line_for m r)) e
    go false u p q e =
        let x = turned_from (next_of m r) c in
        ap (λ (y : List ℕ). capture_of (y ++ x)) (part_same m r p) ∙ capture-cons r x h.0 ∙ ap (row r) e
turned_rows end m h = refl
turned_rows (cut l) m h = refl

pub turned-capture : (l : List ℕ) → capture_of (turned_of l) ≡ rows_from first_levels (capture_of l)
unfolding turned_of
turned-capture l = turned_rows (capture_of l) first_levels (capture-records 0 l)

-- ---- unchanged

-- a list is its whole records and what is left
pub bytes_left : (k : ℕ) (l : List ℕ) → bytes_of (capture_from k l) ++ left_of (capture_from k l) ≡ drop k l
unfolding capture_from bytes_of left_of
bytes_left k [] = sym (drop-nil k)
bytes_left (suc k) (x ∷ xs) = bytes_left k xs
bytes_left zero (x ∷ xs) = go (λ k. bytes_left k xs) (frame_of (x ∷ xs)) refl
  where
    go : ((k : ℕ) → bytes_of (capture_from k xs) ++ left_of (capture_from k xs) ≡ drop k xs) → (f : Option ℕ) → frame_of (x ∷ xs) ≡ f
        → bytes_of (framed f (x ∷ xs) (λ k. capture_from k xs)) ++ left_of (framed f (x ∷ xs) (λ k. capture_from k xs)) ≡ x ∷ xs
    go rec Nothing e = refl
    go rec (Some zero) e = let h = whole-fits (x ∷ xs) 0 e in absurd (omega arith)
    go rec (Some (suc n)) e =
        let d : suc n - 1 ≡ n = omega arith in
        append_assoc (take (suc n) (x ∷ xs)) (bytes_of (capture_from (suc n - 1) xs)) (left_of (capture_from (suc n - 1) xs))
        ∙ ap (λ (y : List ℕ). take (suc n) (x ∷ xs) ++ y) (rec (suc n - 1) ∙ ap (λ (k : ℕ). drop k xs) d)
        ∙ take-append-drop (suc n) (x ∷ xs)

none-same : (c : Capture) (m : Levels) → None retired_of c → turned_from m c ≡ bytes_of c
unfolding turned_from bytes_of
none-same (row r c) m h = ap (λ (x : List ℕ). x ++ turned_from (next_of m r) c) (part_same m r h.0) ∙ ap (λ (x : List ℕ). r ++ x) (none-same c (next_of m r) h.1)
none-same end m h = refl
none-same (cut l) m h = refl

none-counted : (c : Capture) (m : Levels) → None retired_of c → count_from m c ≡ 0
unfolding count_from lone_of
none-counted (row r c) m h = simp h.0 (zero-add (count_from (next_of m r) c) ∙ none-counted c (next_of m r) h.1)
none-counted end m h = refl
none-counted (cut l) m h = refl

-- A capture without a valid retired SN is unchanged, byte for byte: what is written, and what is left from a record refused with 1 on, are the capture.
pub unchanged : (l : List ℕ) → None retired_of (capture_of l) → turned_of l ++ left_of (capture_of l) ≡ l
unfolding turned_of
unchanged l h = ap (λ (x : List ℕ). x ++ left_of (capture_of l)) (none-same (capture_of l) first_levels h) ∙ bytes_left 0 l

left-none : (c : Capture) → end_of c ≡ Nothing → left_of c ≡ []
unfolding end_of left_of
left-none (row r c) e = left-none c e
left-none end e = refl
left-none (cut l) e = absurd (cc)

-- Where no record is refused with 1, all of it is.
pub unchanged-whole : (l : List ℕ) → None retired_of (capture_of l) → end_of (capture_of l) ≡ Nothing → turned_of l ≡ l
unchanged-whole l h e = sym (append-nil (turned_of l)) ∙ ap (λ (x : List ℕ). turned_of l ++ x) (sym (left-none (capture_of l) e)) ∙ unchanged l h

-- ---- twice

line_kept : (m : Levels) (r : List ℕ) → retired_of (line_for m r) ≡ false
unfolding retired_of is_kind line_for
line_kept m r = refl

disk-kept : (m : Levels) (r : List ℕ) → retired_of (disk_for m r) ≡ false
unfolding retired_of is_kind disk_for
disk-kept m r = refl

rows_none : (c : Capture) (m : Levels) → None retired_of (rows_from m c)
unfolding rows_from
rows_none (row r c) m = go (retired_of r) (changes_of m r) refl (rows_none c (next_of m r))
  where
    go : (t u : Bool) → retired_of r ≡ t → None retired_of (rows_from (next_of m r) c) → None retired_of (part_rows m r t u (rows_from (next_of m r) c))
    go true true p h = (line_kept m r, (disk-kept m r, h))
    go true false p h = (line_kept m r, h)
    go false u p h = (p, h)
rows_none end m = tt
rows_none (cut l) m = tt

rows_end : (c : Capture) (m : Levels) → end_of (rows_from m c) ≡ Nothing
unfolding rows_from end_of
rows_end (row r c) m = go (retired_of r) (changes_of m r) (rows_end c (next_of m r))
  where
    go : (t u : Bool) → end_of (rows_from (next_of m r) c) ≡ Nothing → end_of (part_rows m r t u (rows_from (next_of m r) c)) ≡ Nothing
    go true true h = h
    go true false h = h
    go false u h = h
rows_end end m = refl
rows_end (cut l) m = refl

-- The result has no valid retired SN, and no record refused with 1.
pub turned_none : (l : List ℕ) → None retired_of (capture_of (turned_of l))
turned_none l = rw (turned-capture l) (rows_none (capture_of l) first_levels)

pub turned-end : (l : List ℕ) → end_of (capture_of (turned_of l)) ≡ Nothing
turned-end l = ap end_of (turned-capture l) ∙ rows_end (capture_of l) first_levels

-- Converting twice equals converting once.
pub twice : (l : List ℕ) → turned_of (turned_of l) ≡ turned_of l
twice l = unchanged-whole (turned_of l) (turned_none l) (turned-end l)

-- The second time nothing is counted, nothing is refused, and the same room is enough.
pub twice-converted : (l : List ℕ) (room : ℕ) → length (turned_of l) ≤ room
    → converted_of (turned_of l) room ≡ record { refusal = Nothing; written = length (turned_of l); count = 0 }
unfolding converted_of
twice-converted l room h = simp (twice l, turned-end l, none-counted (capture_of (turned_of l)) first_levels (turned_none l), le-ltb room (length (turned_of l)) h)
