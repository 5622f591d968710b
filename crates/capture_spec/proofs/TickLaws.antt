-- W-214: "Given room, a capture without DI passes as many ticks as before W-214."
use Prim.Native.Nat.{ℕ, suc, ◌+◌, ◌≤◌}
use mathlib.Core.Path.{◌≡◌, refl, sym, ap, ap₂, ◌∙◌}
use mathlib.Core.Bool.{Bool, true, false, cond}
use mathlib.Core.List.{List}
use native.Mathlib.Omega.{arith}
use lib.ListN.{get_or}
use lib.Seq.{get_or-drop}
use lib.Dec.{eqb}
use borrow.Author.Tests.{le-ltb}
use Rattle.octets.specs.Octets.{le16_of}
use Rattle.item_spec.specs.Items.{record_wait}
use Rattle.item_spec.specs.Ranged.{line_record}
use Rattle.item_spec.specs.Kinds.{is_kind, decoded_of}
use Rattle.capture_spec.specs.declared.Levels.{Levels}
use Rattle.capture_spec.specs.Capture.{Capture, row, end, cut, capture_of, None, body_of, retired_of, line0_of}
use Rattle.capture_spec.specs.Levels.{first_levels, sense_to, with_internal, with_external, drive_sense_of, next_of}
use Rattle.capture_spec.specs.Convert.{line_for, disk_for, changes_of, turned_of}
use Rattle.capture_spec.specs.Ticks.{refusal_before, refusal_after, is_disk, passes, ticks}
use Rattle.capture_spec.proofs.Records.{line0-long}
use Rattle.capture_spec.proofs.Promises.{part_rows, rows_from, turned-capture}

-- line 0's level is 0 or 1 at every record
sense-line0 : (m : Levels) (drive register level : ℕ) → (sense_to m drive register level).line0 ≡ m.line0
unfolding sense_to
sense-line0 m drive register level = go (eqb drive 1)
  where
    go : (t : Bool) → (cond t (with_external m (drive_sense_of m.external register level)) (with_internal m (drive_sense_of m.internal register level))).line0 ≡ m.line0
    go true = refl
    go false = refl

pub next-line0 : (m : Levels) (r : List ℕ) → m.line0 ≤ 1 → (next_of m r).line0 ≤ 1
unfolding next_of
next-line0 m r h = go (retired_of r) (line0_of r) refl
  where
    go : (t u : Bool) → line0_of r ≡ u
        → (cond t (sense_to m (get_or r 6 0) (get_or r 7 0) (get_or r 8 0)) (cond u (record { line0 = get_or r 7 0; internal = m.internal; external = m.external }) m)).line0 ≤ 1
    go true u p = rw (sense-line0 m (get_or r 6 0) (get_or r 7 0) (get_or r 8 0)) h
    go false true p = (line0-long r p).1
    go false false p = h

-- ---- one record

-- the IN that is written is carried out, with the wait of the SN
line-ticks : (m : Levels) (r : List ℕ) (e : Bool) → m.line0 ≤ 1 → passes refusal_after e (line_for m r) ≡ (record_wait (body_of r)).0
unfolding passes refusal_after is_disk is_kind decoded_of line_record le16_of line_for
line-ticks m r e h = simp (le-ltb 1 m.line0 h, get_or-drop 2 r 2 0, get_or-drop 2 r 3 0)

-- the DI that is written passes no tick, refused or not
none : (w : ℕ) (t d e : Bool) → w ≡ 0 → cond t (cond d (cond e 0 w) w) 0 ≡ 0
none w true true true p = refl
none w true true false p = p
none w true false e p = p
none w false d e p = refl

disk-ticks : (m : Levels) (r : List ℕ) (e : Bool) → passes refusal_after e (disk_for m r) ≡ 0
unfolding passes is_disk is_kind le16_of disk_for
disk-ticks m r e = none 0 (eqb (refusal_after (disk_for m r)) 0) true e refl

-- a valid retired SN was carried out
retired-ticks : (r : List ℕ) (e : Bool) → is_disk r ≡ false → retired_of r ≡ true → passes refusal_before e r ≡ (record_wait (body_of r)).0
unfolding passes refusal_before
retired-ticks r e d h = simp (d, h)

-- every other record is carried out or refused as before
same-record : (r : List ℕ) (e f : Bool) → is_disk r ≡ false → retired_of r ≡ false → passes refusal_after e r ≡ passes refusal_before f r
unfolding passes refusal_before
same-record r e f d h = simp (d, h)

-- ---- a capture

rows-ticks : (c : Capture) (m : Levels) (eight eight' : ℕ → Bool) (n n' : ℕ) → m.line0 ≤ 1 → None is_disk c
    → ticks refusal_after eight' n' (rows_from m c) ≡ ticks refusal_before eight n c
unfolding ticks rows_from
rows-ticks (row r c) m eight eight' n n' h d =
    go (λ k. rows-ticks c (next_of m r) eight eight' (suc n) k (next-line0 m r h) d.1) (retired_of r) (changes_of m r) refl
  where
    go : ((k : ℕ) → ticks refusal_after eight' k (rows_from (next_of m r) c) ≡ ticks refusal_before eight (suc n) c) → (t u : Bool) → retired_of r ≡ t
        → ticks refusal_after eight' n' (part_rows m r t u (rows_from (next_of m r) c)) ≡ passes refusal_before (eight n) r + ticks refusal_before eight (suc n) c
    go rest true true p =
        let a = line-ticks m r (eight' n') h in
        let b = disk-ticks m r (eight' (suc n')) in
        let w = retired-ticks r (eight n) d.0 p in
        let q = rest (suc (suc n')) in
        omega (arith, a, b, w, q)
    go rest true false p = ap₂ (λ (a b : ℕ). a + b) (line-ticks m r (eight' n') h ∙ sym (retired-ticks r (eight n) d.0 p)) (rest (suc n'))
    go rest false u p = ap₂ (λ (a b : ℕ). a + b) (same-record r (eight' n') (eight n) d.0 p) (rest (suc n'))
rows-ticks end m eight eight' n n' h d = refl
rows-ticks (cut l) m eight eight' n n' h d = refl

-- A capture without DI passes, converted and after W-214, as many ticks as it passed before, whichever DI the state refuses.
pub same-ticks : (l : List ℕ) (eight eight' : ℕ → Bool) → None is_disk (capture_of l)
    → ticks refusal_after eight' 0 (capture_of (turned_of l)) ≡ ticks refusal_before eight 0 (capture_of l)
unfolding first_levels
same-ticks l eight eight' d = ap (ticks refusal_after eight' 0) (turned-capture l) ∙ rows-ticks (capture_of l) first_levels eight eight' 0 0 (omega arith) d
