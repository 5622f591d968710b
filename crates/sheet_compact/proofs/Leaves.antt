-- What is left to be written of a sheet's counting records.
use Prim.Native.Nat.{ℕ, ◌+◌, ◌≤◌, ◌<◌}
use mathlib.Core.Path.{◌≡◌, refl, sym, ap, subst, ◌∙◌}
use mathlib.Core.Bool.{Bool, true, false}
use mathlib.Core.List.{List, [], ◌++◌}
use Rattle.std.specs.Prelude.{Some, Ok, Err, Result}
use native.Mathlib.Omega.{arith}
use lib.ListN.{length, get_or, drop, length-append}
use lib.Dec.{eqb}
use borrow.Author.Tests.{lt-ltb, le-ltb}
use Rattle.refusal.specs.declared.Refusal.{Refusal}
use Rattle.refusal.specs.declared.Refusal.TheVariants.{CutRecord, NoRoom}
use Rattle.sheet_spec.specs.Records.{Sheet, row, end, broken, sheet_of, is_broken}
use Rattle.sheet_spec.specs.Counting.{setting_of, version_of, beats_of, counting_of, start_of}
use Rattle.sheet_spec.specs.Compaction.{counts_of, row_if, counting_rows, bytes_of, compact_of, compacted_of, memory_of}
use Rattle.sheet_spec.proofs.Start.{counts_start}
use Rattle.sheet_spec.proofs.Lead.{Lead, lead-first, lead-yes, lead-no}
use Rattle.sheet_record.specs.declared.Record.{Record}
use Rattle.sheet_record.specs.declared.Records.{Records}
use Rattle.sheet_record.specs.Walk.{left_of, GivesRecord}
use Rattle.sheet_compact.specs.Table.{Table}

-- of setting k some record counts before `left`, or none
pub record Ahead (all left : Sheet) (at k : ℕ) : Type 0 where
  pub best : List ℕ
  pub start : ℕ
  pub lead : Lead all left at k best start

pub ahead-first : (all : Sheet) (k : ℕ) → Ahead all all 0 k
ahead-first all k = record { best = []; start = 0; lead = lead-first all k }

-- the bytes of the counting records among those that are left
abbrev pub todo : Sheet → Sheet → List ℕ
todo all left = bytes_of (counting_rows all left)

pub todo-end : (all : Sheet) → todo all end ≡ []
unfolding counting_rows bytes_of
todo-end all = refl

pub todo-broken : (all : Sheet) → todo all broken ≡ []
unfolding counting_rows bytes_of
todo-broken all = refl

module _ (all : Sheet) (r : List ℕ) (s : Sheet) (at : ℕ) (long : 7 ≤ length r) where
  pub ahead-next : (k : ℕ) → Ahead all (row r s) at k → Ahead all s (at + length r) k
  ahead-next k a = go (beats_of k (version_of a.best) r) refl
    where
      go : (t : Bool) → beats_of k (version_of a.best) r ≡ t → Ahead all s (at + length r) k
      go true e = record { best = r; start = at + 7; lead = lead-yes all r s at k a.best a.start a.lead long e }
      go false e = record { best = a.best; start = a.start; lead = lead-no all r s at k a.best a.start a.lead long e }

  module _ (starts l : List ℕ) (t : Table starts l) (w : all ≡ sheet_of l) (a : Ahead all (row r s) at (setting_of r)) (small : setting_of r < 65536) where
    counted : counts_of all r s ≡ eqb (get_or starts (setting_of r) 0) (at + 7)
    unfolding counting_of
    counted =
        let b = a.lead in
        counts_start all r s a.best a.start at b.early long b.counting b.start
        ∙ ap (λ (n : ℕ). eqb n (at + 7)) (sym (t.each (setting_of r) small ∙ ap (λ (x : Sheet). start_of x (setting_of r)) (sym w)))

    pub todo-yes : eqb (get_or starts (setting_of r) 0) (at + 7) ≡ true → todo all (row r s) ≡ r ++ todo all s
    unfolding counting_rows bytes_of
    todo-yes e = ap (λ (b : Bool). bytes_of (row_if b r (counting_rows all s))) (counted ∙ e)

    pub todo-no : eqb (get_or starts (setting_of r) 0) (at + 7) ≡ false → todo all (row r s) ≡ todo all s
    unfolding counting_rows bytes_of
    todo-no e = ap (λ (b : Bool). bytes_of (row_if b r (counting_rows all s))) (counted ∙ e)

-- ---- a pass over the sheet l: `left` is left, `at` bytes before it, and n bytes were counted or written
pub record Pass (l : List ℕ) (left : Sheet) (at n : ℕ) : Type 0 where
  pub total : length (compact_of l) ≡ n + length (todo (sheet_of l) left)
  pub fits : n ≤ at
  pub ahead : (k : ℕ) → Ahead (sheet_of l) left at k

pub pass-first : (l : List ℕ) → Pass l (sheet_of l) 0 0
unfolding compact_of
pass-first l = record { total = omega arith; fits = omega arith; ahead = ahead-first (sheet_of l) }

pub pass-end : (l : List ℕ) (at n : ℕ) → Pass l end at n → n ≡ length (compact_of l)
pass-end l at n p = omega (arith, p.total, ap length (todo-end (sheet_of l)))

pub pass-broken : (l : List ℕ) (at n : ℕ) → Pass l broken at n → n ≡ length (compact_of l)
pass-broken l at n p = omega (arith, p.total, ap length (todo-broken (sheet_of l)))

module _ (l : List ℕ) (w v : Records) (r : Record) (g : GivesRecord w (Some (Ok r)) v) (n : ℕ) (p : Pass l (left_of w) w.at n) (starts : List ℕ) (t : Table starts l) (small : setting_of r.bytes.now < 65536) where
  ahead : (k : ℕ) → Ahead (sheet_of l) (row r.bytes.now (left_of v)) w.at k
  ahead k = subst (λ (x : Sheet). Ahead (sheet_of l) x w.at k) g.0 (p.ahead k)

  later : (k : ℕ) → Ahead (sheet_of l) (left_of v) v.at k
  later k = subst (λ (j : ℕ). Ahead (sheet_of l) (left_of v) j k) (sym g.2) (ahead-next (sheet_of l) r.bytes.now (left_of v) w.at r.long k (ahead k))

  test : eqb (get_or starts (setting_of r.bytes.now) 0) (w.at + 7) ≡ eqb (get_or starts (setting_of r.bytes.now) 0) r.start
  test = ap (eqb (get_or starts (setting_of r.bytes.now) 0)) (sym g.3)

  pub left-yes : eqb (get_or starts (setting_of r.bytes.now) 0) r.start ≡ true → todo (sheet_of l) (left_of w) ≡ r.bytes.now ++ todo (sheet_of l) (left_of v)
  left-yes e = ap (todo (sheet_of l)) g.0 ∙ todo-yes (sheet_of l) r.bytes.now (left_of v) w.at r.long starts l t refl (ahead (setting_of r.bytes.now)) small (test ∙ e)

  pub left-no : eqb (get_or starts (setting_of r.bytes.now) 0) r.start ≡ false → todo (sheet_of l) (left_of w) ≡ todo (sheet_of l) (left_of v)
  left-no e = ap (todo (sheet_of l)) g.0 ∙ todo-no (sheet_of l) r.bytes.now (left_of v) w.at r.long starts l t refl (ahead (setting_of r.bytes.now)) small (test ∙ e)

  pub pass-yes : eqb (get_or starts (setting_of r.bytes.now) 0) r.start ≡ true → Pass l (left_of v) v.at (n + length r.bytes.now)
  pass-yes e =
      record {
        total = omega (arith, p.total, ap length (left-yes e), length-append r.bytes.now (todo (sheet_of l) (left_of v)));
        fits = omega (arith, p.fits, g.2);
        ahead = later;
      }

  pub pass-no : eqb (get_or starts (setting_of r.bytes.now) 0) r.start ≡ false → Pass l (left_of v) v.at n
  pass-no e = record { total = p.total ∙ ap (λ (x : List ℕ). n + length x) (left-no e); fits = omega (arith, p.fits, g.2); ahead = later }

-- ---- the whole tool: its answer and the memory, for each way out
module _ (s d : List ℕ) where
  abbrev pub Ret : Result ℕ Refusal → List ℕ → Type 0
  Ret r o = (r ≡ compacted_of s (length d)) × (o ≡ memory_of s d)

  pub one : is_broken (sheet_of s) ≡ true → Ret (Err CutRecord) d
  unfolding compacted_of memory_of
  one b = (simp b, simp b)

  module _ (b : is_broken (sheet_of s) ≡ false) (n : ℕ) (e : n ≡ length (compact_of s)) where
    pub six : length d < n → Ret (Err NoRoom) d
    unfolding compacted_of memory_of
    six h = let t = lt-ltb (length d) (length (compact_of s)) (omega arith) in (simp (b, t), simp (b, t))

    pub done : n ≤ length d → (o : List ℕ) → o ≡ compact_of s ++ drop (length (compact_of s)) d → Ret (Ok n) o
    unfolding compacted_of memory_of
    done h o w = let t = le-ltb (length d) (length (compact_of s)) (omega arith) in (simp (b, t, e), simp (b, t) w)
