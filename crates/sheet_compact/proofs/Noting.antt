-- The table of a sheet, filled record by record.
use Prim.Native.Nat.{ℕ, ◌+◌, ◌<◌}
use mathlib.Core.Path.{◌≡◌, refl, sym, ap, subst, ◌∙◌}
use mathlib.Core.Bool.{Bool, true, false, cond}
use mathlib.Core.List.{List}
use Rattle.std.specs.Prelude.{Some, Ok}
use native.Mathlib.Omega.{arith}
use lib.ListN.{length, get_or, set, length-set, replicate, length-replicate, get_or-replicate}
use lib.Seq.{get_or-set_same, get_or-set_other}
use lib.Dec.{ltb, eqb}
use borrow.Author.Tests.{eqb-true, eqb-false}
use Rattle.sheet_spec.specs.Records.{Sheet, end, broken, sheet_of}
use Rattle.sheet_spec.specs.Counting.{setting_of, version_of, beats_of, start_from, start_of}
use Rattle.sheet_record.specs.declared.Record.{Record}
use Rattle.sheet_record.specs.declared.Records.{Records}
use Rattle.sheet_record.specs.Walk.{left_of, GivesRecord}
use Rattle.sheet_compact.specs.Table.{noted, Table}

pub noted-long : (r vs : List ℕ) (x : ℕ) (l : List ℕ) → length (noted r vs x l) ≡ length l
unfolding noted
noted-long r vs x l = go (ltb (version_of r) (get_or vs (setting_of r) 0))
  where
    go : (t : Bool) → length (cond t l (set l (setting_of r) x)) ≡ length l
    go true = refl
    go false = length-set l (setting_of r) x

-- what is noted of setting k: x where the record counts in place of what was noted
pub noted-at : (r vs : List ℕ) (x : ℕ) (l : List ℕ) (k : ℕ) → setting_of r < length l → get_or (noted r vs x l) k 0 ≡ cond (beats_of k (get_or vs k 0) r) x (get_or l k 0)
unfolding noted beats_of
noted-at r vs x l k h = go (eqb (setting_of r) k) refl
  where
    same : (t : Bool) → get_or (cond t l (set l (setting_of r) x)) (setting_of r) 0 ≡ cond (cond t false true) x (get_or l (setting_of r) 0)
    same true = refl
    same false = get_or-set_same l (setting_of r) x 0 h

    other : (t : Bool) → (k ≡ setting_of r → ⊥) → get_or (cond t l (set l (setting_of r) x)) k 0 ≡ get_or l k 0
    other true p = refl
    other false p = get_or-set_other l (setting_of r) k x 0 p

    go : (t : Bool) → eqb (setting_of r) k ≡ t → get_or (cond (ltb (version_of r) (get_or vs (setting_of r) 0)) l (set l (setting_of r) x)) k 0 ≡ cond (cond t (cond (ltb (version_of r) (get_or vs k 0)) false true) false) x (get_or l k 0)
    go true e = subst (λ (j : ℕ). get_or (cond (ltb (version_of r) (get_or vs (setting_of r) 0)) l (set l (setting_of r) x)) j 0 ≡ cond (cond (ltb (version_of r) (get_or vs j 0)) false true) x (get_or l j 0)) (eqb-true _ _ e) (same (ltb (version_of r) (get_or vs (setting_of r) 0)))
    go false e = other (ltb (version_of r) (get_or vs (setting_of r) 0)) (λ p. eqb-false _ _ e (sym p))

-- of the sheet s the records `left` are left, `at` bytes before them; what is noted is what counts so far
pub record Noted (s : List ℕ) (left : Sheet) (at : ℕ) (versions starts : List ℕ) : Type 0 where
  pub lengths : (length versions ≡ 65536) × (length starts ≡ 65536)
  pub each : (k : ℕ) → k < 65536 → start_of (sheet_of s) k ≡ start_from k (get_or versions k 0) (get_or starts k 0) at left

pub noted-first : (s versions starts : List ℕ) → versions ≡ replicate 65536 0 → starts ≡ replicate 65536 0 → Noted s (sheet_of s) 0 versions starts
unfolding start_of
noted-first s vs ss e f =
    record {
      lengths = (ap length e ∙ length-replicate {A = ℕ} 65536 0, ap length f ∙ length-replicate {A = ℕ} 65536 0);
      each = λ k h. rw (e, f, get_or-replicate {A = ℕ} 65536 k 0 0 h) refl;
    }

-- the whole sheet is walked, or what of it is no broken part
pub noted-end : (s : List ℕ) (at : ℕ) (versions starts : List ℕ) → Noted s end at versions starts → Table starts s
unfolding start_from
noted-end s at vs ss n = record { long = n.lengths.1; each = λ k h. sym (n.each k h) }

pub noted-broken : (s : List ℕ) (at : ℕ) (versions starts : List ℕ) → Noted s broken at versions starts → Table starts s
unfolding start_from
noted-broken s at vs ss n = record { long = n.lengths.1; each = λ k h. sym (n.each k h) }

-- one record more: the walk goes on from w to v
module _ (s : List ℕ) (w v : Records) (r : Record) (g : GivesRecord w (Some (Ok r)) v) (vs ss : List ℕ) (n : Noted s (left_of w) w.at vs ss) where
  pub noted-next : (vs' ss' : List ℕ) → setting_of r.bytes.now < 65536
      → vs' ≡ noted r.bytes.now vs (version_of r.bytes.now) vs → ss' ≡ noted r.bytes.now vs r.start ss → Noted s (left_of v) v.at vs' ss'
  unfolding start_from
  noted-next vs' ss' small p q =
      record {
        lengths = (ap length p ∙ noted-long r.bytes.now vs (version_of r.bytes.now) vs ∙ n.lengths.0, ap length q ∙ noted-long r.bytes.now vs r.start ss ∙ n.lengths.1);
        each = λ k h.
            let x : get_or vs' k 0 ≡ cond (beats_of k (get_or vs k 0) r.bytes.now) (version_of r.bytes.now) (get_or vs k 0) =
            ap (λ (l : List ℕ). get_or l k 0) p ∙ noted-at r.bytes.now vs (version_of r.bytes.now) vs k (omega (arith, n.lengths.0)) in
            let y : get_or ss' k 0 ≡ cond (beats_of k (get_or vs k 0) r.bytes.now) (w.at + 7) (get_or ss k 0) =
            ap (λ (l : List ℕ). get_or l k 0) q ∙ noted-at r.bytes.now vs r.start ss k (omega (arith, n.lengths.1)) ∙ ap (λ (j : ℕ). cond (beats_of k (get_or vs k 0) r.bytes.now) j (get_or ss k 0)) g.3 in
            rw (x, y) (n.each k h ∙ ap (start_from k (get_or vs k 0) (get_or ss k 0) w.at) g.0 ∙ same k (beats_of k (get_or vs k 0) r.bytes.now));
      }
    where
      same : (k : ℕ) (t : Bool) → cond t (start_from k (version_of r.bytes.now) (w.at + 7) (w.at + length r.bytes.now) (left_of v)) (start_from k (get_or vs k 0) (get_or ss k 0) (w.at + length r.bytes.now) (left_of v))
          ≡ start_from k (cond t (version_of r.bytes.now) (get_or vs k 0)) (cond t (w.at + 7) (get_or ss k 0)) v.at (left_of v)
      same k true = ap (λ (j : ℕ). start_from k (version_of r.bytes.now) (w.at + 7) j (left_of v)) (sym g.2)
      same k false = ap (λ (j : ℕ). start_from k (get_or vs k 0) (get_or ss k 0) j (left_of v)) (sym g.2)
