-- The record that counts so far, where there is one, as `Lead` says it.
use Rattle.std.proofs.Common.{ℕ, ◌≡◌, ◌+◌, ◌-◌, true, false, List, [], Option, Some, None, Result, Ok, Err, length, sym, ap, subst, ◌∙◌}
use borrow.Author.Tests.{le-ltb}
use Rattle.refusal.specs.declared.Refusal.{Refusal}
use Rattle.sheet_spec.specs.Records.{Sheet, row, end, broken}
use Rattle.sheet_spec.specs.Counting.{version_of, beats_of}
use Rattle.sheet_spec.specs.Lookup.{search_of}
use Rattle.sheet_spec.specs.declared.Part.{Part}
use Rattle.sheet_spec.proofs.Lead.{Lead, lead-yes, lead-no, search-broken, search-end}
use Rattle.sheet_record.specs.declared.Record.{Record}
use Rattle.sheet_record.specs.declared.Records.{Records}
use Rattle.sheet_record.specs.Walk.{left_of, GivesRecord}

abbrev pub bytes_in : Option Record → List ℕ
bytes_in None = []
bytes_in (Some r) = r.bytes.now

abbrev pub start_in : Option Record → ℕ
start_in None = 0
start_in (Some r) = r.start

abbrev pub Best : Sheet → Sheet → ℕ → ℕ → Option Record → Type 0
Best all left at k o = Lead all left at k (bytes_in o) (start_in o)

-- the version that counts so far
pub version-some : (o : Option Record) (r : Record) (v : ℕ) → v ≡ version_of r.bytes.now → o ≡ Some r → v ≡ version_of (bytes_in o)
version-some o r v e q = e ∙ ap (λ (x : Option Record). version_of (bytes_in x)) (sym q)

pub version-none : (o : Option Record) (v : ℕ) → v ≡ 0 → o ≡ None → v ≡ version_of (bytes_in o)
version-none o v e q = e ∙ ap (λ (x : Option Record). version_of (bytes_in x)) (sym q)

-- at the end of the sheet
pub best-none : (all : Sheet) (at k : ℕ) (o : Option Record) → o ≡ None → Best all end at k o → Ok None ≡ search_of all k
best-none all at k o q w = let v : Best all end at k None = rw q at w in search-end all at k [] 0 v

pub best-some : (all : Sheet) (at k : ℕ) (o : Option Record) (r : Record) → o ≡ Some r → Best all end at k o
    → Ok (Some (record { start = r.start; size = length r.bytes.now - 7 })) ≡ search_of all k
best-some all at k o r q w =
    let v : Best all end at k (Some r) = rw q at w in simp (le-ltb (length r.bytes.now) 7 r.long) at (search-end all at k r.bytes.now r.start v)

-- the walk goes on from w to v: `x` is what it gives
module _ (all : Sheet) (k : ℕ) (o : Option Record) (w v : Records) (x : Result Record Refusal) (g : GivesRecord w (Some x) v) (b : Best all (left_of w) w.at k o) where
  pub best-broken : (e : Refusal) → x ≡ Err e → Err e ≡ search_of all k
  best-broken e q =
      let h : GivesRecord w (Some (Err e)) v = rw q at g in
      let c : Best all broken w.at k o = rw h.0 at b in
      ap Err h.2 ∙ search-broken all w.at k (bytes_in o) (start_in o) c

  module _ (r : Record) (q : x ≡ Ok r) where
    h : GivesRecord w (Some (Ok r)) v
    h = rw q at g

    here : Best all (row r.bytes.now (left_of v)) w.at k o
    here = rw h.0 at b

    pub best-yes : beats_of k (version_of (bytes_in o)) r.bytes.now ≡ true → Best all (left_of v) v.at k (Some r)
    best-yes e =
        subst (λ (n : ℕ). Lead all (left_of v) n k r.bytes.now r.start) (sym h.2)
        (subst (λ (n : ℕ). Lead all (left_of v) (w.at + length r.bytes.now) k r.bytes.now n) (sym h.3) (lead-yes all r.bytes.now (left_of v) w.at k (bytes_in o) (start_in o) here r.long e))

    pub best-no : beats_of k (version_of (bytes_in o)) r.bytes.now ≡ false → Best all (left_of v) v.at k o
    best-no e =
        subst (λ (n : ℕ). Lead all (left_of v) n k (bytes_in o) (start_in o)) (sym h.2) (lead-no all r.bytes.now (left_of v) w.at k (bytes_in o) (start_in o) here r.long e)
