-- The counting records alone answer as the whole sheet does.
use Prim.Native.Nat.{ℕ, ◌≤◌, ◌<◌}
use mathlib.Core.Path.{◌≡◌, refl, ap, ◌∙◌}
use mathlib.Core.Bool.{Bool, true, false, cond}
use mathlib.Core.List.{List, []}
use native.Mathlib.Omega.{arith}
use lib.Dec.{ltb, eqb}
use borrow.Author.Tests.{lt-ltb, le-ltb, ltb-true, ltb-false, eq-eqb, eqb-true}
use Rattle.sheet_spec.specs.Records.{Sheet, row, end, broken}
use Rattle.sheet_spec.specs.Counting.{setting_of, version_of, beats_of, better_of, counting_from, counting_of}
use Rattle.sheet_spec.specs.Compaction.{none_beats, counts_of, row_if, counting_rows}

-- ---- what a test of a record says

pub beats-yes : (k v : ℕ) (r : List ℕ) → beats_of k v r ≡ true → (setting_of r ≡ k) × (v ≤ version_of r)
unfolding beats_of
beats-yes k v r = go (eqb (setting_of r) k) (ltb (version_of r) v) refl refl
  where
    go : (x y : Bool) → eqb (setting_of r) k ≡ x → ltb (version_of r) v ≡ y → cond x (cond y false true) false ≡ true → (setting_of r ≡ k) × (v ≤ version_of r)
    go true true p q e = let h : ◌≡◌ {A = ℕ} 0 1 = cc in absurd (omega arith)
    go true false p q e = (eqb-true _ _ p, ltb-false _ _ q)
    go false y p q e = let h : ◌≡◌ {A = ℕ} 0 1 = cc in absurd (omega arith)

pub yes-beats : (k v : ℕ) (r : List ℕ) → setting_of r ≡ k → v ≤ version_of r → beats_of k v r ≡ true
unfolding beats_of
yes-beats k v r p q = simp (eq-eqb (setting_of r) k p, le-ltb (version_of r) v q)

pub other-beats : (k v : ℕ) (r : List ℕ) → eqb (setting_of r) k ≡ false → beats_of k v r ≡ false
unfolding beats_of
other-beats k v r p = simp p

pub less : (k v : ℕ) (r : List ℕ) → beats_of k v r ≡ false → eqb (setting_of r) k ≡ true → version_of r < v
unfolding beats_of
less k v r e p = go (ltb (version_of r) v) refl (simp p at e)
  where
    go : (y : Bool) → ltb (version_of r) v ≡ y → cond y false true ≡ false → version_of r < v
    go true q e = ltb-true _ _ q
    go false q e = let h : ◌≡◌ {A = ℕ} 0 1 = cc in absurd (omega arith)

-- ---- what counts has no lower version than what counted before
pub mono : (s : Sheet) (k : ℕ) (b : List ℕ) → version_of b ≤ version_of (counting_from k b s)
unfolding counting_from better_of
mono end k b = omega arith
mono broken k b = omega arith
mono (row r s) k b = go (beats_of k (version_of b) r) refl (mono s k (cond (beats_of k (version_of b) r) r b))
  where
    go : (t : Bool) → beats_of k (version_of b) r ≡ t → version_of (cond t r b) ≤ version_of (counting_from k (cond t r b) s) → version_of b ≤ version_of (counting_from k (cond t r b) s)
    go true e h = omega (arith, (beats-yes k (version_of b) r e).1)
    go false e h = h

-- where no later record beats it, it counts
pub none-counting : (s : Sheet) (k : ℕ) (b : List ℕ) → none_beats k (version_of b) s ≡ true → counting_from k b s ≡ b
unfolding counting_from better_of none_beats
none-counting end k b e = refl
none-counting broken k b e = refl
none-counting (row r s) k b e = go (beats_of k (version_of b) r) (λ h. none-counting s k b h) e
  where
    go : (t : Bool) → (none_beats k (version_of b) s ≡ true → counting_from k b s ≡ b) → cond t false (none_beats k (version_of b) s) ≡ true → counting_from k (cond t r b) s ≡ b
    go true rec e = let h : ◌≡◌ {A = ℕ} 0 1 = cc in absurd (omega arith)
    go false rec e = rec e

module _ (all : Sheet) (k : ℕ) where
  counts-at : (r : List ℕ) (s : Sheet) → setting_of r ≡ k → counts_of all r s ≡ cond (ltb (version_of r) (version_of (counting_from k [] all))) false (none_beats k (version_of r) s)
  unfolding counts_of counting_of
  counts-at r s e = ap (λ (j : ℕ). cond (ltb (version_of r) (version_of (counting_from j [] all))) false (none_beats j (version_of r) s)) e

  -- b counts in the sheet before s, and c in what was kept of that
  abbrev pub Same : Sheet → List ℕ → List ℕ → Type 0
  Same s b c = counting_from k [] all ≡ counting_from k b s → version_of c ≤ version_of b → (none_beats k (version_of b) s ≡ true → c ≡ b) → counting_from k c (counting_rows all s) ≡ counting_from k b s

  module _ (r : List ℕ) (s : Sheet) (rec : (b c : List ℕ) → Same s b c) (b c : List ℕ) (a : counting_from k [] all ≡ counting_from k (better_of k b r) s) (v : version_of c ≤ version_of b) where
    -- it takes the lead, and keeps it
    stays : beats_of k (version_of b) r ≡ true → none_beats k (version_of r) s ≡ true → counting_from k c (row_if (counts_of all r s) r (counting_rows all s)) ≡ counting_from k (better_of k b r) s
    unfolding counting_from better_of
    stays e f =
        let y = beats-yes k (version_of b) r e in
        let a₁ : counting_from k [] all ≡ counting_from k r s = a ∙ ap (λ (t : Bool). counting_from k (cond t r b) s) e in
        let top : counting_from k [] all ≡ r = a₁ ∙ none-counting s k r f in
        let n : counts_of all r s ≡ true =
        counts-at r s y.0 ∙ rw top (simp (le-ltb (version_of r) (version_of r) (omega arith)) f) in
        let q : beats_of k (version_of c) r ≡ true = yes-beats k (version_of c) r y.0 (omega arith) in
        simp (n, e) (ap (λ (t : Bool). counting_from k (cond t r c) (counting_rows all s)) q ∙ rec r r a₁ (omega arith) (λ h. refl))

    -- it takes the lead, and loses it
    loses : beats_of k (version_of b) r ≡ true → none_beats k (version_of r) s ≡ false → counting_from k c (row_if (counts_of all r s) r (counting_rows all s)) ≡ counting_from k (better_of k b r) s
    unfolding better_of
    loses e f =
        let y = beats-yes k (version_of b) r e in
        let a₁ : counting_from k [] all ≡ counting_from k r s = a ∙ ap (λ (t : Bool). counting_from k (cond t r b) s) e in
        let n : counts_of all r s ≡ false = counts-at r s y.0 ∙ rw f (none (ltb (version_of r) (version_of (counting_from k [] all)))) in
        simp (n, e) (rec r c a₁ (omega arith) (λ h. let z : ◌≡◌ {A = ℕ} 0 1 = cc in absurd (omega arith)))
      where
        none : (t : Bool) → cond t false false ≡ false
        none true = refl
        none false = refl

    module _ (e : beats_of k (version_of b) r ≡ false) (w : none_beats k (version_of b) s ≡ true → c ≡ b) where
      a₂ : counting_from k [] all ≡ counting_from k b s
      unfolding better_of
      a₂ = a ∙ ap (λ (t : Bool). counting_from k (cond t r b) s) e

      -- it is of the setting, and too low
      low : eqb (setting_of r) k ≡ true → counting_from k c (row_if (counts_of all r s) r (counting_rows all s)) ≡ counting_from k (better_of k b r) s
      unfolding better_of
      low p =
          let l : version_of r < version_of b = less k (version_of b) r e p in
          let m : version_of b ≤ version_of (counting_from k b s) = mono s k b in
          let n : counts_of all r s ≡ false = counts-at r s (eqb-true _ _ p) ∙ rw a₂ (simp (lt-ltb (version_of r) (version_of (counting_from k b s)) (omega arith))) in
          simp (n, e) (rec b c a₂ v w)

      -- it is of another setting
      other : eqb (setting_of r) k ≡ false → counting_from k c (row_if (counts_of all r s) r (counting_rows all s)) ≡ counting_from k (better_of k b r) s
      unfolding better_of counting_from
      other p = simp e (go (counts_of all r s))
        where
          go : (t : Bool) → counting_from k c (row_if t r (counting_rows all s)) ≡ counting_from k b s
          go true = ap (λ (t : Bool). counting_from k (cond t r c) (counting_rows all s)) (other-beats k (version_of c) r p) ∙ rec b c a₂ v w
          go false = rec b c a₂ v w

  pub same_from : (s : Sheet) (b c : List ℕ) → Same s b c
  unfolding counting_from counting_rows none_beats
  same_from end b c a v w = w refl
  same_from broken b c a v w = w refl
  same_from (row r s) b c a v w = go (beats_of k (version_of b) r) (none_beats k (version_of r) s) (eqb (setting_of r) k) (λ b₁ c₁. same_from s b₁ c₁) refl refl refl
    where
      go : (t u x : Bool) → ((b₁ c₁ : List ℕ) → Same s b₁ c₁) → beats_of k (version_of b) r ≡ t → none_beats k (version_of r) s ≡ u → eqb (setting_of r) k ≡ x → counting_from k c (row_if (counts_of all r s) r (counting_rows all s)) ≡ counting_from k (better_of k b r) s
      go true true x rec e f p = stays r s rec b c a v e f
      go true false x rec e f p = loses r s rec b c a v e f
      go false u true rec e f p = low r s rec b c a v e (λ h. w (simp e h)) p
      go false u false rec e f p = other r s rec b c a v e (λ h. w (simp e h)) p

-- every setting's counting record is the same
pub same : (all : Sheet) (k : ℕ) → counting_of (counting_rows all all) k ≡ counting_of all k
unfolding counting_of
same all k = same_from all k all [] [] refl (omega arith) (λ h. refl)

-- ---- one record for each setting

-- no later record is of the same setting
abbrev pub Once : Sheet → Type 0
Once (row r s) = (none_beats (setting_of r) 0 s ≡ true) × Once s
Once end = Unit {0}
Once broken = Unit {0}

module _ (all : Sheet) where
  -- none is kept whose version is beaten
  kept-none : (s : Sheet) (k v : ℕ) → none_beats k v s ≡ true → v ≤ version_of (counting_from k [] all) → none_beats k 0 (counting_rows all s) ≡ true
  unfolding counting_rows none_beats
  kept-none end k v f h = refl
  kept-none broken k v f h = refl
  kept-none (row r s) k v f h = go (beats_of k v r) (counts_of all r s) (eqb (setting_of r) k) refl refl refl (λ f₁. kept-none s k v f₁ h) f
    where
      go : (t u x : Bool) → beats_of k v r ≡ t → counts_of all r s ≡ u → eqb (setting_of r) k ≡ x → (none_beats k v s ≡ true → none_beats k 0 (counting_rows all s) ≡ true) → cond t false (none_beats k v s) ≡ true → none_beats k 0 (row_if u r (counting_rows all s)) ≡ true
      go true u x e n p rec f = let z : ◌≡◌ {A = ℕ} 0 1 = cc in absurd (omega arith)
      go false false x e n p rec f = rec f
      go false true false e n p rec f = simp (other-beats k 0 r p) (rec f)
      go false true true e n p rec f =
          let l : version_of r < v = less k v r e p in
          let m : counts_of all r s ≡ false = counts-at all k r s (eqb-true _ _ p) ∙ simp (lt-ltb (version_of r) (version_of (counting_from k [] all)) (omega arith)) in
          let z : ◌≡◌ {A = ℕ} 0 1 = cc in absurd (omega arith)

  -- its version is no higher than the counting record's
  below : (r : List ℕ) (s : Sheet) (b : List ℕ) → counting_from (setting_of r) [] all ≡ counting_from (setting_of r) (better_of (setting_of r) b r) s → version_of r ≤ version_of (counting_from (setting_of r) [] all)
  unfolding better_of
  below r s b a = rw a (go (beats_of (setting_of r) (version_of b) r) refl (mono s (setting_of r) (cond (beats_of (setting_of r) (version_of b) r) r b)))
    where
      go : (t : Bool) → beats_of (setting_of r) (version_of b) r ≡ t → version_of (cond t r b) ≤ version_of (counting_from (setting_of r) (cond t r b) s) → version_of r ≤ version_of (counting_from (setting_of r) (cond t r b) s)
      go true e h = h
      go false e h = omega (arith, less (setting_of r) (version_of b) r e (eq-eqb (setting_of r) (setting_of r) refl))

  -- no later record beats one that counts
  held : (r : List ℕ) (s : Sheet) → counts_of all r s ≡ true → none_beats (setting_of r) (version_of r) s ≡ true
  unfolding counts_of
  held r s n = go (ltb (version_of r) (version_of (counting_of all (setting_of r)))) n
    where
      go : (t : Bool) → cond t false (none_beats (setting_of r) (version_of r) s) ≡ true → none_beats (setting_of r) (version_of r) s ≡ true
      go true n = let z : ◌≡◌ {A = ℕ} 0 1 = cc in absurd (omega arith)
      go false n = n

  once-from : (s : Sheet) (f : ℕ → List ℕ) → ((k : ℕ) → counting_from k [] all ≡ counting_from k (f k) s) → Once (counting_rows all s)
  unfolding counting_rows counting_from
  once-from end f a = tt
  once-from broken f a = tt
  once-from (row r s) f a = go (counts_of all r s) refl (once-from s (λ k. better_of k (f k) r) a)
    where
      go : (t : Bool) → counts_of all r s ≡ t → Once (counting_rows all s) → Once (row_if t r (counting_rows all s))
      go true n rec = (kept-none s (setting_of r) (version_of r) (held r s n) (below r s (f (setting_of r)) (a (setting_of r))), rec)
      go false n rec = rec

  pub once : Once (counting_rows all all)
  once = once-from all (λ k. []) (λ k. refl)
