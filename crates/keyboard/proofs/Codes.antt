-- The codes held as a list, against their eight places.
use Prim.Native.Nat.{ℕ, zero, suc, ◌+◌, ◌-◌, ◌≤◌, ◌<◌}
use mathlib.Core.Path.{◌≡◌, refl, sym, ap, ap₂, ◌∙◌}
use mathlib.Core.Bool.{Bool, true, ◌||◌}
use mathlib.Core.List.{List, [], ◌∷◌, ◌++◌}
use native.Mathlib.Omega.{arith}
use lib.ListN.{length, get_or, take, drop, set, replicate, length-append}
use lib.Seq.{length-take-le, take_at, drop_at}
use lib.Dec.{eqb, leb}
use borrow.Author.Tests.{leb-true, eq-eqb, le-leb}
use Rattle.keyboard.specs.declared.Keyboard.{Keyboard}
use Rattle.keyboard.specs.State.{codes_of, places, with_codes, with_left, all_zero, accepted_of}
use Rattle.levels.proofs.Laws.{both, joined}
use Rattle.keyboard.proofs.Lists.{pushed, longer, zeros-are, are-zeros}

-- what an accepted state has
pub record Accepted (k : Keyboard) : Type 0 where
  pub few : k.held ≤ 8
  pub unused : all_zero (drop k.held k.codes) ≡ true
  pub soon : k.left ≤ 195840
  pub alone : (eqb k.left 0 || eqb k.held 0) ≡ true

pub parts : (k : Keyboard) → accepted_of k ≡ true → Accepted k
unfolding accepted_of
parts k h =
    let p = both (leb k.held 8) _ h in
    let q = both (all_zero (drop k.held k.codes)) _ p.1 in
    let r = both (leb k.left 195840) _ q.1 in
    record { few = leb-true _ _ p.0; unused = q.0; soon = leb-true _ _ r.0; alone = r.1 }

pub whole : (k : Keyboard) → Accepted k → accepted_of k ≡ true
unfolding accepted_of
whole k a =
    joined (leb k.held 8) _ (le-leb _ _ a.few)
    (joined (all_zero (drop k.held k.codes)) _ a.unused (joined (leb k.left 195840) _ (le-leb _ _ a.soon) a.alone))

-- the code's way of adding one
pub added : (k : Keyboard) (x : ℕ) → length k.codes ≡ 8 → accepted_of k ≡ true → k.held < 8
    → record { model = k.model; held = k.held + 1; codes = set k.codes k.held x; left = k.left } ≡ with_codes k (codes_of k ++ (x ∷ []))
unfolding codes_of places
added k x l a h =
    let t : length (take k.held k.codes) ≡ k.held = length-take-le k.held k.codes (omega arith) in
    let n : length (take k.held k.codes ++ (x ∷ [])) ≡ length (take k.held k.codes) + 1 = length-append (take k.held k.codes) (x ∷ []) in
    let e : k.held + 1 ≡ length (take k.held k.codes ++ (x ∷ [])) = omega arith in
    let r : length k.codes - suc k.held ≡ 8 - length (take k.held k.codes ++ (x ∷ [])) = omega arith in
    let p : set k.codes k.held x ≡ take k.held k.codes ++ (x ∷ []) ++ replicate (8 - length (take k.held k.codes ++ (x ∷ []))) 0 =
    pushed k.held k.codes x (omega arith) (parts k a).unused ∙ ap (λ (j : ℕ). take k.held k.codes ++ (x ∷ []) ++ replicate j 0) r in
    ap₂ (λ (i : ℕ) (c : List ℕ). record { model = k.model; held = i; codes = c; left = k.left }) e p

-- a code is held: the oldest is in the first place
pub oldest : (k : Keyboard) → length k.codes ≡ 8 → 0 < k.held → codes_of k ≡ get_or k.codes 0 0 ∷ drop 1 (codes_of k)
unfolding codes_of
oldest k l h = headed k.held k.codes h (omega arith)
  where
    headed : (n : ℕ) (c : List ℕ) → 0 < n → 0 < length c → take n c ≡ get_or c 0 0 ∷ drop 1 (take n c)
    headed zero c h q = absurd (omega arith)
    headed (suc n) [] h q = absurd (omega arith)
    headed (suc n) (y ∷ ys) h q = refl

-- the code's way of dropping the oldest, over plain lists
shifted : (n : ℕ) (c : List ℕ) → 0 < n → n ≤ 8 → length c ≡ 8 → all_zero (drop n c) ≡ true → drop 1 c ++ (0 ∷ []) ≡ places (drop 1 (take n c))
unfolding places
shifted zero c p h l z = absurd (omega arith)
shifted (suc n) [] p h l z = absurd (omega arith)
shifted (suc n) (y ∷ ys) p h l z =
    let t : length (take n ys) ≡ n = length-take-le n ys (omega arith) in
    let e : suc (length ys) - n ≡ 8 - length (take n ys) = omega arith in
    longer n ys (omega arith) z ∙ ap (λ (j : ℕ). take n ys ++ replicate j 0) e

fewer : (n : ℕ) (c : List ℕ) → 0 < n → n ≤ length c → n - 1 ≡ length (drop 1 (take n c))
fewer zero c p h = absurd (omega arith)
fewer (suc n) [] p h = absurd (omega arith)
fewer (suc n) (y ∷ ys) p h = let t : length (take n ys) ≡ n = length-take-le n ys (omega arith) in omega arith

pub dropped : (k : Keyboard) (rest : List ℕ) → length k.codes ≡ 8 → accepted_of k ≡ true → 0 < k.held → rest ≡ drop 1 k.codes ++ (0 ∷ [])
    → record { model = k.model; held = k.held - 1; codes = rest; left = k.left } ≡ with_codes k (drop 1 (codes_of k))
unfolding codes_of
dropped k rest l a h e =
    let p = parts k a in
    ap₂ (λ (i : ℕ) (c : List ℕ). record { model = k.model; held = i; codes = c; left = k.left })
    (fewer k.held k.codes h (omega (arith, p.few))) (e ∙ shifted k.held k.codes h p.few l p.unused)

-- what the codes held come to after each setter
pub codes-back : (k : Keyboard) (cs : List ℕ) → codes_of (with_codes k cs) ≡ cs
unfolding codes_of places
codes-back k cs = take_at cs (replicate (8 - length cs) 0) (length cs) refl

pub none-held : (k : Keyboard) → k.held ≡ 0 → codes_of k ≡ []
unfolding codes_of
none-held k e = ap (λ (n : ℕ). take n k.codes) e

-- no code held: eight places of 0
pub emptied : (k : Keyboard) → length k.codes ≡ 8 → accepted_of k ≡ true → codes_of k ≡ [] → with_codes k [] ≡ k
unfolding codes_of places
emptied k l a e =
    let p = parts k a in
    let h : length (take k.held k.codes) ≡ k.held = length-take-le k.held k.codes (omega (arith, p.few)) in
    let z : 0 ≡ k.held = ap length (sym e) ∙ h in
    let s : replicate 8 0 ≡ k.codes = ap (λ (n : ℕ). replicate n 0) (sym l) ∙ sym (zeros-are k.codes (ap (λ (n : ℕ). all_zero (drop n k.codes)) z ∙ p.unused)) in
    ap₂ (λ (i : ℕ) (c : List ℕ). record { model = k.model; held = i; codes = c; left = k.left }) z s

-- ---- the ranges stay

pub ended-accepted : (k : Keyboard) → accepted_of k ≡ true → accepted_of (with_left k 0) ≡ true
ended-accepted k h =
    let a = parts k h in
    whole (with_left k 0) (record { few = a.few; unused = a.unused; soon = omega arith; alone = refl })

pub codes-accepted : (k : Keyboard) (cs : List ℕ) → length cs ≤ 8 → k.left ≡ 0 → accepted_of (with_codes k cs) ≡ true
unfolding places
codes-accepted k cs h e =
    let n : k.left ≤ 195840 = omega (arith, e) in
    whole (with_codes k cs) (record {
      few = h;
      unused = ap all_zero (drop_at cs (replicate (8 - length cs) 0) (length cs) refl) ∙ are-zeros (8 - length cs);
      soon = n;
      alone = ap (λ (b : Bool). b || eqb (length cs) 0) (eq-eqb _ _ e);
    })
