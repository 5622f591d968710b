-- A number of a line: a word read character by character, and where it ends.
use Rattle.std.proofs.Common.{Option, Some, None, MatchOption, unwrap_or, Bor}
use Rattle.std.specs.List.{slice_range}
use Rattle.std.proofs.Math.Seq.{take-length}
use mathlib.Core.Logic.{◌⊎◌, inl, inr}
use mathlib.Core.Path.{◌≡◌, refl, sym, ap, ap₂, ◌∙◌}
use mathlib.Core.Bool.{Bool, true, false, cond, ◌&&◌}
use mathlib.Core.List.{List, [], ◌∷◌}
use Prim.Native.Nat.{ℕ, suc, ◌+◌, ◌≤◌, ◌<◌, zero-le, suc-le-suc}
use native.Mathlib.Omega.{arith}
use borrow.Author.Tests.{eq-eqb, ne_eqb}
use lib.Dec.{eqb}
use lib.ListN.{length, get_or, take, drop, length-drop, drop_of_length-le}
use lib.Seq.{drop-cons}
use Rattle.vectors_words.specs.Words.{before, grown_of, value_of, word_of, number_of}

-- ---- a word, from the character at i on

from : (word : List ℕ) (n : ℕ) (hex first : Bool) (i : ℕ) → i < length word
    → word_of n hex first (drop i word)
    ≡ cond (first && eqb (get_or word i 0) 36) (word_of n true false (drop (i + 1) word)) (word_of (grown_of n (get_or word i 0) hex first) hex false (drop (i + 1) word))
unfolding word_of
from word n hex first i h =
    let e : suc i ≡ i + 1 = omega arith in
    ap (word_of n hex first) (drop-cons word i 0 h)
    ∙ ap
    (λ (k : ℕ). cond (first && eqb (get_or word i 0) 36) (word_of n true false (drop k word)) (word_of (grown_of n (get_or word i 0) hex first) hex false (drop k word)))
    e

pub dollar : (word : List ℕ) (n : ℕ) (hex first : Bool) (i : ℕ) → i < length word → (first && eqb (get_or word i 0) 36) ≡ true
    → word_of n hex first (drop i word) ≡ word_of n true false (drop (i + 1) word)
dollar word n hex first i h t =
    from word n hex first i h
    ∙ ap (λ (b : Bool). cond b (word_of n true false (drop (i + 1) word)) (word_of (grown_of n (get_or word i 0) hex first) hex false (drop (i + 1) word))) t

pub more : (word : List ℕ) (n : ℕ) (hex first : Bool) (i : ℕ) → i < length word → (first && eqb (get_or word i 0) 36) ≡ false
    → word_of n hex first (drop i word) ≡ word_of (grown_of n (get_or word i 0) hex first) hex false (drop (i + 1) word)
more word n hex first i h t =
    from word n hex first i h
    ∙ ap (λ (b : Bool). cond b (word_of n true false (drop (i + 1) word)) (word_of (grown_of n (get_or word i 0) hex first) hex false (drop (i + 1) word))) t

pub stop : (word : List ℕ) (n : ℕ) (hex first : Bool) (i : ℕ) → length word ≤ i → n ≡ word_of n hex first (drop i word)
unfolding word_of
stop word n hex first i h = sym (ap (word_of n hex first) (drop_of_length-le word h))

-- ---- a word is what stands before the next space

pub worded : (n : ℕ) (hex first : Bool) (s : List ℕ) → value_of n hex first s ≡ word_of n hex first (take (before 32 s) s)
unfolding before value_of word_of
worded n hex first [] = refl
worded n hex first (c ∷ s) = by (eqb c 32) (worded n true false s) (worded (grown_of n c hex first) hex false s)
  where
    by : (t : Bool) → value_of n true false s ≡ word_of n true false (take (before 32 s) s)
        → value_of (grown_of n c hex first) hex false s ≡ word_of (grown_of n c hex first) hex false (take (before 32 s) s)
        → cond t n (cond (first && eqb c 36) (value_of n true false s) (value_of (grown_of n c hex first) hex false s)) ≡ word_of n hex first (take (cond t 0 (suc (before 32 s))) (c ∷ s))
    by true p q = refl
    by false p q = ap₂ (λ (x y : ℕ). cond (first && eqb c 36) x y) p q

-- ---- a mark, and another character before it

pub at_mark : (mark c : ℕ) (s : List ℕ) → c ≡ mark → before mark (c ∷ s) ≡ 0
unfolding before
at_mark mark c s e = ap (λ (t : Bool). cond t 0 (suc (before mark s))) (eq-eqb c mark e)

pub past : (mark c : ℕ) (s : List ℕ) → (c ≡ mark → ⊥) → before mark (c ∷ s) ≡ before mark s + 1
unfolding before
past mark c s e = let k : suc (before mark s) ≡ before mark s + 1 = omega arith in ap (λ (t : Bool). cond t 0 (suc (before mark s))) (ne_eqb c mark e) ∙ k

-- ---- the text from a place on, nothing where it ends before

pub part : (text : List ℕ) (k : ℕ) (o : Option (Bor (List ℕ))) (none : Bor (List ℕ)) → none.now ≡ []
    → MatchOption o ((length text < k) ⊎ (length text < length text)) (λ (x : Bor (List ℕ)). (k ≤ length text) × (length text ≤ length text) × (x.now ≡ slice_range text k (length text)) × (length x.now + k ≡ length text))
    → (unwrap_or o none).now ≡ drop k text
part text k None none e (inl h) = let l : length text ≤ k = omega arith in e ∙ sym (drop_of_length-le text l)
part text k None none e (inr h) = absurd (omega arith)
part text k (Some x) none e m = m.2 ∙ ap (λ (n : ℕ). take n (drop k text)) (sym (length-drop k text)) ∙ take-length (drop k text)

-- ---- where it ends

before-le : (c : ℕ) (s : List ℕ) → before c s ≤ length s
unfolding before
before-le c [] = zero-le
before-le c (b ∷ s) = go (eqb b c) (before-le c s)
  where
    go : (t : Bool) → before c s ≤ length s → cond t 0 (suc (before c s)) ≤ suc (length s)
    go true h = zero-le
    go false h = suc-le-suc h

pub ends : (text : List ℕ) → 1 ≤ length text → (number_of text 1).end ≤ length text + 1
unfolding number_of
ends text h =
    let k = before-le 32 (drop (1 + 1) text) in
    let d = length-drop (1 + 1) text in
    omega (arith, k, d)
