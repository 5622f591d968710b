-- Bits as numbers and as whole bytes, and stretches that hold no complete write however they go on.
use mathlib.Core.Path.{◌≡◌, refl, sym, ap, ap₂, ◌∙◌}
use mathlib.Core.Bool.{Bool, true, false, cond}
use mathlib.Core.List.{List, [], ◌∷◌, ◌++◌}
use mathlib.Core.Option.{Option, none}
use Prim.Native.Nat.{ℕ, zero, suc, ◌+◌, ◌*◌, ◌/◌, ◌%◌, ◌^◌, ◌≤◌, ◌<◌}
use native.Mathlib.Omega.{arith}
use lib.Dec.{eqb}
use lib.ListN.{length, take, drop, length-append, length-drop}
use lib.Seq.{append_snoc, take_all, take_at, drop_at, drop-drop, drop-append-le}
use borrow.Author.Tests.{eqb-true, eqb-false, eq-eqb, ne_eqb}
use Rattle.clock_spec.specs.Command.{bit_number, num}
use Rattle.clock_spec.specs.Patterns.{meant, extend}
use Rattle.clock_spec.specs.Shared.{Written, write_by}
use Rattle.clock_spec.specs.declared.Chip.{Chip}
use Rattle.clock_spec.specs.declared.Bytes.{Bytes}
use Rattle.clock_spec.specs.declared.Bytes.TheVariants.{Nothing, One, Two}
use Rattle.clock_spec.proofs.CommandRange.{bit_le}
use Rattle.history.specs.History.{complete}
use Rattle.history.specs.Start.{bits_newest_first, bits_of_bytes}

pub num-bound : (n : ℕ) (bs : List Bool) → num (take n bs) < 2 ^ n
num-bound zero bs = omega arith
num-bound (suc n) [] = omega (arith, num-bound n [])
num-bound (suc n) (b ∷ bs) = omega (arith, num-bound n bs, bit_le b)

-- The bits of a number are its own.
pub bits-length : (n v : ℕ) → length (bits_newest_first n v) ≡ n
bits-length zero v = refl
bits-length (suc n) v = ap suc (bits-length n (v / 2))

low_bit : (v : ℕ) (t : Bool) → eqb (v % 2) 1 ≡ t → bit_number t ≡ v % 2
low_bit v true e = sym (eqb-true (v % 2) 1 e)
low_bit v false e = omega (arith, eqb-false (v % 2) 1 e)

pub bits-num : (n v : ℕ) → v < 2 ^ n → num (bits_newest_first n v) ≡ v
bits-num zero v h = omega arith
bits-num (suc n) v h = omega (arith, bits-num n (v / 2) (omega arith), low_bit v (eqb (v % 2) 1) refl)

-- ---- bits as whole bytes

-- The bits are these bytes, both with the newest first.
abbrev pub Made : List Bool → List ℕ → Type 0
Made bs [] = length bs ≡ 0
Made bs (y ∷ ys) = (8 ≤ length bs) × (num (take 8 bs) ≡ y) × Made (drop 8 bs) ys

pub made-length : (ys : List ℕ) (bs : List Bool) → Made bs ys → length bs ≡ 8 * length ys
made-length [] bs m = m
made-length (y ∷ ys) bs (l, e, m) = omega (arith, made-length ys (drop 8 bs) m, length-drop 8 bs)

-- Bytes in their order, the newest first.
abbrev pub newest_first : Bytes → List ℕ
newest_first Nothing = []
newest_first (One c) = c ∷ []
newest_first (Two c d) = d ∷ c ∷ []

abbrev pub AllBytes : Bytes → Type 0
AllBytes Nothing = Unit {0}
AllBytes (One c) = c < 256
AllBytes (Two c d) = (c < 256) × (d < 256)

byte-made : (y : ℕ) (rest : List Bool) (ys : List ℕ) → y < 256 → Made rest ys → Made (bits_newest_first 8 y ++ rest) (y ∷ ys)
byte-made y rest ys h m =
    let l : length (bits_newest_first 8 y) ≡ 8 = bits-length 8 y in (
      omega (arith, length-append (bits_newest_first 8 y) rest),
      ap num (take_at (bits_newest_first 8 y) rest 8 l) ∙ bits-num 8 y h,
      rw (drop_at (bits_newest_first 8 y) rest 8 l) m,
    )

pub bytes-made : (bs : Bytes) → AllBytes bs → Made (bits_of_bytes bs) (newest_first bs)
bytes-made Nothing h = refl
bytes-made (One c) h = byte-made c [] [] h refl
bytes-made (Two c d) (h, k) = byte-made d (bits_newest_first 8 c) (c ∷ []) k (byte-made c [] [] h refl)

-- Whole bytes of bits before others.
made_more : (k : ℕ) (xs bs : List Bool) (ys : List ℕ) → length xs ≡ 8 * k → Made bs ys → (zs : List ℕ) × (length zs ≡ k) × Made (xs ++ bs) (zs ++ ys)
made_more zero [] bs ys l m = ([], refl, m)
made_more zero (x ∷ xs) bs ys l m = absurd (omega arith)
made_more (suc k) xs bs ys l m =
    let h : 8 ≤ length xs = omega arith in
    let r = made_more k (drop 8 xs) bs ys (omega (arith, length-drop 8 xs)) m in (
      num (take 8 (xs ++ bs)) ∷ r.0,
      ap suc r.1,
      (omega (arith, length-append xs bs), refl, rw (drop-append-le 8 xs bs h) r.2),
    )

-- ---- the complete write

-- The complete write of the bytes of a stretch, by their number.
abbrev pub whole_write : Chip → List ℕ → Option Written
whole_write k [] = none
whole_write k (b ∷ []) = none
whole_write k (b ∷ c ∷ []) = write_by (meant k c) b
whole_write k (b ∷ d ∷ c ∷ []) = write_by (extend (meant k c) d) b
whole_write k (b ∷ d ∷ c ∷ x ∷ ys) = none

-- No complete write ends at a rise that is neither the sixteenth nor the 24th.
not-16-24 : (k : Chip) (bs : List Bool) → (length bs ≡ 16 → ⊥) → (length bs ≡ 24 → ⊥) → complete k bs ≡ none
not-16-24 k bs h i = simp (ne_eqb (length bs) 16 h, ne_eqb (length bs) 24 i)

pub is-16 : (k : Chip) (bs : List Bool) → length bs ≡ 16 → complete k bs ≡ write_by (meant k (num (drop 8 bs))) (num (take 8 bs))
is-16 k bs h = simp (eq-eqb (length bs) 16 h)

pub is-24 : (k : Chip) (bs : List Bool) → length bs ≡ 24
    → complete k bs ≡ write_by (extend (meant k (num (drop 16 bs))) (num (take 8 (drop 8 bs)))) (num (take 8 bs))
is-24 k bs h = simp (ne_eqb (length bs) 16 (λ e. omega arith), eq-eqb (length bs) 24 h)

-- Bits that are not whole bytes make no complete write; whole bytes make what their number says.
pub complete-part : (k : Chip) (bs : List Bool) → (length bs % 8 ≡ 0 → ⊥) → complete k bs ≡ none
complete-part k bs h = not-16-24 k bs (λ e. h (omega arith)) (λ e. h (omega arith))

pub complete-made : (k : Chip) (ys : List ℕ) (bs : List Bool) → Made bs ys → complete k bs ≡ whole_write k ys
complete-made k [] bs m = not-16-24 k bs (λ e. omega arith) (λ e. omega arith)
complete-made k (b ∷ []) bs m = let l : length bs ≡ 8 = made-length (b ∷ []) bs m in not-16-24 k bs (λ e. omega arith) (λ e. omega arith)
complete-made k (b ∷ c ∷ []) bs m =
    let l : length bs ≡ 16 = made-length (b ∷ c ∷ []) bs m in
    let all : take 8 (drop 8 bs) ≡ drop 8 bs = take_all 8 (drop 8 bs) (omega (arith, length-drop 8 bs)) in
    let e : num (drop 8 bs) ≡ c = ap num (sym all) ∙ m.2.1 in
    is-16 k bs l ∙ ap₂ (λ (x y : ℕ). write_by (meant k x) y) e m.1
complete-made k (b ∷ d ∷ c ∷ []) bs m =
    let l : length bs ≡ 24 = made-length (b ∷ d ∷ c ∷ []) bs m in
    let at16 : drop 8 (drop 8 bs) ≡ drop 16 bs = drop-drop 8 8 bs in
    let all : take 8 (drop 16 bs) ≡ drop 16 bs = take_all 8 (drop 16 bs) (omega (arith, length-drop 16 bs)) in
    let e : num (drop 16 bs) ≡ c = ap num (sym all ∙ ap (take 8) (sym at16)) ∙ m.2.2.1 in
    is-24 k bs l ∙ ap₂ (λ (x y : ℕ). write_by (extend (meant k x) y) (num (take 8 bs))) e m.2.1
    ∙ ap (write_by (extend (meant k c) d)) m.1
complete-made k (b ∷ d ∷ c ∷ x ∷ ys) bs m =
    let l : length bs ≡ 8 * length (b ∷ d ∷ c ∷ x ∷ ys) = made-length (b ∷ d ∷ c ∷ x ∷ ys) bs m in
    not-16-24 k bs (λ e. omega arith) (λ e. omega arith)

-- ---- stretches in which nothing more comes to be whole

-- However the stretch goes on, f finds nothing at a later rise; the same of its bytes, by g.
abbrev pub Never : {X : Type 0} → (List Bool → Option X) → List Bool → Type 0
Never f bs = (more : List Bool) (b : Bool) → f (b ∷ (more ++ bs)) ≡ none

abbrev pub NeverBytes : {X : Type 0} → (List ℕ → Option X) → List ℕ → Type 0
NeverBytes g ys = (z : ℕ) (zs : List ℕ) → g (z ∷ (zs ++ ys)) ≡ none

module _ {X : Type 0} (f : List Bool → Option X) where
  pub never-more : (bs : List Bool) (x : Bool) → Never f bs → Never f (x ∷ bs)
  never-more bs x d more b = ap (λ (l : List Bool). f (b ∷ l)) (sym (append_snoc more x bs)) ∙ d (more ++ (x ∷ [])) b

  -- From the bytes to the bits, where f finds nothing in bits that are not whole bytes and goes by g in whole ones.
  pub never-made : (g : List ℕ → Option X) → ((bs : List Bool) → (length bs % 8 ≡ 0 → ⊥) → f bs ≡ none)
      → ((ys : List ℕ) (bs : List Bool) → Made bs ys → f bs ≡ g ys)
      → (ys : List ℕ) (bs : List Bool) → Made bs ys → NeverBytes g ys → Never f bs
  never-made g part made ys bs m d more b = go (eqb (length l % 8) 0) refl
    where
      l : List Bool
      l = b ∷ (more ++ bs)

      some_bytes : (zs : List ℕ) → 1 ≤ length zs → Made l (zs ++ ys) → f l ≡ none
      some_bytes [] h q = absurd (omega arith)
      some_bytes (z ∷ zs) h q = made (z ∷ (zs ++ ys)) l q ∙ d z zs

      go : (t : Bool) → eqb (length l % 8) 0 ≡ t → f l ≡ none
      go false e = part l (eqb-false (length l % 8) 0 e)
      go true e =
          let o : length l % 8 ≡ 0 = eqb-true (length l % 8) 0 e in
          let j : length (b ∷ more) ≡ 8 * (length (b ∷ more) / 8) = omega (arith, length-append more bs, made-length ys bs m) in
          let r = made_more (length (b ∷ more) / 8) (b ∷ more) bs ys j m in
          some_bytes r.0 (omega (arith, r.1)) r.2

-- No later rise ends a complete write.
abbrev pub Dead : Chip → List Bool → Type 0
Dead k bs = Never (complete k) bs

abbrev pub DeadBytes : Chip → List ℕ → Type 0
DeadBytes k ys = NeverBytes (whole_write k) ys

pub dead-more : (k : Chip) (bs : List Bool) (x : Bool) → Dead k bs → Dead k (x ∷ bs)
dead-more k = never-more (complete k)

pub dead-made : (k : Chip) (ys : List ℕ) (bs : List Bool) → Made bs ys → DeadBytes k ys → Dead k bs
dead-made k = never-made (complete k) (whole_write k) (complete-part k) (complete-made k)
