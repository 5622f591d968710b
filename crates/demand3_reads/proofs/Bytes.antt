-- The reads of a stretch by its whole bytes, and stretches in which none comes any more.
use mathlib.Core.Path.{◌≡◌, refl, sym, ap, ap₂, ◌∙◌}
use mathlib.Core.Bool.{Bool, true, false, cond, false≢true}
use mathlib.Core.List.{List, [], ◌∷◌, ◌++◌}
use mathlib.Core.Option.{Option, none, some}
use Prim.Native.Nat.{ℕ, ◌+◌, ◌*◌, ◌%◌, ◌≤◌}
use native.Mathlib.Omega.{arith}
use lib.Dec.{eqb}
use lib.ListN.{length, take, drop, length-append, length-drop}
use lib.Seq.{take_all}
use borrow.Author.Tests.{eq-eqb, ne_eqb}
use Rattle.clock_spec.specs.Command.{num}
use Rattle.clock_spec.specs.Patterns.{meant, extend}
use Rattle.clock_spec.specs.Phase.{by_first, by_second, by_third, hear, is_more}
use Rattle.clock_spec.specs.declared.Chip.{Chip}
use Rattle.clock_spec.specs.declared.Target.{Target}
use Rattle.clock_spec.specs.declared.Command.{Command}
use Rattle.clock_spec.specs.declared.Command.TheVariants.{Write, Read, Extended, Illegal}
use Rattle.clock_spec.specs.declared.Bytes.{Bytes}
use Rattle.clock_spec.specs.declared.Bytes.TheVariants.{Nothing, One, Two}
use Rattle.clock_spec.specs.declared.Verdict.{Verdict}
use Rattle.clock_spec.specs.declared.Verdict.TheVariants.{More, Reads, Writes, Ignored}
use Rattle.history.proofs.Bits.{Made, made-length, newest_first, Never, NeverBytes, never-more, never-made}
use Rattle.demand3_reads.specs.Shown.{read_by, whole_read}

-- The read of the bytes of a stretch, by their number.
abbrev pub read_of_bytes : Chip → List ℕ → Option Target
read_of_bytes k [] = none
read_of_bytes k (c ∷ []) = read_by (meant k c)
read_of_bytes k (d ∷ c ∷ []) = read_by (extend (meant k c) d)
read_of_bytes k (b ∷ d ∷ c ∷ ys) = none

pub not-8-16 : (k : Chip) (bs : List Bool) → (length bs ≡ 8 → ⊥) → (length bs ≡ 16 → ⊥) → whole_read k bs ≡ none
not-8-16 k bs h i = simp (ne_eqb (length bs) 8 h, ne_eqb (length bs) 16 i)

pub read-part : (k : Chip) (bs : List Bool) → (length bs % 8 ≡ 0 → ⊥) → whole_read k bs ≡ none
read-part k bs h = not-8-16 k bs (λ e. h (omega arith)) (λ e. h (omega arith))

pub is-8 : (k : Chip) (bs : List Bool) → length bs ≡ 8 → whole_read k bs ≡ read_by (meant k (num bs))
is-8 k bs h = simp (eq-eqb (length bs) 8 h)

pub is-16 : (k : Chip) (bs : List Bool) → length bs ≡ 16 → whole_read k bs ≡ read_by (extend (meant k (num (drop 8 bs))) (num (take 8 bs)))
is-16 k bs h = simp (ne_eqb (length bs) 8 (λ e. omega arith), eq-eqb (length bs) 16 h)

pub read_made : (k : Chip) (ys : List ℕ) (bs : List Bool) → Made bs ys → whole_read k bs ≡ read_of_bytes k ys
read_made k [] bs m = not-8-16 k bs (λ e. omega arith) (λ e. omega arith)
read_made k (c ∷ []) bs m =
    let l : length bs ≡ 8 = made-length (c ∷ []) bs m in
    let all : take 8 bs ≡ bs = take_all 8 bs (omega arith) in
    is-8 k bs l ∙ ap (λ (x : ℕ). read_by (meant k x)) (ap num (sym all) ∙ m.1)
read_made k (d ∷ c ∷ []) bs m =
    let l : length bs ≡ 16 = made-length (d ∷ c ∷ []) bs m in
    let all : take 8 (drop 8 bs) ≡ drop 8 bs = take_all 8 (drop 8 bs) (omega (arith, length-drop 8 bs)) in
    is-16 k bs l ∙ ap₂ (λ (x y : ℕ). read_by (extend (meant k x) y)) (ap num (sym all) ∙ m.2.1) m.1
read_made k (b ∷ d ∷ c ∷ ys) bs m =
    let l : length bs ≡ 8 * length (b ∷ d ∷ c ∷ ys) = made-length (b ∷ d ∷ c ∷ ys) bs m in
    not-8-16 k bs (λ e. omega arith) (λ e. omega arith)

-- ---- what the chip hears

-- The target of a read.
abbrev pub read_of : Verdict → Option Target
read_of More = none
read_of (Reads t) = some t
read_of (Writes t) = none
read_of Ignored = none

first_read : (c : Command) → read_by c ≡ read_of (by_first c)
first_read (Write t) = refl
first_read (Read t) = refl
first_read (Extended z a) = refl
first_read Illegal = refl

second-read : (c : Command) (b : ℕ) → read_by (extend c b) ≡ read_of (by_second c b)
second-read (Write t) b = refl
second-read (Read t) b = refl
second-read (Extended z a) b = first_read (extend (Extended z a) b)
second-read Illegal b = refl

third-read : (c : Command) → none ≡ read_of (by_third c)
third-read (Write t) = refl
third-read (Read t) = refl
third-read (Extended z a) = refl
third-read Illegal = refl

-- What the chip hears is what the history's whole read says.
pub heard-read : (k : Chip) (ys : Bytes) (b : ℕ) → read_of_bytes k (b ∷ newest_first ys) ≡ read_of (hear k ys b)
unfolding hear
heard-read k Nothing b = first_read (meant k b)
heard-read k (One c) b = second-read (meant k c) b
heard-read k (Two c d) b = third-read (extend (meant k c) d)

-- ---- once no byte is to follow

first-quiet : (c : Command) → is_more (by_first c) ≡ false → (d : ℕ) → read_by (extend c d) ≡ none
first-quiet (Write t) g d = absurd (false≢true (sym g))
first-quiet (Read t) g d = refl
first-quiet (Extended z a) g d = absurd (false≢true (sym g))
first-quiet Illegal g d = refl

read-long : (k : Chip) (ys : List ℕ) → 3 ≤ length ys → read_of_bytes k ys ≡ none
read-long k [] h = absurd (omega arith)
read-long k (b ∷ []) h = absurd (omega arith)
read-long k (b ∷ c ∷ []) h = absurd (omega arith)
read-long k (b ∷ d ∷ c ∷ ys) h = refl

heard-quiet : (k : Chip) (ys : Bytes) (b : ℕ) → is_more (hear k ys b) ≡ false → NeverBytes (read_of_bytes k) (b ∷ newest_first ys)
unfolding hear
heard-quiet k Nothing c g z [] = first-quiet (meant k c) g z
heard-quiet k Nothing c g z (y ∷ zs) = read-long k (z ∷ y ∷ (zs ++ (c ∷ []))) (omega (arith, length-append zs (c ∷ [])))
heard-quiet k (One c) b g z zs = read-long k (z ∷ (zs ++ (b ∷ c ∷ []))) (omega (arith, length-append zs (b ∷ c ∷ [])))
heard-quiet k (Two c d) b g z zs = read-long k (z ∷ (zs ++ (b ∷ d ∷ c ∷ []))) (omega (arith, length-append zs (b ∷ d ∷ c ∷ [])))

-- No later rise of the stretch has a read.
abbrev pub Quiet : Chip → List Bool → Type 0
Quiet k bs = Never (whole_read k) bs

pub quiet-more : (k : Chip) (bs : List Bool) (x : Bool) → Quiet k bs → Quiet k (x ∷ bs)
quiet-more k = never-more (whole_read k)

pub quiet-heard : (k : Chip) (ys : Bytes) (b : ℕ) (bs : List Bool) → Made bs (b ∷ newest_first ys) → is_more (hear k ys b) ≡ false → Quiet k bs
quiet-heard k ys b bs m g = never-made (whole_read k) (read_of_bytes k) (read-part k) (read_made k) (b ∷ newest_first ys) bs m (heard-quiet k ys b g)
