-- How the chip's phase stands to the bits of the stretch, entry after entry; and that the chip acts where the history has a complete write end.
use mathlib.Core.Path.{◌≡◌, refl, sym, ap, subst, ◌∙◌}
use mathlib.Core.Bool.{Bool, true, false, cond, not, ◌&&◌, false≢true}
use mathlib.Core.List.{List, [], ◌∷◌, ◌++◌}
use mathlib.Core.Option.{Option, none, some}
use Prim.Native.Nat.{ℕ, ◌+◌, ◌*◌, ◌%◌, ◌≤◌, ◌<◌}
use native.Mathlib.Omega.{arith}
use native.Mathlib.Numerals.{add-one}
use lib.Dec.{eqb}
use lib.ListN.{length, take, drop, length-append, length-drop}
use lib.Seq.{take_at, drop_at}
use borrow.Author.Tests.{eqb-true, eqb-false}
use Rattle.clock_spec.specs.Command.{bit_number, num}
use Rattle.clock_spec.specs.Patterns.{meant, extend}
use Rattle.clock_spec.specs.Shared.{Written, write_by}
use Rattle.clock_spec.specs.Phase.{edge_of, by_first, by_second, by_third, hear, with_byte, byte_phase, write_of, is_more}
use Rattle.clock.specs.Step.{next, acts}
use Rattle.clock.proofs.Keep.{third_last}
use Rattle.clock_spec.specs.declared.Chip.{Chip}
use Rattle.clock_spec.specs.declared.Command.{Command}
use Rattle.clock_spec.specs.declared.Command.TheVariants.{Write, Read, Extended, Illegal}
use Rattle.clock_spec.specs.declared.Bytes.{Bytes}
use Rattle.clock_spec.specs.declared.Bytes.TheVariants.{Nothing, One, Two}
use Rattle.clock_spec.specs.declared.Verdict.{Verdict}
use Rattle.clock_spec.specs.declared.Verdict.TheVariants.{More, Reads, Writes, Ignored}
use Rattle.clock_spec.specs.declared.Phase.{Phase}
use Rattle.clock_spec.specs.declared.Phase.TheVariants.{Idle, Listening, Sending, Ignoring}
use Rattle.clock_spec.specs.declared.Store.{Store}
use Rattle.history.specs.History.{push, complete, complete_in}
use Rattle.history.specs.Start.{bits_newest_first, bits_of_bytes, begun_by}
use Rattle.history.proofs.Phases.{Parts}
use Rattle.history.proofs.Bits.{bits-length, bits-num, Made, made-length, newest_first, bytes-made, whole_write, complete-part, complete-made, Dead, DeadBytes, dead-more, dead-made}

-- ---- the bytes

-- What the chip hears is what the history's complete write says.
first-none : (c : Command) (b : ℕ) → write_of (by_first c) b ≡ none
first-none (Write t) b = refl
first-none (Read t) b = refl
first-none (Extended z a) b = refl
first-none Illegal b = refl

second-write : (c : Command) (b : ℕ) → write_by c b ≡ write_of (by_second c b) b
second-write (Write t) b = refl
second-write (Read t) b = refl
second-write (Extended z a) b = sym (first-none (extend (Extended z a) b) b)
second-write Illegal b = refl

third-write : (c : Command) (b : ℕ) → write_by c b ≡ write_of (by_third c) b
third-write (Write t) b = refl
third-write (Read t) b = refl
third-write (Extended z a) b = refl
third-write Illegal b = refl

heard-write : (k : Chip) (ys : Bytes) (b : ℕ) → whole_write k (b ∷ newest_first ys) ≡ write_of (hear k ys b) b
unfolding hear
heard-write k Nothing b = sym (first-none (meant k b) b)
heard-write k (One c) b = second-write (meant k c) b
heard-write k (Two c d) b = third-write (extend (meant k c) d) b

-- Four bytes and more make no complete write.
whole_long : (k : Chip) (ys : List ℕ) → 4 ≤ length ys → whole_write k ys ≡ none
whole_long k [] h = absurd (omega arith)
whole_long k (b ∷ []) h = absurd (omega arith)
whole_long k (b ∷ c ∷ []) h = absurd (omega arith)
whole_long k (b ∷ d ∷ c ∷ []) h = absurd (omega arith)
whole_long k (b ∷ d ∷ c ∷ x ∷ ys) h = refl

first-dead : (c : Command) → is_more (by_first c) ≡ false → (z : ℕ) → (write_by c z ≡ none) × ((d : ℕ) → write_by (extend c d) z ≡ none)
first-dead (Write t) g z = absurd (false≢true (sym g))
first-dead (Read t) g z = (refl, λ d. refl)
first-dead (Extended y a) g z = absurd (false≢true (sym g))
first-dead Illegal g z = (refl, λ d. refl)

second-dead : (c : Command) (b : ℕ) → is_more (by_second c b) ≡ false → (z : ℕ) → write_by (extend c b) z ≡ none
second-dead (Write t) b g z = refl
second-dead (Read t) b g z = refl
second-dead (Extended y a) b g z = (first-dead (extend (Extended y a) b) g z).0
second-dead Illegal b g z = refl

-- Once no byte is to follow, nothing is written any more.
heard-dead : (k : Chip) (ys : Bytes) (b : ℕ) → is_more (hear k ys b) ≡ false → DeadBytes k (b ∷ newest_first ys)
unfolding hear
heard-dead k Nothing c g z [] = (first-dead (meant k c) g z).0
heard-dead k Nothing c g z (y ∷ []) = (first-dead (meant k c) g z).1 y
heard-dead k Nothing c g z (x ∷ y ∷ zs) = whole_long k (z ∷ x ∷ y ∷ (zs ++ (c ∷ []))) (omega (arith, length-append zs (c ∷ [])))
heard-dead k (One c) b g z [] = second-dead (meant k c) b g z
heard-dead k (One c) b g z (y ∷ zs) = whole_long k (z ∷ y ∷ (zs ++ (b ∷ c ∷ []))) (omega (arith, length-append zs (b ∷ c ∷ [])))
heard-dead k (Two c d) b g z zs = whole_long k (z ∷ (zs ++ (b ∷ d ∷ c ∷ []))) (omega (arith, length-append zs (b ∷ d ∷ c ∷ [])))

-- Where one is to follow, the byte stands with those before it.
byte-joins : (k : Chip) (ys : Bytes) (b : ℕ) → is_more (hear k ys b) ≡ true → newest_first (with_byte ys b) ≡ b ∷ newest_first ys
unfolding hear
byte-joins k Nothing b g = refl
byte-joins k (One c) b g = refl
byte-joins k (Two c d) b g = absurd (third_last (extend (meant k c) d) g)

-- ---- the bits

abbrev DeadIn : Chip → Option (List Bool) → Type 0
DeadIn k none = Unit {0}
DeadIn k (some bs) = Dead k bs

-- The bits are those of the bytes ys and n more of value v.
abbrev pub Taken : Bytes → ℕ → ℕ → Option (List Bool) → Type 0
Taken ys n v none = ⊥
Taken ys n v (some bs) = (n ≤ length bs) × Made (drop n bs) (newest_first ys) × (num (take n bs) ≡ v) × (n < 8)

-- The phase, enable's level, and the bits of the stretch.
abbrev pub Tie : Chip → Phase → Bool → Option (List Bool) → Type 0
Tie k p true o = Unit {0}
Tie k Idle false o = ⊥
Tie k (Listening ys n v) false o = Taken ys n v o
Tie k (Sending y n) false o = DeadIn k o
Tie k Ignoring false o = DeadIn k o

-- The bits after an entry, by the levels: what `rises` does.
abbrev pub grow : Bool → Bool → Bool → Bool → Bool → Option (List Bool) → Option (List Bool)
grow e' e c c' d o = cond (not e && not e') (cond ((not e && not e') && (not c && c')) (push d o) o) (some [])

-- The write that ends at an entry, by the levels and the bits after it: what `ending_at` does.
abbrev pub ends : Chip → Bool → Bool → Bool → Bool → Option (List Bool) → Option Written
ends k e' e c c' o = cond ((not e && not e') && (not c && c')) (complete_in k o) none

dead-push : (k : Chip) (x : Bool) (o : Option (List Bool)) → DeadIn k o → DeadIn k (push x o)
dead-push k x none d = tt
dead-push k x (some bs) d = dead-more k bs x d

dead-ends : (k : Chip) (x : Bool) (o : Option (List Bool)) → DeadIn k o → complete_in k (push x o) ≡ none
dead-ends k x none d = refl
dead-ends k x (some bs) d = d [] x

-- A byte is whole.
byte-tied : (k : Chip) (s : Store) (ys : Bytes) (b : ℕ) (bs : List Bool) (v : Verdict) → hear k ys b ≡ v → Made bs (b ∷ newest_first ys)
    → Tie k (byte_phase s ys b v) false (some bs)
byte-tied k s ys b bs More e m = (omega arith, subst (Made bs) (sym (byte-joins k ys b (ap is_more e))) m, refl, omega arith)
byte-tied k s ys b bs (Reads t) e m = dead-made k (b ∷ newest_first ys) bs m (heard-dead k ys b (ap is_more e))
byte-tied k s ys b bs (Writes t) e m = dead-made k (b ∷ newest_first ys) bs m (heard-dead k ys b (ap is_more e))
byte-tied k s ys b bs Ignored e m = dead-made k (b ∷ newest_first ys) bs m (heard-dead k ys b (ap is_more e))

pub eighth : (ys : Bytes) (n v : ℕ) (b : Bool) (bs : List Bool) → n ≡ 7 → Taken ys n v (some bs) → Made (b ∷ bs) ((2 * v + bit_number b) ∷ newest_first ys)
eighth ys n v b bs q (l, m, f, i) =
    let f7 : num (take 7 bs) ≡ v = rw q at f in
    let m7 : Made (drop 7 bs) (newest_first ys) = rw q at m in
    (omega arith, ap (λ (x : ℕ). 2 * x + bit_number b) f7, m7)

-- A rise while bits are taken.
rise-listening : (k : Chip) (s : Store) (ys : Bytes) (n v : ℕ) (b : Bool) (o : Option (List Bool)) (t : Bool) → eqb n 7 ≡ t → Taken ys n v o
    → let w = 2 * v + bit_number b in Tie k (cond t (byte_phase s ys w (hear k ys w)) (Listening ys (n + 1) w)) false (push b o)
rise-listening k s ys n v b none t q i = absurd i
rise-listening k s ys n v b (some bs) true q i =
    byte-tied k s ys (2 * v + bit_number b) (b ∷ bs) (hear k ys (2 * v + bit_number b)) refl (eighth ys n v b bs (eqb-true n 7 q) i)
rise-listening k s ys n v b (some bs) false q (l, m, f, i) =
    subst (λ (j : ℕ). Taken ys j (2 * v + bit_number b) (some (b ∷ bs))) (sym (add-one n))
    (omega arith, m, ap (λ (x : ℕ). 2 * x + bit_number b) f, omega (arith, eqb-false n 7 q))

fall-sending : (k : Chip) (y n : ℕ) (o : Option (List Bool)) (t : Bool) → DeadIn k o → Tie k (cond t Ignoring (Sending y (n + 1))) false o
fall-sending k y n o true d = d
fall-sending k y n o false d = d

-- One entry keeps the tie.
pub tie-step : (s : Store) (p : Phase) (e' e c c' d : Bool) (o : Option (List Bool)) → Tie s.chip p e o
    → Tie s.chip (next s p (edge_of e' e c c' d)) e' (grow e' e c c' d o)
unfolding next
tie-step s p true e c c' d o i = tt
tie-step s p false true c c' d o i = (omega arith, refl, refl, omega arith)
tie-step s p false false false false d o i = i
tie-step s p false false true true d o i = i
tie-step s Idle false false true false d o i = i
tie-step s (Listening ys n v) false false true false d o i = i
tie-step s (Sending y n) false false true false d o i = fall-sending s.chip y n o (eqb n 8) i
tie-step s Ignoring false false true false d o i = i
tie-step s Idle false false false true d o i = i
tie-step s (Listening ys n v) false false false true d o i = rise-listening s.chip s ys n v d o (eqb n 7) refl i
tie-step s (Sending y n) false false false true d o i = dead-push s.chip d o i
tie-step s Ignoring false false false true d o i = dead-push s.chip d o i

acts-listening : (k : Chip) (ys : Bytes) (n v : ℕ) (b : Bool) (o : Option (List Bool)) (t : Bool) → eqb n 7 ≡ t → Taken ys n v o
    → let w = 2 * v + bit_number b in cond t (write_of (hear k ys w) w) none ≡ complete_in k (push b o)
acts-listening k ys n v b none t q i = absurd i
acts-listening k ys n v b (some bs) true q i =
    let w = 2 * v + bit_number b in
    sym (complete-made k (w ∷ newest_first ys) (b ∷ bs) (eighth ys n v b bs (eqb-true n 7 q) i) ∙ heard-write k ys w)
acts-listening k ys n v b (some bs) false q (l, m, f, i) =
    sym (complete-part k (b ∷ bs) (λ z. omega (arith, eqb-false n 7 q, made-length (newest_first ys) (drop n bs) m, length-drop n bs)))

-- At one entry the chip acts on the write that ends there in the history.
pub acts-step : (k : Chip) (p : Phase) (e' e c c' d : Bool) (o : Option (List Bool)) → Tie k p e o
    → acts k p (edge_of e' e c c' d) ≡ ends k e' e c c' (grow e' e c c' d o)
unfolding acts
acts-step k p true true c c' d o i = refl
acts-step k p true false c c' d o i = refl
acts-step k p false true c c' d o i = refl
acts-step k p false false false false d o i = refl
acts-step k p false false true true d o i = refl
acts-step k p false false true false d o i = refl
acts-step k Idle false false false true d o i = absurd i
acts-step k (Listening ys n v) false false false true d o i = acts-listening k ys n v d o (eqb n 7) refl i
acts-step k (Sending y n) false false false true d o i = sym (dead-ends k d o i)
acts-step k Ignoring false false false true d o i = sym (dead-ends k d o i)

-- An accepted state is tied to the stretch that it opens.
pub tie-start : (k : Chip) (p : Phase) (e : Bool) → Parts p e → Tie k p e (begun_by p)
tie-start k p true i = tt
tie-start k Idle false i = absurd (false≢true i)
tie-start k (Listening ys n v) false (q, h, l, u) = (
  omega (arith, length-append (bits_newest_first n v) (bits_of_bytes ys), bits-length n v),
  rw (drop_at (bits_newest_first n v) (bits_of_bytes ys) n (bits-length n v)) (bytes-made ys h),
  ap num (take_at (bits_newest_first n v) (bits_of_bytes ys) n (bits-length n v)) ∙ bits-num n v u,
  l,
)
tie-start k (Sending y n) false i = tt
tie-start k Ignoring false i = tt
