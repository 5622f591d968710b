-- Laws of parts written one after the other, and of parts taken out again.
use Prim.Native.Nat.{ℕ, zero, suc, ◌+◌, ◌-◌, ◌≤◌}
use mathlib.Core.Path.{◌≡◌, refl, sym, ap, ap₂, ◌∙◌}
use mathlib.Core.Bool.{Bool, true, false, ◌&&◌, and_assoc, and-true}
use mathlib.Core.List.{List, [], ◌∷◌, ◌++◌, append_assoc, append-nil}
use native.Mathlib.Omega.{arith}
use native.Mathlib.Nat.{le_of_eq}
use lib.ListN.{length, take, drop, length-append, length-drop, drop_of_length-le}
use lib.Seq.{take_at, drop_at, drop-drop, take-add, take_all, length-take-le}
use lib.Dec.{eqb}
use Rattle.octets.specs.Octets.{put_at}
use Rattle.octets.proofs.Laws.{put-take, put-drop}
use Rattle.image_spec.specs.Layout.{part, same_bytes}

-- parts joined to what is there, and their lengths
abbrev pub joined : List ℕ → List (List ℕ) → List ℕ
joined done [] = done
joined done (x ∷ xs) = joined (done ++ x) xs

abbrev pub sizes : List (List ℕ) → List ℕ
sizes [] = []
sizes (x ∷ xs) = length x ∷ sizes xs

abbrev pub total : List ℕ → ℕ
total [] = 0
total (n ∷ ns) = n + total ns

begins : (done : List ℕ) (xs : List (List ℕ)) → joined done xs ≡ done ++ joined [] xs
begins done [] = sym (append-nil done)
begins done (x ∷ xs) = begins (done ++ x) xs ∙ append_assoc done x (joined [] xs) ∙ ap (λ (r : List ℕ). done ++ r) (sym (begins x xs))

pub joined-long : (done : List ℕ) (xs : List (List ℕ)) → length (joined done xs) ≡ length done + total (sizes xs)
joined-long done [] = omega arith
joined-long done (x ∷ xs) =
    let e : length (joined (done ++ x) xs) ≡ length (done ++ x) + total (sizes xs) = joined-long (done ++ x) xs in
    let n : length (done ++ x) ≡ length done + length x = length-append done x in
    omega arith

-- ---- writing

-- parts of these sizes written one after the other, from `at` on
abbrev pub writes : List ℕ → ℕ → List ℕ → List (List ℕ) → List ℕ
writes d at [] xs = d
writes d at (n ∷ ns) [] = d
writes d at (n ∷ ns) (x ∷ xs) = writes (put_at d at x) (at + n) ns xs

pub put-put : (d : List ℕ) (at : ℕ) (x y : List ℕ) → at + length x + length y ≤ length d → put_at (put_at d at x) (at + length x) y ≡ put_at d at (x ++ y)
put-put d at x y h =
    let fits : at + length x ≤ length d = omega arith in
    let n : length (x ++ y) ≡ length x + length y = length-append x y in
    let sum : at + length x + length y ≡ at + length (x ++ y) = omega arith in
    let rest : drop (at + length x + length y) (put_at d at x) ≡ drop (at + length x + length y) d =
    sym (drop-drop (length y) (at + length x) (put_at d at x)) ∙ ap (drop (length y)) (put-drop d at x fits) ∙ drop-drop (length y) (at + length x) d in
    ap₂ (λ (a b : List ℕ). a ++ y ++ b) (put-take d at x fits) rest
    ∙ ap (λ (a : List ℕ). a ++ drop (at + length x + length y) d) (append_assoc (take at d) x y)
    ∙ ap (λ (k : ℕ). take at d ++ (x ++ y) ++ drop k d) sum

written : (d : List ℕ) (at : ℕ) (done : List ℕ) (xs : List (List ℕ)) → at + length done + total (sizes xs) ≤ length d
    → writes (put_at d at done) (at + length done) (sizes xs) xs ≡ put_at d at (joined done xs)
written d at done [] h = refl
written d at done (x ∷ xs) h =
    let n : length (done ++ x) ≡ length done + length x = length-append done x in
    let sum : at + length done + length x ≡ at + length (done ++ x) = omega arith in
    ap (λ (e : List ℕ). writes e (at + length done + length x) (sizes xs) xs) (put-put d at done x (omega arith))
    ∙ ap (λ (k : ℕ). writes (put_at d at (done ++ x)) k (sizes xs) xs) sum
    ∙ written d at (done ++ x) xs (omega arith)

-- the same with the places written out
pub laid : (d : List ℕ) (at to : ℕ) (done ns : List ℕ) (xs : List (List ℕ)) → at + length done ≡ to → sizes xs ≡ ns → to + total ns ≤ length d
    → writes (put_at d at done) to ns xs ≡ put_at d at (joined done xs)
laid d at to done ns xs e f h =
    ap₂ (λ (k : ℕ) (l : List ℕ). writes (put_at d at done) k l xs) (sym e) (sym f)
    ∙ written d at done xs (rw (e, f) h)

-- written over the whole
pub whole : (d x : List ℕ) → length d ≡ length x → put_at d 0 x ≡ x
whole d x e =
    let k : length d ≤ 0 + length x = omega arith in
    ap (λ (r : List ℕ). take 0 d ++ x ++ r) (drop_of_length-le d k) ∙ append-nil x

-- the end written first, and then all that comes before it
pub end-first : (d : List ℕ) (at : ℕ) (f x : List ℕ) → length f ≡ at → length d ≡ at + length x → put_at (put_at d at x) 0 f ≡ f ++ x
end-first d at f x e n =
    let z : 0 + length f ≡ at = omega (arith, e) in
    let l : length (take at d) ≡ at = length-take-le at d (omega (arith, n)) in
    ap (λ (k : ℕ). take 0 (put_at d at x) ++ f ++ drop k (put_at d at x)) z
    ∙ ap (λ (r : List ℕ). f ++ r) (ap (drop at) (append_assoc (take at d) x (drop (at + length x) d)) ∙ drop_at (take at d) (x ++ drop (at + length x) d) at l ∙ ap (λ (r : List ℕ). x ++ r) (drop_of_length-le d (le_of_eq n)) ∙ append-nil x)

-- three parts written one after the other, each with the bytes that it is equal to
pub put_three : (d : List ℕ) (i j k : ℕ) {d₁ d₂ d₃ x x' y y' z z' : List ℕ} → d₁ ≡ put_at d i x' → d₂ ≡ put_at d₁ j y' → d₃ ≡ put_at d₂ k z' → x' ≡ x → y' ≡ y → z' ≡ z
    → d₃ ≡ put_at (put_at (put_at d i x) j y) k z
put_three d i j k e₁ e₂ e₃ ex ey ez =
    e₃ ∙ ap₂ (λ (u w : List ℕ). put_at u k w) (e₂ ∙ ap₂ (λ (u w : List ℕ). put_at u j w) (e₁ ∙ ap (put_at d i) ex) ey) ez

-- ---- reading

-- the parts of these sizes, from `at` on
abbrev pub cut : ℕ → List ℕ → List ℕ → List (List ℕ)
cut at [] s = []
cut at (n ∷ ns) s = part at n s ∷ cut (at + n) ns s

-- the one with n before it
abbrev pub pick : ℕ → List (List ℕ) → List ℕ
pick n [] = []
pick zero (x ∷ xs) = x
pick (suc n) (x ∷ xs) = pick n xs

part-at : (done x r : List ℕ) → part (length done) (length x) (done ++ x ++ r) ≡ x
part-at done x r =
    ap (take (length x)) (ap (drop (length done)) (append_assoc done x r) ∙ drop_at done (x ++ r) (length done) refl)
    ∙ take_at x r (length x) refl

cut-joined : (done : List ℕ) (xs : List (List ℕ)) → cut (length done) (sizes xs) (joined done xs) ≡ xs
cut-joined done [] = refl
cut-joined done (x ∷ xs) =
    ap₂ (λ (y : List ℕ) (ys : List (List ℕ)). y ∷ ys)
    (ap (part (length done) (length x)) (begins (done ++ x) xs) ∙ part-at done x (joined [] xs))
    (ap (λ (k : ℕ). cut k (sizes xs) (joined (done ++ x) xs)) (sym (length-append done x)) ∙ cut-joined (done ++ x) xs)

-- parts joined and cut again, with the places written out
pub parted : (at : ℕ) (done ns : List ℕ) (xs : List (List ℕ)) → length done ≡ at → sizes xs ≡ ns → cut at ns (joined done xs) ≡ xs
parted at done ns xs e f = ap₂ (λ (k : ℕ) (l : List ℕ). cut k l (joined done xs)) (sym e) (sym f) ∙ cut-joined done xs

-- ---- the same bytes

pub same_more : (a c b d : List ℕ) → length a ≡ length c → same_bytes (a ++ b) (c ++ d) ≡ (same_bytes a c && same_bytes b d)
unfolding same_bytes
same_more [] [] b d e = refl
same_more [] (y ∷ c) b d e = absurd (omega (arith, e))
same_more (x ∷ a) [] b d e = absurd (omega (arith, e))
same_more (x ∷ a) (y ∷ c) b d e = ap (λ (t : Bool). eqb x y && t) (same_more a c b d (omega (arith, e))) ∙ sym (and_assoc (eqb x y) (same_bytes a c) (same_bytes b d))

-- part by part
abbrev pub all_same : List (List ℕ) → List (List ℕ) → Bool
all_same [] ys = true
all_same (x ∷ xs) [] = false
all_same (x ∷ xs) (y ∷ ys) = same_bytes x y && all_same xs ys

same_parts : (done : List ℕ) (xs : List (List ℕ)) (s : List ℕ) → length s ≡ length done + total (sizes xs)
    → same_bytes (joined done xs) s ≡ (same_bytes done (take (length done) s) && all_same xs (cut (length done) (sizes xs) s))
same_parts done [] s e =
    ap (same_bytes done) (sym (take_all (length done) s (omega (arith, e))))
    ∙ sym (and-true (same_bytes done (take (length done) s)))
same_parts done (x ∷ xs) s e =
    let n : ℕ = length done in
    let m : ℕ = length x in
    let l : length (done ++ x) ≡ n + m = length-append done x in
    same_parts (done ++ x) xs s (omega (arith, e, l))
    ∙ ap (λ (k : ℕ). same_bytes (done ++ x) (take k s) && all_same xs (cut k (sizes xs) s)) l
    ∙ ap (λ (t : Bool). t && all_same xs (cut (n + m) (sizes xs) s)) (ap (same_bytes (done ++ x)) (take-add n m s) ∙ same_more done (take n s) x (part n m s) (sym (length-take-le n s (omega (arith, e)))))
    ∙ and_assoc (same_bytes done (take n s)) (same_bytes x (part n m s)) (all_same xs (cut (n + m) (sizes xs) s))

-- the same with the places written out
pub same-cut : (at : ℕ) (done ns : List ℕ) (xs : List (List ℕ)) (s : List ℕ) → length done ≡ at → sizes xs ≡ ns → length s ≡ at + total ns
    → same_bytes (joined done xs) s ≡ (same_bytes done (take at s) && all_same xs (cut at ns s))
same-cut at done ns xs s e f h =
    same_parts done xs s (rw (e, f) h)
    ∙ ap₂ (λ (k : ℕ) (l : List ℕ). same_bytes done (take k s) && all_same xs (cut k l s)) e f

pub part-long : (at n : ℕ) (s : List ℕ) → at + n ≤ length s → length (part at n s) ≡ n
part-long at n s h =
    let k : length (drop at s) ≡ length s - at = length-drop at s in
    length-take-le n (drop at s) (omega arith)
