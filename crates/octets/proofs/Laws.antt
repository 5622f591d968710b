-- Laws of the definitions of `specs/Octets.antt` that callers cite.
use Prim.Native.Nat.{ℕ, zero, suc, ◌+◌, ◌-◌, ◌*◌, ◌/◌, ◌%◌, ◌^◌, ◌≤◌, ◌<◌}
use mathlib.Core.Path.{◌≡◌, sym, ap, ◌∙◌}
use mathlib.Core.Bool.{cond}
use mathlib.Core.List.{List, [], ◌∷◌, ◌++◌, append-nil}
use native.Mathlib.Omega.{arith}
use native.Mathlib.Nat.{div-div-eq-div-mul}
use lib.ListN.{length, get_or, take, drop, length-append, length-drop, drop_of_length-le}
use lib.Seq.{drop-cons, take_at, drop_at, length-take-le, get_or-drop}
use lib.Dec.{eqb}
use Rattle.octets.specs.Octets.{le16_of, le32_of, replace, put_at, Bytes, bytes32}

-- a list of n elements is its elements, written out at a numeral n
abbrev pub tab : ℕ → ℕ → List ℕ → List ℕ
tab i zero x = []
tab i (suc n) x = get_or x i 0 ∷ tab (suc i) n x

tab-drop : (n i : ℕ) (x : List ℕ) → length x ≡ i + n → tab i n x ≡ drop i x
tab-drop zero i x e = let h : length x ≤ i = omega arith in sym (drop_of_length-le x h)
tab-drop (suc n) i x e = ap (λ (r : List ℕ). get_or x i 0 ∷ r) (tab-drop n (suc i) x (omega arith)) ∙ sym (drop-cons x i 0 (omega arith))

pub elements : (n : ℕ) (x : List ℕ) → length x ≡ n → tab 0 n x ≡ x
elements n x e = tab-drop n 0 x (omega arith)

-- what `put_at` leaves: as long as before, the front as it was, the bytes put, the rest as it was
module _ (d : List ℕ) (at : ℕ) (x : List ℕ) (fits : at + length x ≤ length d) where
  put-head : length (take at d ++ x) ≡ at + length x
  put-head = length-append (take at d) x ∙ ap (λ (n : ℕ). n + length x) (length-take-le at d (omega arith))

  pub put-length : length (put_at d at x) ≡ length d
  put-length =
      let p : length (take at d ++ x) ≡ at + length x = put-head in
      let q : length (drop (at + length x) d) ≡ length d - (at + length x) = length-drop (at + length x) d in
      length-append (take at d ++ x) (drop (at + length x) d) ∙ omega arith

  pub put-take : take (at + length x) (put_at d at x) ≡ take at d ++ x
  put-take = take_at (take at d ++ x) (drop (at + length x) d) (at + length x) put-head

  pub put-drop : drop (at + length x) (put_at d at x) ≡ drop (at + length x) d
  put-drop = drop_at (take at d ++ x) (drop (at + length x) d) (at + length x) put-head

-- numbers of bytes are within their width
pub le16-width : (s : List ℕ) (at : ℕ) → Bytes s → le16_of s at < 65536
unfolding le16_of
le16-width s at b = let p : get_or s at 0 < 256 = b at in let q : get_or s (at + 1) 0 < 256 = b (at + 1) in omega arith

pub le32-width : (s : List ℕ) (at : ℕ) → Bytes s → le32_of s at < 4294967296
unfolding le32_of
le32-width s at b =
    let p : get_or s at 0 < 256 = b at in
    let q : get_or s (at + 1) 0 < 256 = b (at + 1) in
    let t : get_or s (at + 2) 0 < 256 = b (at + 2) in
    let u : get_or s (at + 3) 0 < 256 = b (at + 3) in
    omega arith

-- a part of a list of bytes is one
pub bytes_drop : (k : ℕ) (s : List ℕ) → Bytes s → Bytes (drop k s)
bytes_drop k s b i = rw (get_or-drop k s i 0) (b (k + i))

pub bytes_take : (k : ℕ) (s : List ℕ) → Bytes s → Bytes (take k s)
bytes_take zero s b i = omega arith
bytes_take (suc k) [] b i = omega arith
bytes_take (suc k) (x ∷ xs) b zero = b zero
bytes_take (suc k) (x ∷ xs) b (suc i) = bytes_take k xs (λ j. b (suc j)) i

-- a byte replaced: the number stays below 2 ^ 32
pub replace-small : (k b s : ℕ) → k < 4 → b < 256 → s < 2 ^ 32 → replace k b s < 2 ^ 32
unfolding replace
replace-small zero b s k h l = omega arith
replace-small (suc zero) b s k h l = omega arith
replace-small (suc (suc zero)) b s k h l = omega arith
replace-small (suc (suc (suc zero))) b s k h l = omega arith
replace-small (suc (suc (suc (suc n)))) b s k h l = absurd (omega arith)

-- byte j after byte k was replaced by b: b where j is k, else unchanged
pub replace-byte : (k j b s : ℕ) → k < 4 → j < 4 → b < 256 → replace k b s / 256 ^ j % 256 ≡ cond (eqb k j) b (s / 256 ^ j % 256)
unfolding replace
replace-byte zero zero b s k j h = omega arith
replace-byte zero (suc zero) b s k j h = omega arith
replace-byte zero (suc (suc zero)) b s k j h = omega arith
replace-byte zero (suc (suc (suc zero))) b s k j h = omega arith
replace-byte zero (suc (suc (suc (suc m)))) b s k j h = absurd (omega arith)
replace-byte (suc zero) zero b s k j h = omega arith
replace-byte (suc zero) (suc zero) b s k j h = omega arith
replace-byte (suc zero) (suc (suc zero)) b s k j h = omega arith
replace-byte (suc zero) (suc (suc (suc zero))) b s k j h = omega arith
replace-byte (suc zero) (suc (suc (suc (suc m)))) b s k j h = absurd (omega arith)
replace-byte (suc (suc zero)) zero b s k j h = omega arith
replace-byte (suc (suc zero)) (suc zero) b s k j h = omega arith
replace-byte (suc (suc zero)) (suc (suc zero)) b s k j h = omega arith
replace-byte (suc (suc zero)) (suc (suc (suc zero))) b s k j h = omega arith
replace-byte (suc (suc zero)) (suc (suc (suc (suc m)))) b s k j h = absurd (omega arith)
replace-byte (suc (suc (suc zero))) zero b s k j h = omega arith
replace-byte (suc (suc (suc zero))) (suc zero) b s k j h = omega arith
replace-byte (suc (suc (suc zero))) (suc (suc zero)) b s k j h = omega arith
replace-byte (suc (suc (suc zero))) (suc (suc (suc zero))) b s k j h = omega arith
replace-byte (suc (suc (suc zero))) (suc (suc (suc (suc m)))) b s k j h = absurd (omega arith)
replace-byte (suc (suc (suc (suc n)))) j b s k q h = absurd (omega arith)

-- four bytes written and read again: divided step by step, as `omega` reads it
back-steps : (n : ℕ) → n < 4294967296 → n % 256 + n / 256 % 256 * 256 + n / 256 / 256 % 256 * 65536 + n / 256 / 256 / 256 % 256 * 16777216 ≡ n
back-steps n h = omega arith

pub back32 : (n : ℕ) → n < 4294967296 → n % 256 + n / 256 % 256 * 256 + n / 65536 % 256 * 65536 + n / 16777216 % 256 * 16777216 ≡ n
back32 n h =
    let e : n / 256 / 256 ≡ n / 65536 = div-div-eq-div-mul n 256 256 in
    let f : n / 256 / 256 / 256 ≡ n / 16777216 = div-div-eq-div-mul (n / 256) 256 256 ∙ div-div-eq-div-mul n 256 65536 in
    rw (← e, ← f) (back-steps n h)

-- and the other way: the bytes of what four bytes say are these bytes
low : (a m : ℕ) → a < 256 → (a + m * 256) % 256 ≡ a
low a m h = omega arith

high : (a m : ℕ) → a < 256 → (a + m * 256) / 256 ≡ m
high a m h = omega arith

pub again32 : (a b c d : ℕ) → a < 256 → b < 256 → c < 256 → d < 256 → bytes32 (a + b * 256 + c * 65536 + d * 16777216) ≡ a ∷ b ∷ c ∷ d ∷ []
again32 a b c d ha hb hc hd =
    let n = a + b * 256 + c * 65536 + d * 16777216 in
    let m = c + d * 256 in
    let l = b + m * 256 in
    let e : n ≡ a + l * 256 = omega arith in
    let f : n / 256 ≡ l = ap (λ (x : ℕ). x / 256) e ∙ high a l ha in
    let g : n / 65536 ≡ m = sym (div-div-eq-div-mul n 256 256) ∙ ap (λ (x : ℕ). x / 256) f ∙ high b m hb in
    let h : n / 16777216 ≡ d = sym (div-div-eq-div-mul n 65536 256) ∙ ap (λ (x : ℕ). x / 256) g ∙ high c d hc in
    let p : n % 256 ≡ a = ap (λ (x : ℕ). x % 256) e ∙ low a l ha in
    let q : n / 256 % 256 ≡ b = ap (λ (x : ℕ). x % 256) f ∙ low b m hb in
    let r : n / 65536 % 256 ≡ c = ap (λ (x : ℕ). x % 256) g ∙ low c d hc in
    let s : n / 16777216 % 256 ≡ d = ap (λ (x : ℕ). x % 256) h ∙ omega (arith, hd) in
    cc

-- written over the whole
pub put_whole : (d x : List ℕ) → length d ≡ length x → put_at d 0 x ≡ x
put_whole d x e =
    let k : length d ≤ 0 + length x = omega arith in
    ap (λ (r : List ℕ). take 0 d ++ x ++ r) (drop_of_length-le d k) ∙ append-nil x
