-- Save and restore: an image gives its keyboard back, and a valid image is written again byte for byte.
use Prim.Native.Nat.{ℕ, ◌≤◌, ◌<◌}
use mathlib.Core.Path.{◌≡◌, refl, sym, ap, ap₂, ◌∙◌}
use mathlib.Core.Bool.{Bool, true, false, cond, ◌&&◌}
use mathlib.Core.List.{List, [], ◌∷◌, ◌++◌}
use native.Mathlib.Omega.{arith}
use lib.ListN.{length, get_or, take, drop}
use lib.Dec.{eqb}
use borrow.Author.Tests.{eq-eqb, eqb-true}
use Rattle.levels.proofs.Laws.{no, both}
use Rattle.octets.specs.Octets.{le32_of, Bytes, bytes32}
use Rattle.octets.proofs.Laws.{tab, elements, back32, again32}
use Rattle.keyboard.specs.declared.Keyboard.{Keyboard}
use Rattle.keyboard.specs.State.{accepted_of}
use Rattle.keyboard.proofs.Codes.{parts}
use Rattle.keyboard_image.specs.Image.{image_length, image_of, headed, keyboard_of, valid_image}

-- the eight places, read one by one
pub codes-read : (s : List ℕ) → length s ≡ 18 → tab 6 8 s ≡ take 8 (drop 6 s)
codes-read s e = ap (λ (l : List ℕ). take 8 (drop 6 l)) (elements 18 s e)

-- the image of these eight places
abbrev laid : Keyboard → List ℕ → List ℕ
laid k codes = (16 ∷ 0 ∷ 75 ∷ 66 ∷ k.model ∷ k.held ∷ []) ++ codes ++ bytes32 k.left

pub laid-tab : (k : Keyboard) → length k.codes ≡ 8 → image_of k ≡ laid k (tab 0 8 k.codes)
unfolding image_of
laid-tab k e = ap (laid k) (sym (elements 8 k.codes e))

pub image-long : (k : Keyboard) → length k.codes ≡ 8 → length (image_of k) ≡ image_length
image-long k e = ap length (laid-tab k e)

-- Save, then restore: the same keyboard. So two keyboards have two images.
pub restore-saved : (k : Keyboard) → length k.codes ≡ 8 → k.left < 4294967296 → keyboard_of (image_of k) ≡ k
unfolding keyboard_of le32_of
restore-saved k e h =
    ap keyboard_of (laid-tab k e)
    ∙ ap₂ (λ (codes : List ℕ) (left : ℕ). record { model = k.model; held = k.held; codes = codes; left = left }) (elements 8 k.codes e) (back32 k.left h)

-- The image of an accepted keyboard is valid.
pub saved-valid : (k : Keyboard) → length k.codes ≡ 8 → accepted_of k ≡ true → valid_image (image_of k) ≡ true
unfolding valid_image
saved-valid k e a =
    let soon : k.left ≤ 195840 = (parts k a).soon in
    let l : eqb (length (image_of k)) image_length ≡ true = eq-eqb _ _ (image-long k e) in
    let h : headed (image_of k) ≡ true = ap headed (laid-tab k e) in
    let r : accepted_of (keyboard_of (image_of k)) ≡ true = ap accepted_of (restore-saved k e (omega arith)) ∙ a in
    simp (l, h, r)

-- what a valid image has
pub record Valid (s : List ℕ) : Type 0 where
  pub long : length s ≡ image_length
  pub head : headed s ≡ true
  pub state : accepted_of (keyboard_of s) ≡ true

pub valid-is : (s : List ℕ) → valid_image s ≡ true → Valid s
unfolding valid_image
valid-is s h = by (eqb (length s) image_length) refl h
  where
    by : (b : Bool) → eqb (length s) image_length ≡ b → cond b (headed s && accepted_of (keyboard_of s)) false ≡ true → Valid s
    by true e v = let p = both (headed s) (accepted_of (keyboard_of s)) v in record { long = eqb-true _ _ e; head = p.0; state = p.1 }
    by false e v = no v

heads : (a b c d : ℕ) (r : List ℕ) → a ≡ 16 → b ≡ 0 → c ≡ 75 → d ≡ 66 → 16 ∷ 0 ∷ 75 ∷ 66 ∷ r ≡ a ∷ b ∷ c ∷ d ∷ r
heads a b c d r e f g h = cc

-- A valid image is that of its keyboard: one image for each.
pub saved-restored : (s : List ℕ) → Bytes s → valid_image s ≡ true → image_of (keyboard_of s) ≡ s
unfolding image_of keyboard_of le32_of
saved-restored s b v =
    let w = valid-is s v in
    let p = both (eqb (get_or s 0 0) 16) _ w.head in
    let q = both (eqb (get_or s 1 0) 0) _ p.1 in
    let r = both (eqb (get_or s 2 0) 75) _ q.1 in
    let t = again32 (get_or s 14 0) (get_or s 15 0) (get_or s 16 0) (get_or s 17 0) (b 14) (b 15) (b 16) (b 17) in
    ap₂ (λ (codes ticks : List ℕ). (16 ∷ 0 ∷ 75 ∷ 66 ∷ get_or s 4 0 ∷ get_or s 5 0 ∷ []) ++ codes ++ ticks) (sym (codes-read s w.long)) t
    ∙ heads (get_or s 0 0) (get_or s 1 0) (get_or s 2 0) (get_or s 3 0) (tab 4 14 s) (eqb-true _ _ p.0) (eqb-true _ _ q.0) (eqb-true _ _ r.0) (eqb-true _ _ r.1)
    ∙ elements 18 s w.long
