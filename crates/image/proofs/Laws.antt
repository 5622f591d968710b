-- The half-made command, the head and the tail, as the code takes them from an image.
use Prim.Native.Nat.{ℕ, ◌+◌, ◌-◌}
use mathlib.Core.Path.{◌≡◌, refl, sym, ap, ◌∙◌}
use mathlib.Core.Bool.{Bool, cond, ◌&&◌, and-true}
use mathlib.Core.List.{List, [], ◌∷◌, ◌++◌, append_assoc}
use native.Mathlib.Omega.{arith}
use lib.Dec.{eqb}
use lib.ListN.{length, get_or, take, drop, length-drop, drop_of_length-le}
use lib.Seq.{take_all, take_at, get_or-take}
use Rattle.octets.specs.Octets.{put_at}
use Rattle.clock_spec.specs.declared.Chip.{Chip}
use Rattle.clock_spec.specs.declared.Chip.TheVariants.{First, Later}
use Rattle.clock_spec.specs.declared.Phase.{Phase}
use Rattle.image_spec.specs.Layout.{head_length, phase_length, tail_at, tail_length, image_length, part, kind_letter, chip_of, same_bytes}
use Rattle.image_spec.specs.ClockLayout.{phase_bytes, second_byte, phase_of, phase_exact, register_bytes, store_of, registers_exact}
use Rattle.image_spec.proofs.ClockBack.{phase-long}
use Rattle.image_spec.proofs.Parts.{same_more}
use Rattle.image_layout.specs.Values.{phase_layout, phase_read, registers_layout, registers_read}

-- The four bytes in a phase's place, and one after them.
pub four : (p : List ℕ) (d : ℕ) → length p ≡ phase_length → (get_or p 0 0 ∷ get_or p 1 0 ∷ get_or p 2 0 ∷ get_or p 3 0 ∷ d ∷ []) ≡ p ++ (d ∷ [])
four [] d h = absurd (omega (arith, h))
four (x ∷ []) d h = absurd (omega (arith, h))
four (x ∷ y ∷ []) d h = absurd (omega (arith, h))
four (x ∷ y ∷ z ∷ []) d h = absurd (omega (arith, h))
four (x ∷ y ∷ z ∷ w ∷ []) d h = refl
four (x ∷ y ∷ z ∷ w ∷ v ∷ r) d h = absurd (omega (arith, h))

pub phase-read : (p : List ℕ) (d : ℕ) → length p ≡ phase_length → phase_read (p ++ (d ∷ [])) ≡ phase_of p d
phase-read p d h = ap phase_read (sym (four p d h))

pub phase-exact : (p : List ℕ) (d : ℕ) → length p ≡ phase_length → same_bytes (phase_layout (phase_read (p ++ (d ∷ [])))) (p ++ (d ∷ [])) ≡ phase_exact p d
unfolding same_bytes
phase-exact p d h =
    let q : Phase = phase_of p d in
    ap (λ (x : Phase). same_bytes (phase_layout x) (p ++ (d ∷ []))) (phase-read p d h)
    ∙ same_more (phase_bytes q) p (second_byte q ∷ []) (d ∷ []) (phase-long q ∙ sym h)
    ∙ ap (λ (b : Bool). same_bytes (phase_bytes q) p && b) (and-true (eqb (second_byte q) d))

pub phase-place : (p : Phase) → part 0 phase_length (phase_layout p) ≡ phase_bytes p
phase-place p = take_at (phase_bytes p) (second_byte p ∷ []) phase_length (phase-long p)

pub registers-exact : (b : List ℕ) → same_bytes (registers_layout (registers_read b)) b ≡ registers_exact b
unfolding register_bytes store_of
registers-exact b = refl

-- The head says which chip it is.
pub chip-head : (s : List ℕ) → chip_of (part 0 head_length s) ≡ chip_of s
chip-head s = ap (λ (x : ℕ). cond (eqb x (kind_letter Later)) Later First) (get_or-take head_length s 3 0 (omega arith))

-- The tail is all that comes after the other parts.
pub tail-is : (k : Chip) (s : List ℕ) → length s ≡ image_length k → drop tail_at s ≡ part tail_at (tail_length k) s
tail-is k s h = sym (take_all (tail_length k) (drop tail_at s) (omega (arith, length-drop tail_at s, h)))

-- What a slice from the tail on holds, and what it leaves where it is written.
pub rest-is : (s : List ℕ) → take (length s - tail_at) (drop tail_at s) ≡ drop tail_at s
rest-is s = take_all (length s - tail_at) (drop tail_at s) (omega (arith, length-drop tail_at s))

pub tail-put : (d x : List ℕ) → tail_at + length x ≡ length d → take tail_at d ++ (x ++ drop (length d - tail_at) (drop tail_at d)) ≡ put_at d tail_at x
tail-put d x h =
    let e : drop (length d - tail_at) (drop tail_at d) ≡ [] = drop_of_length-le (drop tail_at d) (omega (arith, length-drop tail_at d)) in
    let f : drop (tail_at + length x) d ≡ [] = drop_of_length-le d (omega (arith, h)) in
    ap (λ (r : List ℕ). take tail_at d ++ (x ++ r)) (e ∙ sym f) ∙ sym (append_assoc (take tail_at d) x (drop (tail_at + length x) d))
