-- Cells and the tail written into memory one after the other, and read again.
use Prim.Native.Nat.{ℕ, ◌+◌, ◌-◌, ◌≤◌}
use mathlib.Core.Path.{◌≡◌, refl, sym, ap, ◌∙◌}
use mathlib.Core.List.{List, [], ◌∷◌, ◌++◌, append-nil}
use native.Mathlib.Numerals.{add-one}
use native.Mathlib.Omega.{arith}
use lib.ListN.{length, get_or, take, drop, set, replicate, length-append, length-replicate, take-append-drop}
use lib.Seq.{append_snoc, set_split, length-take-le}
use Rattle.octets.specs.Octets.{put_at}
use Rattle.octets.proofs.Laws.{put-length}
use Rattle.clock_spec.specs.Command.{cells_of}
use Rattle.clock_spec.specs.declared.Chip.{Chip}
use Rattle.clock_spec.specs.declared.Chip.TheVariants.{First, Later}
use Rattle.clock_spec.specs.declared.Bytes.TheVariants.{Nothing, One, Two}
use Rattle.clock_spec.specs.declared.Phase.{Phase}
use Rattle.clock_spec.specs.declared.Phase.TheVariants.{Idle, Listening, Sending, Ignoring}
use Rattle.image_spec.specs.Layout.{phase_length, cells_length, more_cells, tail_length}
use Rattle.image_spec.specs.ClockLayout.{phase_bytes, second_byte, tail_of, cells_read}
use Rattle.image_layout.specs.Values.{phase_layout}
use Rattle.image_spec.proofs.Parts.{laid, whole, put-put}

-- ---- writing

cells-joined : (d first x : List ℕ) → length d ≡ 256 → length first ≡ cells_length → length x ≡ more_cells → put_at (put_at d 0 first) cells_length x ≡ first ++ x
cells-joined d first x n l m =
    laid d 0 cells_length first (more_cells ∷ []) (x ∷ []) (omega arith) (ap (λ (k : ℕ). k ∷ []) m) (omega arith)
    ∙ whole d (first ++ x) (omega (arith, length-append first x))

-- bytes and one byte after them
put_last : (d : List ℕ) (at i : ℕ) (x : List ℕ) (b : ℕ) → at + length x ≡ i → i + 1 ≤ length d → set (put_at d at x) i b ≡ put_at d at (x ++ (b ∷ []))
put_last d at i x b e h =
    let n : length (put_at d at x) ≡ length d = put-length d at x (omega (arith, e, h)) in
    set_split (put_at d at x) i b (omega (arith, n, h))
    ∙ ap (λ (k : ℕ). take i (put_at d at x) ++ b ∷ drop k (put_at d at x)) (sym (add-one i))
    ∙ sym (append_snoc (take i (put_at d at x)) b (drop (i + 1) (put_at d at x)))
    ∙ ap (λ (k : ℕ). put_at (put_at d at x) k (b ∷ [])) (sym e)
    ∙ put-put d at x (b ∷ []) (omega (arith, e, h))

pub put-nothing : (d : List ℕ) (at : ℕ) → put_at d at [] ≡ d
put-nothing d at =
    let z : at + 0 ≡ at = omega arith in
    ap (λ (l : List ℕ). l ++ drop (at + 0) d) (append-nil (take at d)) ∙ ap (λ (k : ℕ). take at d ++ drop k d) z ∙ take-append-drop at d

-- the later chip's whole tail
pub put-tail : (d all : List ℕ) (b : ℕ) → length d ≡ more_cells + 1 → length all ≡ more_cells → set (put_at d 0 all) more_cells b ≡ all ++ (b ∷ [])
put-tail d all b n l =
    put_last d 0 more_cells all b (omega (arith, l)) (omega (arith, n))
    ∙ whole d (all ++ (b ∷ [])) (omega (arith, n, l, length-append all (b ∷ [])))

-- The second command byte is the last of a phase's bytes.
pub second-last : (p : Phase) → get_or (phase_layout p) phase_length 0 ≡ second_byte p
unfolding phase_bytes second_byte
second-last Idle = refl
second-last (Listening Nothing n v) = refl
second-last (Listening (One c) n v) = refl
second-last (Listening (Two c d) n v) = refl
second-last (Sending y n) = refl
second-last Ignoring = refl

-- ---- reading

pub cells-read : (k : Chip) (first t : List ℕ) → length first ≡ cells_length → length t ≡ tail_length k
    → put_at (put_at (replicate 256 0) 0 first) cells_length (take (cells_of k - cells_length) t) ≡ cells_read first t
unfolding tail_of
cells-read First first [] l h =
    let n : 0 + length first ≡ cells_length = omega (arith, l) in
    put-nothing (put_at (replicate 256 0) 0 first) cells_length
    ∙ ap (λ (j : ℕ). take 0 (replicate 256 0) ++ first ++ drop j (replicate 256 0)) n
cells-read First first (x ∷ t) l h = absurd (omega (arith, h))
cells-read Later first t l h =
    let x : List ℕ = take more_cells t in
    let w : put_at (replicate 237 0) 0 t ≡ t = whole (replicate 237 0) t (length-replicate {A = ℕ} 237 0 ∙ sym h) in
    cells-joined (replicate 256 0) first x (length-replicate {A = ℕ} 256 0) l (length-take-le more_cells t (omega (arith, h)))
    ∙ sym (ap (λ (r : List ℕ). first ++ take more_cells r) w)
