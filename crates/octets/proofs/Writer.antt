-- Output of a length that is known only by making it: measured by one pass, written by a second. The state of a writing pass, on plain
-- lists: `whole` is all that is to be written, `todo` what is left of it.
use Prim.Native.Nat.{ℕ, ◌+◌, ◌≤◌}
use mathlib.Core.Path.{◌≡◌, refl, sym, ap, ◌∙◌}
use mathlib.Core.List.{List, [], ◌++◌, append-nil, append_assoc}
use native.Mathlib.Omega.{arith}
use lib.ListN.{length, take, drop, length-append, length-drop, take-append-drop}
use lib.Seq.{length-take-le, take_at, drop_at, drop-drop}
use Rattle.octets.specs.Octets.{put_at}

module _ (o₀ whole : List ℕ) where
  pub record Wrote (o : List ℕ) (n : ℕ) (todo : List ℕ) : Type 0 where
    pub n≤ : n ≤ length o
    pub long : length o ≡ length o₀
    pub kept : drop n o ≡ drop n o₀
    pub is : whole ≡ take n o ++ todo

  pub wrote-first : Wrote o₀ 0 whole
  wrote-first = record { n≤ = omega arith; long = refl; kept = refl; is = refl }

  module _ (o : List ℕ) (n : ℕ) (todo : List ℕ) (w : Wrote o n todo) where
    front : length (take n o) ≡ n
    front = length-take-le n o w.n≤

    -- nothing is left
    pub wrote-end : todo ≡ [] → (o ≡ whole ++ drop (length whole) o₀) × (n ≡ length whole)
    wrote-end e =
        let all : whole ≡ take n o = w.is ∙ ap (λ (t : List ℕ). take n o ++ t) e ∙ append-nil (take n o) in
        let len : length whole ≡ n = ap length all ∙ front in
        (rw (len, all, ← w.kept) (sym (take-append-drop n o)), sym len)

    module _ (x todo' : List ℕ) (e : todo ≡ x ++ todo') (room : length whole ≤ length o₀) where
      -- a part fits
      pub wrote-room : n + length x ≤ length o
      wrote-room = omega (arith, w.long, ap length w.is, length-append (take n o) todo, ap length e, length-append x todo', front)

      -- a part is written
      pub wrote-next : (o' : List ℕ) → o' ≡ put_at o n x → Wrote o' (n + length x) todo'
      wrote-next o' p =
          let fit = wrote-room in
          let lx : length (take n o ++ x) ≡ n + length x = simp (length-append, front) in
          let T : take (n + length x) o' ≡ take n o ++ x = ap (take (n + length x)) p ∙ take_at (take n o ++ x) (drop (n + length x) o) (n + length x) lx in
          let L : length o' ≡ length o = ap length p ∙ (simp (length-append, front, length-drop) (omega arith)) in
          record {
            n≤ = omega arith;
            long = L ∙ w.long;
            kept = ap (drop (n + length x)) p ∙ drop_at (take n o ++ x) (drop (n + length x) o) (n + length x) lx ∙ sym (drop-drop (length x) n o) ∙ ap (drop (length x)) w.kept ∙ drop-drop (length x) n o₀;
            is = rw T (w.is ∙ ap (λ (t : List ℕ). take n o ++ t) e ∙ sym (append_assoc (take n o) x todo'));
          }
