-- The pieces of a list, and outcomes one after the other.
use Rattle.std.specs.Prelude.{Option, Some, None}
use Rattle.refusal.specs.declared.Refusal.TheVariants.{NoRoom}
use Prim.Native.Nat.{ℕ, zero, suc, ◌+◌, ◌-◌, ◌<◌}
use mathlib.Core.Path.{◌≡◌, refl, sym, ap, ◌∙◌}
use mathlib.Core.List.{List, [], ◌∷◌, ◌++◌, append_assoc}
use native.Mathlib.Omega.{arith}
use native.Mathlib.Nat.{zero-add, add_assoc}
use lib.ListN.{length, take, drop}
use Rattle.item_spec.specs.Record.{frame_of}
use Rattle.item_spec.proofs.RecordLaws.{whole-fits}
use Rattle.machine_spec.specs.declared.Machine.{Machine}
use Rattle.run_spec.specs.Outcome.{Piece, whole, broken, cut, pieces_from, pieces, Out, halt, onto, run_pieces}
use Rattle.run_spec.proofs.Users.{no_room}

-- ---- the pieces of a list

pub pieces-drop : (k : ℕ) (l : List ℕ) → pieces_from k l ≡ pieces (drop k l)
unfolding pieces_from
pieces-drop zero l = refl
pieces-drop (suc k) [] = refl
pieces-drop (suc k) (x ∷ xs) = pieces-drop k xs

pub pieces-broken : (l : List ℕ) → 0 < length l → frame_of l ≡ None → pieces l ≡ broken ∷ []
unfolding pieces_from cut
pieces-broken [] h e = absurd (omega arith)
pieces-broken (x ∷ xs) h e = ap (λ f. cut f (x ∷ xs) (λ k. pieces_from k xs)) e

pub pieces_whole : (l : List ℕ) (n : ℕ) → frame_of l ≡ Some n → pieces l ≡ whole (take (n - 2) (drop 2 l)) ∷ pieces (drop n l)
unfolding pieces_from cut
pieces_whole [] n e = let h = whole-fits [] n e in absurd (omega arith)
pieces_whole (x ∷ xs) zero e = let h = whole-fits (x ∷ xs) 0 e in absurd (omega arith)
pieces_whole (x ∷ xs) (suc n) e =
    ap (λ f. cut f (x ∷ xs) (λ k. pieces_from k xs)) e
    ∙ ap (λ (p : List Piece). whole (take (suc n - 2) (drop 2 (x ∷ xs))) ∷ p) (ap (λ (k : ℕ). pieces_from k xs) (omega arith) ∙ pieces-drop n xs)

-- Bytes are left, and no room.
pub bytes_left : (m : Machine) (s : List ℕ) (room : ℕ) → 0 < length s → room < 8 → run_pieces m (pieces s) room ≡ halt m (Some NoRoom)
unfolding pieces_from cut
bytes_left m [] room h r = absurd (omega arith)
bytes_left m (x ∷ xs) room h r = any (frame_of (x ∷ xs))
  where
    any : (f : Option ℕ) → run_pieces m (cut f (x ∷ xs) (λ k. pieces_from k xs)) room ≡ halt m (Some NoRoom)
    any (Some n) = no_room m _ _ room r
    any None = no_room m _ _ room r

-- ---- outcomes

pub onto-none : (o : Out) → o ≡ onto [] 0 o
unfolding onto
onto-none o = ap (λ (n : ℕ). record { machine = o.machine; stop = o.stop; consumed = n; answers = o.answers }) (sym (zero-add o.consumed))

pub onto-onto : (a b : List ℕ) (n k : ℕ) (o : Out) → onto a n (onto b k o) ≡ onto (a ++ b) (n + k) o
unfolding onto
onto-onto a b n k o = simp (append_assoc, add_assoc)
