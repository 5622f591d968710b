-- A turn of `run`'s loop, on plain values.
use Prim.Native.Nat.{ℕ, ◌+◌, ◌-◌, ◌≤◌, ◌<◌}
use mathlib.Core.Path.{◌≡◌, refl, sym, ap, ◌∙◌}
use mathlib.Core.Bool.{true, false}
use mathlib.Core.List.{List, [], ◌∷◌, ◌++◌, append-nil}
use native.Mathlib.Omega.{arith}
use native.Mathlib.Nat.{le_of_eq, add-zero, sub-zero, sub-add-eq}
use lib.ListN.{length, take, drop, length-append, length-drop, take-append-drop, drop_of_length-le}
use lib.Seq.{take_all, length-take-le, take_at, drop_at, drop-drop}
use Rattle.octets.specs.Octets.{put_at}
use Rattle.std.specs.Prelude.{Option, Some, None, Err}
use Rattle.refusal.specs.declared.Refusal.{Refusal}
use Rattle.refusal.specs.declared.Refusal.TheVariants.{CutRecord, NoRoom, NotAccepted}
use Rattle.item_spec.specs.Record.{frame_of, answer_bytes}
use Rattle.item_spec.proofs.RecordLaws.{answer-long, whole-fits}
use Rattle.machine_spec.specs.declared.Machine.{Machine}
use Rattle.machine_spec.specs.Machine.{accepted_of}
use Rattle.run_spec.proofs.Keeps.{turn-keeps}
use Rattle.run_spec.specs.declared.Ran.{Ran}
use Rattle.run_spec.specs.Turn.{turn_of}
use Rattle.run_spec.specs.Outcome.{Piece, pieces_from, pieces, Out, halt, onto, run_pieces, run_of, ran_of, over}
use Rattle.run_spec.proofs.Users.{item-after-item, no_record, written-fits}
use Rattle.run_spec.proofs.Pieces.{pieces-broken, pieces_whole, bytes_left, onto-none, onto-onto}

-- what the code's slices are: a list from n on, and a record's bytes after the length
pub from-on : (n : ℕ) (s : List ℕ) → take (length s - n) (drop n s) ≡ drop n s
from-on n s = take_all (length s - n) (drop n s) (le_of_eq (length-drop n s))

none-left : (s : List ℕ) → length s ≡ 0 → s ≡ []
none-left [] h = refl
none-left (x ∷ s) h = absurd (omega arith)

pub body-long : (n : ℕ) (s : List ℕ) → frame_of s ≡ Some n → 2 ≤ length (take (n - 2) (drop 2 s))
body-long n s e =
    let f = whole-fits s n e in
    rw (length-take-le (n - 2) (drop 2 s) (simp (length-drop 2 s) (omega arith))) (omega arith)

-- ---- the loop

module _ (l a₀ : List ℕ) (m₀ : Machine) where
  -- the answers a and the machine m, with s of the list left and so many bytes written
  pub record Head (a : List ℕ) (m : Machine) (s : List ℕ) (out : ℕ) : Type 0 where
    pub ok : accepted_of m ≡ true
    pub less : length s ≤ length l
    pub out≤ : out ≤ length a₀
    pub long : length a ≡ length a₀
    pub kept : drop out a ≡ drop out a₀
    pub is : run_pieces m₀ (pieces l) (length a₀) ≡ onto (take out a) (length l - length s) (run_pieces m (pieces s) (length a₀ - out))

  pub head_first : accepted_of m₀ ≡ true → Head a₀ m₀ l 0
  head_first acc =
      let none : length l - length l ≡ 0 = omega arith in
      record { ok = acc; less = omega arith; out≤ = omega arith; long = refl; kept = refl; is = rw (none, sub-zero) (onto-none _) }

  -- the contract: what is reported, the machine and the answers
  abbrev pub Ret : Ran → Machine → List ℕ → Type 0
  Ret r m a = (r ≡ ran_of (run_of m₀ l (length a₀))) × (m ≡ (run_of m₀ l (length a₀)).machine) × (a ≡ over (run_of m₀ l (length a₀)) a₀)

  -- a state that is not accepted
  pub unaccepted : accepted_of m₀ ≡ false → {r : Ran} → r ≡ ran_of (halt m₀ (Some NotAccepted)) → Ret r m₀ a₀
  unfolding run_of
  unaccepted e p = simp e (p, refl, refl)

  module _ (acc : accepted_of m₀ ≡ true) (a : List ℕ) (m : Machine) (s : List ℕ) (out : ℕ) (h : Head a m s out) where
    abbrev at : ℕ
    at = length l - length s

    front : length (take out a) ≡ out
    front = length-take-le out a (omega (arith, h.out≤, h.long))

    from : {o : Out} → run_pieces m (pieces s) (length a₀ - out) ≡ o → run_of m₀ l (length a₀) ≡ onto (take out a) at o
    unfolding run_of
    from e = simp acc (h.is ∙ ap (onto (take out a) at) e)

    -- the run ends here with nothing more written
    here : (n : Option Refusal) → run_pieces m (pieces s) (length a₀ - out) ≡ halt m n → Ret (record { stop = n; consumed = at; written = out }) m a
    unfolding onto
    here n e =
        rw (from e)
        (simp (append-nil, add-zero, front), refl, simp (append-nil, front) (sym (ap (λ (r : List ℕ). take out a ++ r) (sym h.kept) ∙ take-append-drop out a)))

    -- the end of the list
    pub ended : (n : Option Refusal) → n ≡ None → length s ≡ 0 → Ret (record { stop = n; consumed = at; written = out }) m a
    unfolding run_pieces pieces_from
    ended n z e = here n (rw (none-left s e, z))

    module _ (more : 0 < length s) where
      -- no room for an answer
      pub full : length a - out < 8 → Ret (record { stop = Some NoRoom; consumed = at; written = out }) m a
      full e = here (Some NoRoom) (bytes_left m s (length a₀ - out) more (omega (arith, h.long)))

      -- what the buffer has past an answer
      past : drop (out + 8) a ≡ drop (out + 8) a₀
      past = sym (drop-drop 8 out a) ∙ ap (drop 8) h.kept ∙ drop-drop 8 out a₀

      module _ (room : 8 ≤ length a - out) where
        -- bytes that are no whole record
        pub cutoff : frame_of s ≡ None → (a' : List ℕ) → a' ≡ put_at a out (answer_bytes (Err CutRecord)) → Ret (record { stop = Some CutRecord; consumed = at; written = out + 8 }) m a'
        unfolding onto
        cutoff e a' w =
            rw (from (ap (λ (p : List Piece). run_pieces m p (length a₀ - out)) (pieces-broken s more e) ∙ no_record m [] (length a₀ - out) (omega (arith, h.long)))) (
              simp (add-zero, length-append, front, answer-long (Err CutRecord)),
              refl,
              simp (length-append, front, answer-long (Err CutRecord)) (w ∙ ap (λ (r : List ℕ). take out a ++ answer_bytes (Err CutRecord) ++ r) (simp (answer-long (Err CutRecord)) past)),
            )

        -- a whole record
        pub next : (n : ℕ) → frame_of s ≡ Some n → (a' : List ℕ) → a' ≡ put_at a out (answer_bytes (turn_of m (take (n - 2) (drop 2 s))).answer)
            → Head a' (turn_of m (take (n - 2) (drop 2 s))).machine (drop n s) (out + 8)
        next n e a' w =
            let b = take (n - 2) (drop 2 s) in
            let t = turn_of m b in
            let x = answer_bytes t.answer in
            let x8 : length x ≡ 8 = answer-long t.answer in
            let lx : length (take out a ++ x) ≡ out + 8 = simp (length-append, front, x8) in
            let fits = whole-fits s n e in
            let ld : length (drop n s) ≡ length s - n = length-drop n s in
            let l2 : length (drop 2 s) ≡ length s - 2 = length-drop 2 s in
            let N : length b + 2 ≡ n = omega (arith, fits, l2, length-take-le (n - 2) (drop 2 s) (omega (arith, fits, l2))) in
            let on : at + n ≡ length l - length (drop n s) = omega (arith, fits, ld, h.less) in
            let T : take (out + 8) a' ≡ take out a ++ x = ap (take (out + 8)) w ∙ take_at (take out a ++ x) (drop (out + length x) a) (out + 8) lx in
            let E = ap (λ (p : List Piece). run_pieces m p (length a₀ - out)) (pieces_whole s n e) ∙ item-after-item m b (pieces (drop n s)) (length a₀ - out) (omega (arith, h.long)) in
            record {
              ok = turn-keeps m b h.ok;
              less = omega (arith, fits, ld, h.less);
              out≤ = omega (arith, h.long);
              long = ap length w ∙ (simp (length-append, front, x8, length-drop) (omega arith));
              kept = ap (drop (out + 8)) w ∙ drop_at (take out a ++ x) (drop (out + length x) a) (out + 8) lx ∙ ap (λ (k : ℕ). drop (out + k) a) x8 ∙ past;
              is = rw (T, ← on, sub-add-eq) (h.is ∙ ap (onto (take out a) at) E ∙ onto-onto (take out a) x at (length b + 2) _
                  ∙ ap (λ (k : ℕ). onto (take out a ++ x) (at + k) (run_pieces t.machine (pieces (drop n s)) (length a₀ - out - 8))) N);
            }
