-- One step of a walk over the sheet l, `at` bytes of it behind.
use Rattle.std.proofs.Common.{ℕ, ◌≡◌, ◌+◌, ◌-◌, ◌≤◌, ◌<◌, List, Option, Some, None, length, take, drop, refl, sym, ap, ◌∙◌, arith, length-drop}
use lib.Seq.{take_all, drop-drop}
use lib.ListN.{drop_of_length-le}
use native.Mathlib.Nat.{le_of_eq}
use Rattle.sheet_spec.specs.Records.{first_of, row, end, broken, sheet_of}
use Rattle.sheet_spec.proofs.Walk.{IsFront, first-front, sheet-end, sheet-broken, sheet-row}

module _ (l : List ℕ) (at : ℕ) where
  -- what the slice from there on is
  rest : take (length l - at) (drop at l) ≡ drop at l
  rest = take_all (length l - at) (drop at l) (le_of_eq (length-drop at l))

  pub at-end : at ≡ length l → sheet_of (drop at l) ≡ end
  at-end e = sheet-end (drop at l) (omega (arith, length-drop at l))

  pub at-broken : at < length l → None ≡ first_of (take (length l - at) (drop at l)) → sheet_of (drop at l) ≡ broken
  at-broken h e = sheet-broken (drop at l) (omega (arith, length-drop at l)) (ap first_of (sym rest) ∙ sym e)

  module _ (r : List ℕ) (e : Some r ≡ first_of (take (length l - at) (drop at l))) where
    pub taken : IsFront (drop at l) r
    taken = first-front (drop at l) r (ap first_of (sym rest) ∙ sym e)

    pub fits : at + length r ≤ length l
    fits = let f = taken in omega (arith, length-drop at l)

    pub at-row : sheet_of (drop at l) ≡ row r (sheet_of (drop (at + length r) l))
    at-row = sheet-row (drop at l) r (ap first_of (sym rest) ∙ sym e) ∙ ap (λ (x : List ℕ). row r (sheet_of x)) (drop-drop (length r) at l)
