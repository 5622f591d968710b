-- The numbers of a look-up, from its place.
use Rattle.std.proofs.Common.{ℕ, ◌≡◌, List, Option, Some, Ok, Err, Result, sym, ap, ◌∙◌}
use Rattle.refusal.specs.declared.Refusal.{Refusal}
use Rattle.sheet_spec.specs.declared.Place.{Place}
use Rattle.sheet_spec.specs.Lookup.{source_of, place_of, refusal_of, sheet_number, start_number, size_number}
use Rattle.sheet_spec.proofs.Found.{source_in, place-source}

module _ (bench house : List ℕ) (k : ℕ) (x : Result (Option Place) Refusal) (e : x ≡ place_of bench house k) where
  pub refusal-number : refusal_of (source_in x) ≡ refusal_of (source_of bench house k)
  refusal-number = ap refusal_of (place-source bench house k x e)

  pub sheet-number : sheet_number (source_in x) ≡ sheet_number (source_of bench house k)
  sheet-number = ap sheet_number (place-source bench house k x e)

  pub start-number : start_number x ≡ start_number (place_of bench house k)
  start-number = ap start_number e

  pub size-number : size_number x ≡ size_number (place_of bench house k)
  size-number = ap size_number e
