-- A look-up's place and part from what each sheet says.
use Prim.Native.Nat.{ℕ, ◌+◌, ◌-◌, ◌≤◌}
use mathlib.Core.Path.{◌≡◌, refl, sym, ap, ◌∙◌}
use mathlib.Core.Bool.{Bool, true, false, cond}
use mathlib.Core.List.{List, []}
use Rattle.std.specs.Prelude.{Option, Some, None, Result, Ok, Err}
use native.Mathlib.Omega.{arith}
use lib.ListN.{length, take, drop, length-drop}
use lib.Dec.{ltb}
use Rattle.refusal.specs.declared.Refusal.{Refusal}
use Rattle.refusal.specs.declared.Refusal.TheVariants.{CutRecord}
use Rattle.sheet_spec.specs.Records.{sheet_of, is_broken}
use Rattle.sheet_spec.specs.Counting.{body_of, counting_of, start_of}
use Rattle.sheet_spec.specs.Lookup.{search_of, source_of, of_source, part_of, place_of, place_at, place_in, place_by}
use Rattle.sheet_spec.specs.declared.Source.{Source}
use Rattle.sheet_spec.specs.declared.Source.TheVariants.{Bench, House}
use Rattle.sheet_spec.specs.declared.Part.{Part}
use Rattle.sheet_spec.specs.declared.Place.{Place}
use Rattle.sheet_spec.proofs.Stands.{start-stands}

-- which sheet a place names
abbrev pub source_in : Result (Option Place) Refusal → Result (Option Source) Refusal
source_in (Ok (Some p)) = Ok (Some p.source)
source_in (Ok None) = Ok None
source_in (Err e) = Err e

source-in : (x : Result (Option Source) Refusal) (n z : ℕ) → source_in (place_in x n z) ≡ x
source-in (Ok (Some s)) n z = refl
source-in (Ok None) n z = refl
source-in (Err e) n z = refl

module _ (bench house : List ℕ) (k : ℕ) where
  pub place-by : place_of bench house k ≡ place_by (search_of (sheet_of bench) k) (search_of (sheet_of house) k)
  unfolding place_of part_of source_of search_of place_by
  place-by = go (is_broken (sheet_of bench)) (is_broken (sheet_of house)) (ltb (length (counting_of (sheet_of bench) k)) 7) (ltb (length (counting_of (sheet_of house) k)) 7)
    where
      b : List ℕ
      b = counting_of (sheet_of bench) k

      h : List ℕ
      h = counting_of (sheet_of house) k

      from : (s t x y : Bool) → Result (Option Source) Refusal
      from s t x y = cond s (Err CutRecord) (cond t (Err CutRecord) (cond x (cond y (Ok None) (Ok (Some House))) (Ok (Some Bench))))

      one : (s x : Bool) → List ℕ → ℕ → Result (Option Part) Refusal
      one s x c n = cond s (Err CutRecord) (cond x (Ok None) (Ok (Some (record { start = n; size = length c - 7 }))))

      go : (s t x y : Bool) → place_in (from s t x y) (of_source (from s t x y) (start_of (sheet_of bench) k) (start_of (sheet_of house) k) 0) (length (of_source (from s t x y) (body_of b) (body_of h) []))
          ≡ place_by (one s x b (start_of (sheet_of bench) k)) (one t y h (start_of (sheet_of house) k))
      go true t x y = refl
      go false true true y = refl
      go false true false y = refl
      go false false true true = refl
      go false false true false = ap (λ (z : ℕ). Ok (Some (place_at House (start_of (sheet_of house) k) z))) (length-drop 7 h)
      go false false false true = ap (λ (z : ℕ). Ok (Some (place_at Bench (start_of (sheet_of bench) k) z))) (length-drop 7 b)
      go false false false false = ap (λ (z : ℕ). Ok (Some (place_at Bench (start_of (sheet_of bench) k) z))) (length-drop 7 b)

  pub place-from : (b h : Result (Option Part) Refusal) → b ≡ search_of (sheet_of bench) k → h ≡ search_of (sheet_of house) k → place_by b h ≡ place_of bench house k
  place-from b h x y = rw (x, y) (sym place-by)

  pub place-source : (x : Result (Option Place) Refusal) → x ≡ place_of bench house k → source_in x ≡ source_of bench house k
  unfolding place_of
  place-source x e = ap source_in e ∙ source-in _ _ _

  module _ (p : Place) (e : Ok (Some p) ≡ place_of bench house k) where
    -- "uncopied": the setting's bytes are the part of the sheet w at the place, w the bench sheet or the house sheet
    pub place-part : (x : Source) (w : List ℕ) → p.source ≡ x → of_source (Ok (Some x)) (start_of (sheet_of bench) k) (start_of (sheet_of house) k) 0 ≡ start_of (sheet_of w) k
        → of_source (Ok (Some x)) (body_of (counting_of (sheet_of bench) k)) (body_of (counting_of (sheet_of house) k)) [] ≡ body_of (counting_of (sheet_of w) k)
        → (p.start + p.size ≤ length w) × (take (p.start + p.size - p.start) (drop p.start w) ≡ part_of bench house k)
    unfolding place_of part_of
    place-part x w q a b =
        let s : source_of bench house k ≡ Ok (Some x) = sym (place-source (Ok (Some p)) e) ∙ ap (λ (y : Source). Ok (Some y)) q in
        let at : Ok (Some p) ≡ Ok (Some (place_at x (start_of (sheet_of w) k) (length (counting_of (sheet_of w) k) - 7))) = e ∙ simp (s, a, b, length-drop) in
        let n : p.start ≡ start_of (sheet_of w) k = cc in
        let z : p.size ≡ length (counting_of (sheet_of w) k) - 7 = cc in
        let t = start-stands w k in
        let m : p.start + p.size - p.start ≡ p.size = omega arith in
        (rw (n, z) t.within, rw (m, n, z, s, b) t.part)

  -- no sheet has it: the part is empty
  pub place-unset : Ok None ≡ place_of bench house k → [] ≡ part_of bench house k
  unfolding part_of
  place-unset e = simp (sym (place-source (Ok None) e))

  pub place-refused : (r : Refusal) → Err r ≡ place_of bench house k → [] ≡ part_of bench house k
  unfolding part_of
  place-refused r e = simp (sym (place-source (Err r) e))
