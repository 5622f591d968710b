-- The answer to a look-up: document 02, W-213.
use Rattle.std.specs.Prelude.{ℕ, ◌-◌, cond, List, [], Option, Some, None, Result, Ok, Err, length, ltb}
use Rattle.refusal.specs.Numbers.{number_of}
use Rattle.refusal.specs.declared.Refusal.{Refusal}
use Rattle.refusal.specs.declared.Refusal.TheVariants.{CutRecord}
use Rattle.sheet_spec.specs.Records.{Sheet, sheet_of, is_broken}
use Rattle.sheet_spec.specs.Counting.{body_of, counting_of, start_of}
use Rattle.sheet_spec.specs.declared.Source.{Source}
use Rattle.sheet_spec.specs.declared.Source.TheVariants.{Bench, House}
use Rattle.sheet_spec.specs.declared.Part.{Part}
use Rattle.sheet_spec.specs.declared.Place.{Place}

-- "in either sheet is refusal 1, whichever setting was asked"; then "the bench sheet comes before the house sheet"; "a setting in neither is
-- 'not set'". A record has 7 bytes or more.
unfoldable pub source_of : List ℕ → List ℕ → ℕ → Result (Option Source) Refusal
source_of bench house k =
    cond (is_broken (sheet_of bench)) (Err CutRecord)
    (cond (is_broken (sheet_of house)) (Err CutRecord)
    (cond (ltb (length (counting_of (sheet_of bench) k)) 7)
    (cond (ltb (length (counting_of (sheet_of house) k)) 7) (Ok None) (Ok (Some House)))
    (Ok (Some Bench))))

-- Of what the bench sheet and the house sheet have, that of the answer's sheet; else what there is of none.
abbrev pub of_source : {A : Type 0} → Result (Option Source) Refusal → A → A → A → A
of_source (Ok (Some Bench)) b h none = b
of_source (Ok (Some House)) b h none = h
of_source (Ok None) b h none = none
of_source (Err e) b h none = none

-- "The answer hands back the part that holds the setting's bytes .. A setting in neither is 'not set'; then, and on a refusal, the part is empty."
unfoldable pub part_of : List ℕ → List ℕ → ℕ → List ℕ
part_of bench house k = of_source (source_of bench house k) (body_of (counting_of (sheet_of bench) k)) (body_of (counting_of (sheet_of house) k)) []

abbrev pub place_at : Source → ℕ → ℕ → Place
place_at x n z = record { source = x; start = n; size = z }

abbrev pub place_in : Result (Option Source) Refusal → ℕ → ℕ → Result (Option Place) Refusal
place_in (Ok (Some x)) n z = Ok (Some (place_at x n z))
place_in (Ok None) n z = Ok None
place_in (Err e) n z = Err e

-- Which sheet, and where in it: for a shell that cannot be handed a part.
unfoldable pub place_of : List ℕ → List ℕ → ℕ → Result (Option Place) Refusal
place_of bench house k =
    place_in (source_of bench house k)
    (of_source (source_of bench house k) (start_of (sheet_of bench) k) (start_of (sheet_of house) k) 0)
    (length (part_of bench house k))

-- "For an answer that is an enum, a definition gives this paper's number": the refusal's, 0 of an answer.
unfoldable pub refusal_of : Result (Option Source) Refusal → ℕ
refusal_of (Ok x) = 0
refusal_of (Err e) = number_of e

-- The sheet's number: 1 the bench sheet, 2 the house sheet, 0 none.
unfoldable pub sheet_number : Result (Option Source) Refusal → ℕ
sheet_number (Ok (Some Bench)) = 1
sheet_number (Ok (Some House)) = 2
sheet_number (Ok None) = 0
sheet_number (Err e) = 0

-- Where the bytes start, and how many they are; 0 where there are none.
unfoldable pub start_number : Result (Option Place) Refusal → ℕ
start_number (Ok (Some p)) = p.start
start_number (Ok None) = 0
start_number (Err e) = 0

unfoldable pub size_number : Result (Option Place) Refusal → ℕ
size_number (Ok (Some p)) = p.size
size_number (Ok None) = 0
size_number (Err e) = 0

-- What one sheet says of setting k.
unfoldable pub search_of : Sheet → ℕ → Result (Option Part) Refusal
search_of s k =
    cond (is_broken s) (Err CutRecord)
    (cond (ltb (length (counting_of s k)) 7) (Ok None)
    (Ok (Some (record { start = start_of s k; size = length (counting_of s k) - 7 }))))

-- The place from what each of the two sheets says, the bench sheet first.
unfoldable pub place_by : Result (Option Part) Refusal → Result (Option Part) Refusal → Result (Option Place) Refusal
place_by (Err e) h = Err e
place_by (Ok b) (Err e) = Err e
place_by (Ok (Some p)) (Ok h) = Ok (Some (place_at Bench p.start p.size))
place_by (Ok None) (Ok (Some p)) = Ok (Some (place_at House p.start p.size))
place_by (Ok None) (Ok None) = Ok None
