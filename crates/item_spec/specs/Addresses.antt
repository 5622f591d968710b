-- The addresses of the VIA's registers and of the IWM's locations: document 01, and refusal 4, "address is none of the 32".
use Rattle.std.specs.Prelude.{ℕ, ◌-◌, ◌*◌, ◌/◌, ◌%◌, cond, ltb, eqb, Option, Some, None}
use Rattle.item_spec.specs.declared.Location.{Location}
use Rattle.item_spec.specs.declared.Location.TheVariants.{Via, Iwm}

-- Which of the sixteen addresses base + 512r, r from 0 to 15.
unfoldable pub place_from : ℕ → ℕ → Option ℕ
place_from a base =
    cond (ltb a base) None
    (cond (ltb (15 * 512) (a - base)) None
    (cond (eqb ((a - base) % 512) 0) (Some ((a - base) / 512)) None))

abbrev pub either_of : Option ℕ → Option ℕ → Option Location
either_of (Some r) y = Some (Via r)
either_of None (Some k) = Some (Iwm k)
either_of None None = None

-- "Register r (0 to 15) is at $EFE1FE + 512r", "location k (0 to 15) is at $DFE1FF + 512k".
unfoldable pub found_of : ℕ → Option Location
found_of a = either_of (place_from a 0xefe1fe) (place_from a 0xdfe1ff)
