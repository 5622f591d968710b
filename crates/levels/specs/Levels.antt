-- Line levels: document 01, "every line level is 0 or 1".
use Rattle.std.specs.Prelude.{ℕ, Bool, true, ◌&&◌, List, [], ◌∷◌, ltb}

-- Every number of the list is below n.
unfoldable pub all_below : ℕ → List ℕ → Bool
all_below n [] = true
all_below n (x ∷ xs) = ltb x n && all_below n xs

-- Every number of the list is a level, 0 or 1.
abbrev pub all_levels : List ℕ → Bool
all_levels s = all_below 2 s
