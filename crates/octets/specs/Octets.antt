-- Bytes and numbers: document 01, "Items and answers as bytes", and the seconds bytes of "The clock's wires".
use Rattle.std.specs.Prelude.{ℕ, suc, ◌+◌, ◌*◌, ◌/◌, ◌%◌, ◌^◌, ◌<◌, List, [], ◌∷◌, ◌++◌, length, get_or, take, drop}

-- "Numbers are little-endian": two bytes from `at` on.
unfoldable pub le16_of : List ℕ → ℕ → ℕ
le16_of s at = get_or s at 0 + get_or s (at + 1) 0 * 256

-- Four bytes from `at` on.
unfoldable pub le32_of : List ℕ → ℕ → ℕ
le32_of s at = get_or s at 0 + get_or s (at + 1) 0 * 256 + get_or s (at + 2) 0 * 65536 + get_or s (at + 3) 0 * 16777216

-- The number s with byte k (0 the lowest) replaced by b.
unfoldable pub replace : ℕ → ℕ → ℕ → ℕ
replace k b s = s / 256 ^ suc k * 256 ^ suc k + b * 256 ^ k + s % 256 ^ k

-- The list with the bytes of `x` in place of those from `at` on.
abbrev pub put_at : List ℕ → ℕ → List ℕ → List ℕ
put_at d at x = take at d ++ x ++ drop (at + length x) d

-- Every number of the list is a byte.
abbrev pub Bytes : List ℕ → Type 0
Bytes s = (i : ℕ) → get_or s i 0 < 256

-- The four bytes of a number.
abbrev pub bytes32 : ℕ → List ℕ
bytes32 n = n % 256 ∷ n / 256 % 256 ∷ n / 65536 % 256 ∷ n / 16777216 % 256 ∷ []
