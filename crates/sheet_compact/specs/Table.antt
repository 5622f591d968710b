-- A table of where each setting's counting record stands.
use Rattle.std.specs.Prelude.{ℕ, ◌<◌, ◌≡◌, cond, List, length, get_or, set, ltb}
use Rattle.sheet_spec.specs.Records.{sheet_of}
use Rattle.sheet_spec.specs.Counting.{setting_of, version_of, start_of}

-- The list with x at the setting of record r, unless a higher version of it is noted.
unfoldable pub noted : List ℕ → List ℕ → ℕ → List ℕ → List ℕ
noted r versions x l = cond (ltb (version_of r) (get_or versions (setting_of r) 0)) l (set l (setting_of r) x)

-- The table of the sheet s: for each of the 65,536 settings where the bytes of its counting record start.
pub record Table (starts s : List ℕ) : Type 0 where
  pub long : length starts ≡ 65536
  pub each : (k : ℕ) → k < 65536 → get_or starts k 0 ≡ start_of (sheet_of s) k
