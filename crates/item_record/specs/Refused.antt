-- An answer of kind NO with any number: document 01, "Items and answers as bytes".
use Rattle.std.specs.Prelude.{ℕ, List, [], ◌∷◌}

-- "Each answer is 8 bytes: .. or length 6, kind NO, the refusal number, three zeros." N is 78, O 79. `answer_bytes` has the numbers of the refusals alone.
unfoldable pub no_bytes : ℕ → List ℕ
no_bytes number = 6 ∷ 0 ∷ 78 ∷ 79 ∷ number ∷ 0 ∷ 0 ∷ 0 ∷ []
