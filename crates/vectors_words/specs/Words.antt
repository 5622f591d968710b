-- The lines of the samples' script, by docs/FORMATS.md.
use Rattle.std.specs.Prelude.{ℕ, suc, ◌+◌, ◌-◌, ◌*◌, Bool, true, false, cond, ◌&&◌, List, [], ◌∷◌, eqb, ltb, leb, length, get_or, drop, Option, Some, None}
use Rattle.vectors_operations.specs.Operations.{order_of, known_of}
use Rattle.vectors_operations.specs.declared.Order.{Order}
use Rattle.vectors_words.specs.declared.Read.{Read}

-- The text ends before `at`, or has a space, 32, there.
unfoldable pub spaced_of : List ℕ → ℕ → Bool
spaced_of text at = cond (ltb at (length text)) (eqb (get_or text at 0) 32) true

-- How many bytes stand before the first c: all where there is none.
unfoldable pub before : ℕ → List ℕ → ℕ
before c [] = 0
before c (b ∷ s) = cond (eqb b c) 0 (suc (before c s))

-- The place of the first line feed, 10, at or after `at`, else the length.
unfoldable pub line_end_of : List ℕ → ℕ → ℕ
line_end_of s at = at + before 10 (drop at s)

-- ---- numbers: "decimal, hexadecimal after `$`, or a capital letter for its ASCII byte. A number left out is 0."
-- A number with one character more: `0` to `9` are 48 to 57, `A` to `Z` 65 to 90, `a` to `f` 97 to 102. One that is too large, or is no number,
-- is 65,536 or more.
unfoldable pub grown_of : ℕ → ℕ → Bool → Bool → ℕ
grown_of n c hex first =
    cond (ltb 65535 n) n
    (cond (ltb c 48) 65536
    (cond (ltb c 58) (cond hex (n * 16 + (c - 48)) (n * 10 + (c - 48)))
    (cond (ltb c 65) 65536
    (cond (ltb c 91) (cond first c 65536)
    (cond (ltb c 97) 65536
    (cond (ltb c 103) (cond hex (n * 16 + (c - 87)) 65536) 65536))))))

-- The number n with the characters up to the next space, 32; a first `$`, 36, makes it hexadecimal.
unfoldable pub value_of : ℕ → Bool → Bool → List ℕ → ℕ
unfolding grown_of
value_of n hex first [] = n
value_of n hex first (c ∷ s) =
    cond (eqb c 32) n
    (cond (first && eqb c 36) (value_of n true false s) (value_of (grown_of n c hex first) hex false s))

-- The same of a word alone, with no space in it.
unfoldable pub word_of : ℕ → Bool → Bool → List ℕ → ℕ
unfolding grown_of
word_of n hex first [] = n
word_of n hex first (c ∷ s) =
    cond (first && eqb c 36) (word_of n true false s) (word_of (grown_of n c hex first) hex false s)

-- The number after the space at `at`, and the place after it.
unfoldable pub number_of : List ℕ → ℕ → Read
unfolding spaced_of before value_of
number_of text at = record {
  value = value_of (cond (spaced_of text at) 0 65536) false true (drop (at + 1) text);
  end = at + 1 + before 32 (drop (at + 1) text);
}

-- A line: its first character and two numbers, nothing behind them; none where the line is bad.
unfoldable pub order_read : List ℕ → Option Order
unfolding number_of known_of
order_read text =
    let first = number_of text 1 in
    let second = number_of text first.end in
    let op = get_or text 0 0 in
    cond (leb (length text) second.end && known_of op first.value second.value) (Some (order_of op first.value second.value)) None
