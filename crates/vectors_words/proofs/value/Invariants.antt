use Rattle.std.proofs.Common.{◌≡◌, false, true, drop}
use Rattle.vectors_words.specs.Words.{word_of}
use Rattle.vectors_words.proofs.value.Given as goal

-- the number is that of the characters that are left
abbrev pub invariant-loop-c : goal.invariant-loop-c
invariant-loop-c l = word_of l.value l.hex l.first (drop l.c-index l.word) ≡ word_of l.fn.start false true l.fn.word
