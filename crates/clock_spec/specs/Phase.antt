-- Where a transaction with the clock chip stands, by document 01, "The clock's wires", and W-206. The code is in clock_phase.
use Rattle.std.specs.Prelude.{Bool, true, false, cond, not, ◌&&◌, ℕ, ◌+◌, ◌-◌, ◌/◌, ◌%◌, ◌^◌, eqb, ltb}
use Rattle.std.proofs.Math.Option.{Option, none, some}
use Rattle.clock_spec.specs.Patterns.{meant, extend}
use Rattle.clock_spec.specs.Shared.{Written}
use Rattle.clock_spec.specs.Store.{fetch}
use Rattle.clock_spec.specs.declared.Chip.{Chip}
use Rattle.clock_spec.specs.declared.Command.{Command}
use Rattle.clock_spec.specs.declared.Command.TheVariants.{Write, Read, Extended, Illegal}
use Rattle.clock_spec.specs.declared.Bytes.{Bytes}
use Rattle.clock_spec.specs.declared.Bytes.TheVariants.{Nothing, One, Two}
use Rattle.clock_spec.specs.declared.Verdict.{Verdict}
use Rattle.clock_spec.specs.declared.Verdict.TheVariants.{More, Reads, Writes, Ignored}
use Rattle.clock_spec.specs.declared.Store.{Store}
use Rattle.clock_spec.specs.declared.Phase.{Phase}
use Rattle.clock_spec.specs.declared.Phase.TheVariants.{Idle, Listening, Sending, Ignoring}
use Rattle.clock_spec.specs.declared.Edge.{Edge}
use Rattle.clock_spec.specs.declared.Edge.TheVariants.{Up, Starts, Still, Fall, Rise}
use Rattle.clock_spec.specs.declared.Wires.{Wires}

-- ---- the wires

-- "Compare the levels of enable, data-clock and data before and after each item": enable after and before, data-clock before and after, data after.
abbrev pub edge_of : Bool → Bool → Bool → Bool → Bool → Edge
edge_of true e c c' d = Up
edge_of false true c c' d = Starts
edge_of false false false false d = Still
edge_of false false false true d = Rise d
edge_of false false true false d = Fall
edge_of false false true true d = Still

unfoldable pub between : Wires → Wires → Edge
between w w' = edge_of w'.enable w.enable w.dataclock w'.dataclock w'.dataline

abbrev pub with_line : Wires → Bool → Wires
with_line w x = record { enable = w.enable; dataclock = w.dataclock; dataline = x }

-- ---- the bytes of a transaction

-- "At the eighth rise: a legal read takes its byte at once"; "a legal write takes eight more bits"; W-206: the second byte of an extended command follows.
-- "Anything else is ignored until enable goes up."
abbrev pub by_first : Command → Verdict
by_first (Write t) = More
by_first (Read t) = Reads t
by_first (Extended z a) = More
by_first Illegal = Ignored

-- At the sixteenth: "a legal write .. is complete"; W-206: the whole command of two bytes is judged like one of a single byte, so "a read takes its byte at
-- the 16th", and "a second byte of another form is ignored until enable goes up".
abbrev pub by_second : Command → ℕ → Verdict
by_second (Write t) b = Writes t
by_second (Read t) b = Ignored
by_second (Extended z a) b = by_first (extend (Extended z a) b)
by_second Illegal b = Ignored

-- W-206: "A write then acts, and is complete .., at the 24th rise and not before."
abbrev pub by_third : Command → Verdict
by_third (Write t) = Writes t
by_third (Read t) = Ignored
by_third (Extended z a) = Ignored
by_third Illegal = Ignored

-- The verdict at the last bit of the byte b, after those before it.
unfoldable pub hear : Chip → Bytes → ℕ → Verdict
hear k Nothing b = by_first (meant k b)
hear k (One c) b = by_second (meant k c) b
hear k (Two c d) b = by_third (extend (meant k c) d)

-- One byte more, where another follows it: a third one is the last.
abbrev pub with_byte : Bytes → ℕ → Bytes
with_byte Nothing b = One b
with_byte (One c) b = Two c b
with_byte (Two c d) b = Two c d

-- ---- the phase

-- At the last bit of the byte b: "after that the chip ignores".
abbrev pub byte_phase : Store → Bytes → ℕ → Verdict → Phase
byte_phase s bs b More = Listening (with_byte bs b) 0 0
byte_phase s bs b (Reads t) = Sending (fetch t s) 0
byte_phase s bs b (Writes t) = Ignoring
byte_phase s bs b Ignored = Ignoring

-- The write that is complete there.
abbrev pub write_of : Verdict → ℕ → Option Written
write_of More b = none
write_of (Reads t) b = none
write_of (Writes t) b = some (record { to = t; byte = b })
write_of Ignored b = none

-- A rise while bits are taken; v is their value with the new one.
abbrev pub bit_phase : Store → Bytes → ℕ → ℕ → Phase
bit_phase s bs n v = cond (eqb n 7) (byte_phase s bs v (hear s.chip bs v)) (Listening bs (n + 1) v)

-- A fall while sending: the next eight show bits 7 to 0; at the ninth "the chip turns to ignoring".
abbrev pub fall_phase : ℕ → ℕ → Phase
fall_phase y n = cond (eqb n 8) Ignoring (Sending y (n + 1))

-- ---- the data line

-- The level that the chip gives the data line: fall n shows bit 8-n; "the line is undriven before the first and from the ninth", and undriven is 1.
unfoldable pub shown_level : Phase → Bool
shown_level Idle = true
shown_level (Listening bs n v) = true
shown_level (Sending y n) = cond (eqb n 0) true (eqb (y / 2 ^ (8 - n) % 2) 1)
shown_level Ignoring = true

-- ---- accepted states

-- So many bits taken, 0 to 7, and their value.
abbrev pub few_bits : ℕ → ℕ → Bool
few_bits n v = ltb n 8 && ltb v (2 ^ n)

abbrev pub is_more : Verdict → Bool
is_more More = true
is_more (Reads t) = false
is_more (Writes t) = false
is_more Ignored = false

-- Whole bytes that another one follows: none, "a legal write command"; W-206: the first byte of an extended command, or an extended write command.
unfoldable pub more_follows : Chip → Bytes → Bool
more_follows k Nothing = true
more_follows k (One c) = ltb c 256 && is_more (hear k Nothing c)
more_follows k (Two c d) = (ltb c 256 && ltb d 256) && is_more (hear k (One c) d)

-- "The chip is idle exactly while enable is 1, and otherwise it has taken 0 to 7 command bits, or a legal write command and 0 to 7 data bits,
-- or has a read byte and 0 to 8 falls, or ignores."
unfoldable pub accepted_phase : Chip → Phase → Bool → Bool
accepted_phase k Idle e = e
accepted_phase k (Listening bs n v) e = not e && (more_follows k bs && few_bits n v)
accepted_phase k (Sending y n) e = not e && ltb n 9
accepted_phase k Ignoring e = not e

-- The counts of a phase are in range, whatever enable is.
abbrev pub counts : Phase → Bool
counts Idle = true
counts (Listening bs n v) = few_bits n v
counts (Sending y n) = ltb n 9
counts Ignoring = true
