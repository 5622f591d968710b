-- What a bench reads, in runs from the fresh machine that are computed: bit 0 of the answers to the RDs of port B, and what the history of the list says.
use Rattle.std.specs.Prelude.{◌≡◌, Bool, true, false, List, [], ◌∷◌, ◌++◌, ℕ, zero, suc, ◌+◌, ◌-◌, ◌*◌, ◌/◌, ◌%◌, ◌^◌, get_or, drop}
use Rattle.via_bits.specs.Bytes.{bit}
use Rattle.clock_spec.specs.declared.Chip.{Chip}
use Rattle.clock_spec.specs.declared.Chip.TheVariants.{First, Later}
use Rattle.machine_spec.specs.Machine.{fresh_machine}
use Rattle.run_spec.specs.Outcome.{Piece, run_of}
use Rattle.demand3.specs.Runs.{answered_pieces}
use Rattle.demand3_reads.specs.Runs.{line_after_pieces}

-- WR of v to register 2, direction B; RD of register 0; SE; PW with 127 seconds off; each with no wait.
abbrev pub direct : ℕ → List ℕ
direct v = 9 ∷ 0 ∷ 87 ∷ 82 ∷ 0 ∷ 0 ∷ 0xFE ∷ 0xE5 ∷ 0xEF ∷ 0 ∷ v ∷ []

abbrev pub port : List ℕ
port = 8 ∷ 0 ∷ 82 ∷ 68 ∷ 0 ∷ 0 ∷ 0xFE ∷ 0xE1 ∷ 0xEF ∷ 0 ∷ []

abbrev pub tick : List ℕ
tick = 4 ∷ 0 ∷ 83 ∷ 69 ∷ 0 ∷ 0 ∷ []

abbrev pub off127 : List ℕ
off127 = 8 ∷ 0 ∷ 80 ∷ 87 ∷ 0 ∷ 0 ∷ 127 ∷ 0 ∷ 0 ∷ 0 ∷ []

-- Output bits stay 0: a line is 0 while it is driven. Enable goes down, and up; a bit is data-clock driven, then not, with data driven for a 0.
abbrev pub down : List ℕ
down = direct 7

abbrev pub up : List ℕ
up = direct 0

abbrev pub edge : ℕ → List ℕ
edge b = direct (4 + 2 + (1 - b)) ++ direct (4 + (1 - b))

-- The lowest n bits of a byte, high-order first.
abbrev pub bits : ℕ → ℕ → List ℕ
bits zero b = []
bits (suc n) b = edge (b / 2 ^ n % 2) ++ bits n b

-- Data-clock falls, PB0 being an input; a RD; data-clock rises: n times, three records each.
abbrev pub clocked : ℕ → List ℕ
clocked zero = []
clocked (suc n) = direct 6 ++ port ++ direct 4 ++ clocked n

-- A whole write transaction of 34 records.
abbrev pub writing : ℕ → ℕ → List ℕ
writing command b = down ++ bits 8 command ++ bits 8 b ++ up

-- $41 $AA: cell 0 is written, then read by $C1 with nine falls: the first RD is the answer numbered 52, and each other is three after the one before.
abbrev pub cell : List ℕ
cell = writing 0x41 0xAA ++ (down ++ bits 8 0xC1) ++ clocked 9

-- The same read under protect, set by $35 $80, and after a write of $55 that protect keeps out: the first RD is numbered 120.
abbrev pub under_protect : List ℕ
under_protect = writing 0x41 0xAA ++ writing 0x35 0x80 ++ writing 0x41 0x55 ++ (down ++ bits 8 0xC1) ++ clocked 8

-- 127 seconds, byte 0 of the seconds read, an SE after the third fall.
abbrev pub seconds : List ℕ
seconds = off127 ++ (down ++ bits 8 0x81) ++ clocked 3 ++ tick ++ clocked 5

-- A read cut short after three falls by enable, and the same cell read again whole.
abbrev pub cut_short : List ℕ
cut_short = writing 0x41 0xAA ++ (down ++ bits 8 0xC1) ++ clocked 3 ++ up ++ (down ++ bits 8 0xC1) ++ clocked 8

-- W-206: $3F $7C $5A sets cell $FF, and $BF $7C reads it, its byte taken at the 16th rise.
abbrev pub extended : List ℕ
extended = (down ++ bits 8 0x3F ++ bits 8 0x7C ++ bits 8 0x5A ++ up) ++ (down ++ bits 8 0xBF ++ bits 8 0x7C) ++ clocked 8

abbrev pub plenty : ℕ
plenty = 2400

-- Bit 0 of the values of n answers, each three after the one before.
abbrev pub every_third : ℕ → List ℕ → List Bool
every_third zero l = []
every_third (suc n) l = bit 0 (get_or l 4 0) ∷ every_third n (drop 24 l)

-- The n RDs from the answer numbered k on.
abbrev pub read_from : Chip → List ℕ → ℕ → ℕ → List Bool
read_from c l k n = every_third n (drop (8 * k) (run_of (fresh_machine c) l plenty).answers)

-- The same by the history of the pieces before each; so many of the newest pieces are dropped for the first.
abbrev pub told_from : Chip → ℕ → ℕ → List Piece → List Bool
told_from c zero k ps = []
told_from c (suc n) k ps = line_after_pieces (fresh_machine c) (drop k ps) ∷ told_from c n (k - 3) ps

abbrev pub told_of : Chip → List ℕ → ℕ → ℕ → List Bool
told_of c l k n = told_from c n k (answered_pieces l plenty)

-- $AA and $5A, high bit first.
abbrev pub AA : List Bool
AA = true ∷ false ∷ true ∷ false ∷ true ∷ false ∷ true ∷ false ∷ []

abbrev pub 5A : List Bool
5A = false ∷ true ∷ false ∷ true ∷ true ∷ false ∷ true ∷ false ∷ []

pub record ReadSamples : Type 0 where
  -- A cell: its byte, and from the ninth fall on the line is undriven.
  pub cell_read : read_from First cell 52 9 ≡ AA ++ (true ∷ [])
  pub cell_told : told_of First cell 26 9 ≡ AA ++ (true ∷ [])
  -- Under protect: the byte that protect kept.
  pub protected_read : read_from First under_protect 120 8 ≡ AA
  -- A seconds byte that a tick changes in the middle of the read is that of the eighth rise: 127, though the seconds are 128 then.
  pub seconds_read : read_from First seconds 19 3 ++ read_from First seconds 29 5 ≡ false ∷ true ∷ true ∷ true ∷ true ∷ true ∷ true ∷ true ∷ []
  pub seconds_told : told_of First seconds 24 3 ++ told_of First seconds 14 5 ≡ false ∷ true ∷ true ∷ true ∷ true ∷ true ∷ true ∷ true ∷ []
  pub seconds_then : (run_of (fresh_machine First) seconds plenty).machine.clock.store.seconds ≡ 128
  -- Cut short, and read again from its first bit.
  pub cut_read : read_from First cut_short 79 8 ≡ AA
  -- The later chip's command of two bytes; the first chip ignores it, and the line stays undriven.
  pub extended_read : read_from Later extended 84 8 ≡ 5A
  pub extended_told : told_of Later extended 23 8 ≡ 5A
  pub first_ignores : read_from First extended 84 8 ≡ true ∷ true ∷ true ∷ true ∷ true ∷ true ∷ true ∷ true ∷ []
