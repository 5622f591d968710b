-- Samples S7 to S10 of document 01 and those of W-206 at the clock's wires, computed.
use mathlib.Core.Path.{◌≡◌, refl}
use mathlib.Core.Bool.{Bool, true, false}
use mathlib.Core.List.{List, [], ◌∷◌, ◌++◌}
use Prim.Native.Nat.{ℕ, ◌/◌}
use lib.ListN.{get_or}
use Rattle.clock_spec.specs.Patterns.{bits_high_first, meant, second_meant}
use Rattle.octets.specs.Octets.{replace}
use Rattle.clock_spec.specs.Store.{fetch, put, act}
use Rattle.clock_spec.specs.Phase.{between, hear}
use Rattle.clock.specs.Step.{fresh_clock, next, acts, step_wires}
use Rattle.clock_spec.specs.declared.Chip.{Chip}
use Rattle.clock_spec.specs.declared.Chip.TheVariants.{First, Later}
use Rattle.clock_spec.specs.declared.Bytes.TheVariants.{Nothing, One, Two}
use Rattle.clock_spec.specs.declared.Phase.TheVariants.{Listening, Sending, Ignoring}
use Rattle.clock_spec.specs.declared.Wires.{Wires}
use Rattle.clock.specs.declared.Clock.{Clock}

abbrev levels : Bool → Bool → Bool → Wires
levels e c d = record { enable = e; dataclock = c; dataline = d }

-- The chip after levels that follow one another, from a state and the levels there.
abbrev through : Clock → Wires → List Wires → Clock
through c w [] = c
through c w (w' ∷ ws) = through (step_wires c w w') w' ws

abbrev from-fresh : Chip → List Wires → Clock
from-fresh k ws = through (fresh_clock k) (levels true true true) ws

-- Each bit: data-clock low, then high.
abbrev sent : List Bool → List Wires
sent [] = []
sent (b ∷ bs) = levels false false b ∷ levels false true b ∷ sent bs

abbrev start : List Wires
start = levels false true true ∷ []

abbrev end : List Wires
end = levels true true true ∷ []

-- A command and a data byte in one enable.
abbrev write : ℕ → ℕ → List Wires
write c b = start ++ sent (bits_high_first 8 c) ++ sent (bits_high_first 8 b) ++ end

-- Two command bytes, and the first n bits of a data byte.
abbrev part : ℕ → ℕ → ℕ → ℕ → List Wires
part c d n b = start ++ sent (bits_high_first 8 c) ++ sent (bits_high_first 8 d) ++ sent (bits_high_first n b)

-- A command, and so many falls after it.
abbrev ask : ℕ → List Wires
ask c = start ++ sent (bits_high_first 8 c)

abbrev fall : List Wires
fall = levels false false true ∷ levels false true true ∷ []

pub record Samples : Type 0 where
  pub s7 : get_or (from-fresh First (write 0x41 0xAA)).store.cells 0 0 ≡ 0xAA
  pub s7-protected : get_or (from-fresh First (write 0x35 0x80 ++ write 0x41 0xAA)).store.cells 0 0 ≡ 0
  pub s7-cleared : get_or (from-fresh First (write 0x35 0x80 ++ write 0x35 0x7F ++ write 0x41 0xAA)).store.cells 0 0 ≡ 0xAA
  pub test-protected : (from-fresh First (write 0x35 0x80 ++ write 0x31 0x55)).store.test ≡ 0
  pub s8 : from-fresh First (start ++ sent (bits_high_first 8 0x41) ++ sent (bits_high_first 7 (0xAA / 2)) ++ end) ≡ fresh_clock First
  pub s9-b5 : (from-fresh First (ask 0xB5)).phase ≡ Ignoring
  pub s9-b1 : (from-fresh First (ask 0xB1)).phase ≡ Ignoring
  pub s10 : (from-fresh First (levels true false true ∷ levels false true true ∷ [])).phase ≡ Listening Nothing 0 0
  pub seconds-byte : (from-fresh First (write 0x05 0x12)).store.seconds ≡ 0x1200
  pub read_back : (from-fresh First (write 0x41 0xAA ++ ask 0xC1 ++ fall)).phase ≡ Sending 0xAA 1
  -- A cell of $AA: its last bit, 0, shows after the eighth fall; at the ninth the chip ignores.
  pub eighth-fall : (from-fresh First (write 0x41 0xAA ++ ask 0xC1 ++ fall ++ fall ++ fall ++ fall ++ fall ++ fall ++ fall ++ fall)).phase ≡ Sending 0xAA 8
  pub ninth-fall : (from-fresh First (ask 0xC1 ++ fall ++ fall ++ fall ++ fall ++ fall ++ fall ++ fall ++ fall ++ fall)).phase ≡ Ignoring
  -- "Cell $FF is written by $3F $7C", "at the 24th rise and not before".
  pub rise23 : get_or (from-fresh Later (part 0x3F 0x7C 7 (0xAA / 2))).store.cells 0xFF 0 ≡ 0
  pub rise23-phase : (from-fresh Later (part 0x3F 0x7C 7 (0xAA / 2))).phase ≡ Listening (Two 0x3F 0x7C) 7 0x55
  pub rise24 : get_or (from-fresh Later (part 0x3F 0x7C 8 0xAA)).store.cells 0xFF 0 ≡ 0xAA
  -- "20-cell commands reach cells of the same number."
  pub cell0 : from-fresh Later (part 0x38 0x00 8 0xAA ++ end) ≡ from-fresh Later (write 0x41 0xAA)
  pub cell16 : get_or (from-fresh Later (write 0x21 0xAA)).store.cells 16 0 ≡ 0xAA
  pub cell16-first : get_or (from-fresh First (write 0x21 0xAA)).store.cells 16 0 ≡ 0xAA
  -- "A read takes its byte at the 16th": falls before it put out nothing.
  pub read15 : (from-fresh Later (part 0x3F 0x7C 8 0xAA ++ end ++ start ++ sent (bits_high_first 8 0xBF) ++ sent (bits_high_first 7 (0x7C / 2)))).phase ≡ Listening (One 0xBF) 7 0x3E
  pub read16 : (from-fresh Later (part 0x3F 0x7C 8 0xAA ++ end ++ part 0xBF 0x7C 0 0 ++ fall)).phase ≡ Sending 0xAA 1
  -- "A second byte of another form is ignored until enable goes up."
  pub other-form : (from-fresh Later (part 0x3F 0x7D 0 0)).phase ≡ Ignoring
  pub other-form-after : from-fresh Later (part 0x3F 0x7D 8 0xAA ++ end) ≡ fresh_clock Later
  -- A half-sent second byte is dropped when enable goes up.
  pub half-sent : from-fresh Later (start ++ sent (bits_high_first 8 0x3F) ++ sent (bits_high_first 4 0x7) ++ end) ≡ fresh_clock Later
  -- The first chip ignores $3F.
  pub first-chip : (from-fresh First (ask 0x3F)).phase ≡ Ignoring

pub samples : Samples
unfolding step_wires between next acts hear act put fetch meant second_meant replace
samples =
    record {
      s7 = refl;
      s7-protected = refl;
      s7-cleared = refl;
      test-protected = refl;
      s8 = refl;
      s9-b5 = refl;
      s9-b1 = refl;
      s10 = refl;
      seconds-byte = refl;
      read_back = refl;
      eighth-fall = refl;
      ninth-fall = refl;
      rise23 = refl;
      rise23-phase = refl;
      rise24 = refl;
      cell0 = refl;
      cell16 = refl;
      cell16-first = refl;
      read15 = refl;
      read16 = refl;
      other-form = refl;
      other-form-after = refl;
      half-sent = refl;
      first-chip = refl;
    }
