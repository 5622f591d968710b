-- Samples S1 to S10 of document 01 and those of W-206, as one statement about the definition that the run's contract cites.
use Rattle.std.specs.Prelude.{None}
use Rattle.std.specs.Prelude.{ℕ, zero, suc, ◌+◌, ◌*◌, ◌≡◌, List, [], ◌∷◌, ◌++◌, get_or}
use Rattle.clock_spec.specs.declared.Chip.{Chip}
use Rattle.clock_spec.specs.declared.Chip.TheVariants.{First, Later}
use Rattle.clock_spec.specs.declared.Bytes.TheVariants.{Nothing}
use Rattle.clock_spec.specs.declared.Phase.{Phase}
use Rattle.clock_spec.specs.declared.Phase.TheVariants.{Listening, Sending, Ignoring}
use Rattle.machine_spec.specs.Machine.{fresh_machine}
use Rattle.run_spec.specs.Outcome.{Out, halt, run_of}
use Rattle.samples.specs.Lists.{rd, wr, se, begin, end, select, sent, byte, transaction}

-- The fresh machine run over a list, with room for 100 answers; the first chip's, where none is named.
abbrev pub ran_on : Chip → List ℕ → Out
ran_on k l = run_of (fresh_machine k) l 800

abbrev pub ran : List ℕ → Out
ran l = ran_on First l

-- The values of n answers, the k-th first, k counted from 0.
unfoldable pub values : ℕ → ℕ → List ℕ → List ℕ
values k zero answers = []
values k (suc n) answers = get_or answers (8 * k + 4) 0 ∷ values (suc k) n answers

abbrev pub values_from : ℕ → ℕ → List ℕ → List ℕ
values_from k n l = values k n (ran l).answers

-- A cell and the phase after a list.
abbrev pub cell_on : Chip → ℕ → List ℕ → ℕ
cell_on k i l = get_or (ran_on k l).machine.clock.store.cells i 0

abbrev pub cell0 : List ℕ → ℕ
cell0 l = cell_on First 0 l

abbrev pub phase_on : Chip → List ℕ → Phase
phase_on k l = (ran_on k l).machine.clock.phase

abbrev pub phase : List ℕ → Phase
phase l = phase_on First l

pub record Samples : Type 0 where
  pub S1 : run_of (fresh_machine First) [] 0 ≡ halt (fresh_machine First) None
  pub S2 : (ran (0x08 ∷ 0x00 ∷ 0x52 ∷ 0x44 ∷ 0x00 ∷ 0x00 ∷ 0xfe ∷ 0xe1 ∷ 0xef ∷ 0x00 ∷ [])).answers
      ≡ 0x06 ∷ 0x00 ∷ 0x4f ∷ 0x4b ∷ 0xff ∷ 0x00 ∷ 0x00 ∷ 0x01 ∷ []
  pub S3 : (ran (0x05 ∷ 0x00 ∷ 0x53 ∷ 0x45 ∷ 0x00 ∷ 0x00 ∷ 0x00 ∷ [])).answers
      ≡ 0x06 ∷ 0x00 ∷ 0x4e ∷ 0x4f ∷ 0x03 ∷ 0x00 ∷ 0x00 ∷ 0x00 ∷ []
  pub S4 : (ran (wr 0 14 0x81 ++ se ++ rd 0 13)).answers
      ≡ 6 ∷ 0 ∷ 79 ∷ 75 ∷ 0 ∷ 0 ∷ 0 ∷ 1 ∷ 6 ∷ 0 ∷ 79 ∷ 75 ∷ 0 ∷ 1 ∷ 0 ∷ 1 ∷ 6 ∷ 0 ∷ 79 ∷ 75 ∷ 0x81 ∷ 1 ∷ 0 ∷ 1 ∷ []
  -- After 2 ticks the flag is clear, after 3 set, and the counter is $FFFF.
  pub S5 : values_from 2 4 (wr 0 4 2 ++ wr 0 5 0 ++ rd 2 13 ++ rd 1 13 ++ rd 0 5 ++ rd 0 4) ≡ 0 ∷ 0x40 ∷ 0xff ∷ 0xff ∷ []
  -- In free run it is set at 3, 7 and 11; a read of register 4 clears it between.
  pub S6 : values_from 3 8
      (wr 0 11 0x40 ++ wr 0 4 2 ++ wr 0 5 0 ++ rd 2 13 ++ rd 1 13 ++ rd 0 4 ++ rd 3 13 ++ rd 1 13 ++ rd 0 4 ++ rd 3 13 ++ rd 1 13)
      ≡ 0 ∷ 0x40 ∷ 0xff ∷ 0 ∷ 0x40 ∷ 0xff ∷ 0 ∷ 0x40 ∷ []
  pub S7 : cell0 (begin ++ transaction 0x41 0xaa) ≡ 0xaa
  pub S7-protected : cell0 (begin ++ transaction 0x35 0x80 ++ transaction 0x41 0xaa) ≡ 0
  pub S8 : cell0 (begin ++ select ++ byte 0x41 ++ sent 7 8 0xaa ++ end) ≡ 0
  pub S9-B5 : phase (begin ++ select ++ byte 0xb5) ≡ Ignoring
  pub S9-B1 : phase (begin ++ select ++ byte 0xb1) ≡ Ignoring
  pub S10 : phase (begin ++ wr 0 0 3) ≡ Listening Nothing 0 0
  -- W-206: $3F $7C $AA sets cell $FF at the 24th rise and not at the 23rd.
  pub W206-rise24 : cell_on Later 0xff (begin ++ select ++ byte 0x3f ++ byte 0x7c ++ byte 0xaa) ≡ 0xaa
  pub W206-rise23 : cell_on Later 0xff (begin ++ select ++ byte 0x3f ++ byte 0x7c ++ sent 7 8 0xaa) ≡ 0
  -- $38 $00 reaches cell 0 as $41 does.
  pub W206-cell0 : cell_on Later 0 (begin ++ select ++ byte 0x38 ++ byte 0x00 ++ byte 0xaa ++ end) ≡ 0xaa
  pub W206-cell0-short : cell_on Later 0 (begin ++ transaction 0x41 0xaa) ≡ 0xaa
  -- $BF $7C reads cell $FF.
  pub W206-read : phase_on Later (begin ++ select ++ byte 0x3f ++ byte 0x7c ++ byte 0xaa ++ end ++ select ++ byte 0xbf ++ byte 0x7c) ≡ Sending 0xaa 0
  -- $3F $7D is ignored, and the first chip ignores $3F.
  pub W206-other-form : phase_on Later (begin ++ select ++ byte 0x3f ++ byte 0x7d) ≡ Ignoring
  pub W206-first-chip : phase (begin ++ select ++ byte 0x3f) ≡ Ignoring
  -- $21 is cell 16 on both.
  pub W206-cell16 : cell_on Later 16 (begin ++ transaction 0x21 0xaa) ≡ 0xaa
  pub W206-cell16-first : cell_on First 16 (begin ++ transaction 0x21 0xaa) ≡ 0xaa
