-- Request W-211 in short runs from the fresh machine, as one statement about the definition that the run's contract cites.
use Rattle.std.specs.Prelude.{◌≡◌, List, [], ◌∷◌, ◌++◌}
use Rattle.clock_spec.specs.declared.Chip.TheVariants.{Later}
use Rattle.clock_spec.specs.declared.Bytes.TheVariants.{Nothing}
use Rattle.clock_spec.specs.declared.Phase.TheVariants.{Idle, Listening}
use Rattle.samples.specs.Lists.{rd, wr, access, location, mw_to, mw, se, begin, select, ready, transaction_values}
use Rattle.samples.specs.Samples.{ran, values_from, cell_on, cell0, phase}
use Rattle.samples.specs.Drives.{sense}

pub record ManySamples : Type 0 where
  -- A whole clock transaction in one MW of 34 values sets cell 0, on both chips; under protect it does not.
  pub transaction : cell0 (begin ++ mw 0 0 (transaction_values 0x41 0xa6)) ≡ 0xa6
  pub transaction_later : cell_on Later 0 (begin ++ mw 0 0 (transaction_values 0x41 0xa6)) ≡ 0xa6
  pub protected : cell0 (begin ++ mw 0 0 (transaction_values 0x35 0x80) ++ mw 0 0 (transaction_values 0x41 0xa6)) ≡ 0
  -- "Each value counts as an item where the wires are compared": data-clock rises and falls again; enable goes up and falls again.
  pub rise_within : phase (begin ++ select ++ mw 0 0 (1 ∷ 3 ∷ 1 ∷ [])) ≡ Listening Nothing 1 1
  pub end_within : phase (begin ++ select ++ mw 0 0 (1 ∷ 3 ∷ 1 ∷ 4 ∷ 0 ∷ [])) ≡ Listening Nothing 0 0
  -- By the direction register: the first value drives enable down, the last no longer does.
  pub by_direction : phase (mw 0 2 (7 ∷ 4 ∷ [])) ≡ Listening Nothing 1 1
  pub by_direction_up : phase (mw 0 2 (7 ∷ 0 ∷ [])) ≡ Idle
  -- "The first value comes after the wait and the others with no wait": T1 counts 3 of its 9 ticks. The last value stands.
  pub wait : values_from 2 3 (wr 0 4 9 ++ wr 0 5 0 ++ mw 3 3 (0x11 ∷ 0x22 ∷ 0x47 ∷ []) ++ rd 0 4 ++ rd 0 3) ≡ 0 ∷ 6 ∷ 0x47 ∷ []
  -- T1's flag, set in the wait, is cleared by the first value and not before it: register 5 loads T1 and clears flag 6.
  pub wait_first : values_from 2 3 (wr 0 4 2 ++ wr 0 5 0 ++ mw 3 5 (0 ∷ 1 ∷ []) ++ rd 0 13 ++ rd 0 5) ≡ 0 ∷ 0 ∷ 1 ∷ []
  -- One answer, as the last value leaves the machine: the second's flag is up, the level follows enables $81 and $01.
  pub answer_down : (ran (se ++ mw 0 14 (0x81 ∷ 0x01 ∷ []))).answers ≡ 6 ∷ 0 ∷ 79 ∷ 75 ∷ 0 ∷ 0 ∷ 0 ∷ 1 ∷ 6 ∷ 0 ∷ 79 ∷ 75 ∷ 0 ∷ 0 ∷ 0 ∷ 1 ∷ []
  pub answer_up : (ran (se ++ mw 0 14 (0x01 ∷ 0x81 ∷ []))).answers ≡ 6 ∷ 0 ∷ 79 ∷ 75 ∷ 0 ∷ 0 ∷ 0 ∷ 1 ∷ 6 ∷ 0 ∷ 79 ∷ 75 ∷ 0 ∷ 1 ∷ 0 ∷ 1 ∷ []
  -- To an IWM location, ENABLE on: each value is an access.
  pub iwm : (ran (mw_to 0 (location 9) (0x55 ∷ 0xaa ∷ []))).answers ≡ 6 ∷ 0 ∷ 79 ∷ 75 ∷ 0 ∷ 0 ∷ 16 ∷ 1 ∷ []
  -- The strobe sees the levels after each value: SEL moved and came back within one MW, and no step is asked; with values that leave SEL as it is, one is.
  pub spoilt : values_from 4 4 (ready ++ access 0 1 ++ access 0 7 ++ mw 0 3 (0 ∷ 32 ∷ []) ++ access 1 6 ++ sense) ≡ 0 ∷ 0 ∷ 0 ∷ 128 ∷ []
  pub unspoilt : values_from 4 4 (ready ++ access 0 1 ++ access 0 7 ++ mw 0 3 (32 ∷ 32 ∷ []) ++ access 1 6 ++ sense) ≡ 0 ∷ 0 ∷ 0 ∷ 0 ∷ []
  -- Its wait counts for a strobe that is on.
  pub strobe_wait : values_from 4 4 (ready ++ access 0 1 ++ access 0 7 ++ mw 1 3 (32 ∷ 32 ∷ []) ++ access 0 6 ++ sense) ≡ 0 ∷ 0 ∷ 0 ∷ 0 ∷ []
  -- A refused MW passes no tick and writes nothing: count 0 is 5.
  pub refused : values_from 2 3 (wr 0 4 9 ++ wr 0 5 0 ++ mw 3 3 [] ++ rd 0 4 ++ rd 0 3) ≡ 5 ∷ 9 ∷ 0 ∷ []
