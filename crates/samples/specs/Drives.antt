-- Request W-203 in short runs from the fresh machine, as one statement about the definition that the run's contract cites.
use Rattle.std.specs.Prelude.{◌≡◌, List, [], ◌∷◌, ◌++◌, ℕ}
use Rattle.samples.specs.Lists.{wr, access, rd_iwm, di, rs, pw, ready, strobe}
use Rattle.samples.specs.Samples.{values_from}

-- The sense that the addressed register of the selected drive shows: a read of location 14.
abbrev pub sense : List ℕ
sense = rd_iwm 14

-- The values of the answers are the numbers of the refusals.
pub record DriveSamples : Type 0 where
  -- A disk put in; a second one: 8. A second one, and locked 2: 5. None to remove from the external drive: 8. Removed from the internal one.
  pub refusals : values_from 0 5 (di 0 1 0 0 ++ di 0 1 0 0 ++ di 0 1 2 0 ++ di 1 0 0 0 ++ di 0 0 0 0) ≡ 0 ∷ 8 ∷ 5 ∷ 8 ∷ 0 ∷ []
  -- STEP, register 2, is 1; a step asked by a strobe of 1 tick makes it 0; one of no tick does nothing, and neither does one in which SEL moved and came back.
  pub step : values_from 4 4 (ready ++ access 0 1 ++ sense ++ strobe 1 ++ sense) ≡ 128 ∷ 0 ∷ 0 ∷ 0 ∷ []
  pub short : values_from 4 4 (ready ++ access 0 1 ++ sense ++ strobe 0 ++ sense) ≡ 128 ∷ 0 ∷ 0 ∷ 128 ∷ []
  pub spoilt : values_from 4 5 (ready ++ access 0 1 ++ access 0 7 ++ wr 0 3 0 ++ wr 0 3 32 ++ access 1 6 ++ sense) ≡ 0 ∷ 0 ∷ 0 ∷ 0 ∷ 128 ∷ []
  -- The motor, register 4: off without a disk, on with one; RS leaves it on, PW turns it off and leaves the disk, register 1.
  pub no_disk : values_from 4 3 (ready ++ access 0 3 ++ strobe 1 ++ sense) ≡ 0 ∷ 0 ∷ 128 ∷ []
  pub motor : values_from 7 1 (di 0 1 0 0 ++ ready ++ access 0 3 ++ strobe 1 ++ sense) ≡ 0 ∷ []
  pub over_reset : values_from 12 1 (di 0 1 0 0 ++ ready ++ access 0 3 ++ strobe 1 ++ rs ++ ready ++ access 0 3 ++ sense) ≡ 0 ∷ []
  pub over_power : values_from 12 4 (di 0 1 0 0 ++ ready ++ access 0 3 ++ strobe 1 ++ pw ++ ready ++ access 0 3 ++ sense ++ wr 0 3 0 ++ access 0 2 ++ sense) ≡ 128 ∷ 0 ∷ 0 ∷ 0 ∷ []
