-- Transactions with numbers: command bytes, and the bytes of records.
use mathlib.Core.Path.{◌≡◌, refl}
use mathlib.Core.Bool.{true, false}
use mathlib.Core.List.{[], ◌∷◌}
use lib.ListN.{take}
use Rattle.clock_spec.specs.declared.Chip.TheVariants.{Later}
use Rattle.via.specs.Via.{fresh_via}
use Rattle.machine_spec.specs.Machine.{fresh_machine}
use Rattle.transaction_spec.specs.declared.Act.TheVariants.{Port, Side, Look}
use Rattle.transaction_spec.specs.declared.Ask.TheVariants.{WriteCell, WriteSeconds, WriteProtect, ReadCell, ReadSeconds}
use Rattle.transaction_spec.specs.Acts.{record_of}
use Rattle.transaction_spec.specs.Asked.{target_of, reads_of, cell_byte, command_of, byte_of, extended_of, second_byte_of, acts_of, transaction_of, size_of}

pub record Sampled : Type 0 where
  -- z1aaaa01 and z010aa01: cells 13 and 17.
  pub cell13 : (command_of (WriteCell 13 9) ≡ 0x75) × (command_of (ReadCell 13) ≡ 0xF5)
  pub cell17 : (command_of (WriteCell 17 9) ≡ 0x25) × (command_of (ReadCell 17) ≡ 0xA5)
  pub second2 : (command_of (WriteSeconds 2 9) ≡ 0x09) × (command_of (ReadSeconds 2) ≡ 0x89)
  pub protect : command_of (WriteProtect 9) ≡ 0x35
  -- z0111abc and 0defgh00: cell $36 is 001 and 10110.
  pub cell36 : (command_of (WriteCell 0x36 9) ≡ 0x39) × (command_of (ReadCell 0x36) ≡ 0xB9) × (second_byte_of (ReadCell 0x36) ≡ 0x58)
  pub last-short : (extended_of (ReadCell 19) ≡ false) × (extended_of (ReadCell 20) ≡ true)
  pub sizes : (size_of (WriteCell 19 9) ≡ 396) × (size_of (WriteCell 20 9) ≡ 572) × (size_of (ReadCell 19) ≡ 487) × (size_of (ReadCell 20) ≡ 663)
  -- Bits 3 to 7 are 10101 and 11001: $A8 and $C8 with the three lines.
  pub outputs : record_of 21 25 (Port true false true) ≡ 9 ∷ 0 ∷ 0x57 ∷ 0x52 ∷ 0 ∷ 0 ∷ 0xFE ∷ 0xE1 ∷ 0xEF ∷ 0 ∷ 0xAD ∷ []
  pub directions : record_of 21 25 (Side false) ≡ 9 ∷ 0 ∷ 0x57 ∷ 0x52 ∷ 0 ∷ 0 ∷ 0xFE ∷ 0xE5 ∷ 0xEF ∷ 0 ∷ 0xCE ∷ []
  pub look : record_of 21 25 Look ≡ 8 ∷ 0 ∷ 0x52 ∷ 0x44 ∷ 0 ∷ 0 ∷ 0xFE ∷ 0xE1 ∷ 0xEF ∷ 0 ∷ []
  -- Fresh, all lines of port B are inputs: their levels are 1, their output bits 0.
  pub fresh-first : take 11 (transaction_of (fresh_machine Later) (ReadSeconds 2)) ≡ 9 ∷ 0 ∷ 0x57 ∷ 0x52 ∷ 0 ∷ 0 ∷ 0xFE ∷ 0xE1 ∷ 0xEF ∷ 0 ∷ 0x04 ∷ []

pub sampled : Sampled
unfolding command_of cell_byte target_of reads_of extended_of second_byte_of size_of transaction_of acts_of byte_of fresh_via
sampled =
    record {
      cell13 = (refl, refl);
      cell17 = (refl, refl);
      second2 = (refl, refl);
      protect = refl;
      cell36 = (refl, refl, refl);
      last-short = (refl, refl);
      sizes = (refl, refl, refl, refl);
      outputs = refl;
      directions = refl;
      look = refl;
      fresh-first = refl;
    }
