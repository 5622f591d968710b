-- The clock chip on the machine: bits taken and sent, a byte by its number, what the test byte stops. Document 01, "The clock's wires", and request W-204.
use Rattle.std.specs.Prelude.{ℕ, zero, suc, ◌+◌, ◌/◌, ◌%◌, ◌^◌, ◌≡◌, Bool, true, false, List, [], ◌∷◌, get_or}
use Rattle.units.specs.Units.{for_ticks}
use Rattle.clock_spec.specs.declared.Target.TheVariants.{Cell}
use Rattle.clock_spec.specs.declared.Store.{Store}
use Rattle.clock_spec.specs.Store.{put, with_seconds, with_protect, with_test}
use Rattle.clock_spec.specs.declared.Phase.{Phase}
use Rattle.clock_spec.specs.declared.Phase.TheVariants.{Listening, Sending, Ignoring}
use Rattle.clock.specs.Step.{with_store}
use Rattle.item_spec.specs.declared.Item.{Item}
use Rattle.item_spec.specs.declared.Item.TheVariants.{ReadVia, WriteVia, Second, Power}
use Rattle.clock_spec.specs.declared.Chip.TheVariants.{First}
use Rattle.clock_spec.specs.declared.Bytes.TheVariants.{Nothing, One}
use Rattle.machine_spec.specs.declared.Machine.{Machine}
use Rattle.machine_spec.specs.Machine.{fresh_machine, with_clock}
use Rattle.samples.specs.Registers.{one}
use Rattle.samples.specs.Steps.{after_item, value_of, after_items, each, port_b}

-- The fresh machine with another store.
abbrev pub machine_with : Store → Machine
machine_with s = with_clock (fresh_machine First) (with_store (fresh_machine First).clock s)

abbrev pub seconds : Machine → ℕ
seconds m = m.clock.store.seconds

-- Seconds $1C4AB236, cell 5 $6E, cell 18 $34: no byte is the same backwards.
abbrev pub clock_machine : Machine
clock_machine = machine_with (put (Cell 18) 0x34 (put (Cell 5) 0x6e (with_seconds (fresh_machine First).clock.store 0x1c4ab236)))

-- The same under protect.
abbrev pub clock_protected : Machine
clock_protected = machine_with (with_protect clock_machine.clock.store true)

abbrev pub protect_of : Machine → Bool
protect_of m = m.clock.store.protect

-- A transaction begun: port B's bits 0 to 2 outputs, enable up, then down, data-clock high.
abbrev pub after_select : Machine → Machine
after_select m = after_items m (port_b 6 ∷ WriteVia (for_ticks 0) 2 7 ∷ port_b 2 ∷ [])

-- The n highest of the low k bits of a byte, high-order first: for each data-clock low, then high, with the bit on the data line.
unfoldable pub bit_items : ℕ → ℕ → ℕ → List Item
bit_items zero k byte = []
bit_items (suc n) zero byte = []
bit_items (suc n) (suc k) byte = port_b (byte / 2 ^ k % 2) ∷ port_b (2 + byte / 2 ^ k % 2) ∷ bit_items n k byte

-- After a command, and after it and a data byte.
abbrev pub after_command : ℕ → Machine → Machine
after_command c m = after_items (after_select m) (bit_items 8 8 c)

abbrev pub after_write : ℕ → ℕ → Machine → Machine
after_write c b m = after_items (after_command c m) (bit_items 8 8 b)

-- The data line made an input.
abbrev pub after_read_command : ℕ → Machine
after_read_command c = after_item (after_command c clock_machine) (WriteVia (for_ticks 0) 2 6)

-- After n falls, data-clock high again.
unfoldable pub after_falls : ℕ → Machine → Machine
after_falls zero m = m
after_falls (suc n) m = after_falls n (after_items m (port_b 0 ∷ port_b 2 ∷ []))

-- Bit 0 of port B before the first fall and after each of nine.
abbrev pub data_levels : ℕ → List ℕ
data_levels c = each (λ n. value_of (after_falls n (after_read_command c)) (ReadVia (for_ticks 0) 0) % 2) (0 ∷ 1 ∷ 2 ∷ 3 ∷ 4 ∷ 5 ∷ 6 ∷ 7 ∷ 8 ∷ 9 ∷ [])

abbrev pub phase : Machine → Phase
phase m = m.clock.phase

-- The seconds after an item under each test byte.
abbrev pub seconds_by_test : Item → List ℕ
seconds_by_test i = each (λ t. seconds (after_item (machine_with (with_test (with_seconds (fresh_machine First).clock.store 4294967295) t)) i)) (0x00 ∷ 0x80 ∷ 0x40 ∷ 0xc0 ∷ 0x20 ∷ 0x3f ∷ [])

pub record ClockSamples : Type 0 where
  -- "The next eight falls show its bits 7 to 0; the line is undriven before the first and from the ninth": seconds bytes 0 to 3, cell 5, cell 18.
  pub seconds0 : data_levels 0x81 ≡ 1 ∷ 0 ∷ 0 ∷ 1 ∷ 1 ∷ 0 ∷ 1 ∷ 1 ∷ 0 ∷ 1 ∷ []
  pub seconds1 : data_levels 0x85 ≡ 1 ∷ 1 ∷ 0 ∷ 1 ∷ 1 ∷ 0 ∷ 0 ∷ 1 ∷ 0 ∷ 1 ∷ []
  pub seconds2 : data_levels 0x89 ≡ 1 ∷ 0 ∷ 1 ∷ 0 ∷ 0 ∷ 1 ∷ 0 ∷ 1 ∷ 0 ∷ 1 ∷ []
  pub seconds3 : data_levels 0x8d ≡ 1 ∷ 0 ∷ 0 ∷ 0 ∷ 1 ∷ 1 ∷ 1 ∷ 0 ∷ 0 ∷ 1 ∷ []
  pub cell5 : data_levels 0xd5 ≡ 1 ∷ 0 ∷ 1 ∷ 1 ∷ 0 ∷ 1 ∷ 1 ∷ 1 ∷ 0 ∷ 1 ∷ []
  pub cell18 : data_levels 0xa9 ≡ 1 ∷ 0 ∷ 0 ∷ 1 ∷ 1 ∷ 0 ∷ 1 ∷ 0 ∷ 0 ∷ 1 ∷ []
  -- Sending until the eighth fall, ignoring at the ninth.
  pub eighth_fall : phase (after_falls 8 (after_read_command 0xd5)) ≡ Sending 0x6e 8
  pub ninth_fall : phase (after_falls 9 (after_read_command 0xd5)) ≡ Ignoring
  -- Command bits 1, 1, 0, and data bits 1, 0, 1, 1, 0: the first is the highest.
  pub command : phase (after_items (after_select clock_machine) (bit_items 3 3 6)) ≡ Listening Nothing 3 6
  pub half : phase (after_items (after_command 0x41 clock_machine) (bit_items 5 5 0x16)) ≡ Listening (One 0x41) 5 0x16
  -- $E9 written to each seconds byte.
  pub written : each (λ c. seconds (after_write c 0xe9 clock_machine)) (0x01 ∷ 0x05 ∷ 0x09 ∷ 0x0d ∷ []) ≡ 0x1c4ab2e9 ∷ 0x1c4ae936 ∷ 0x1ce9b236 ∷ 0xe94ab236 ∷ []
  -- Of the byte written to protect only bit 7 is kept; test holds its byte. Under protect only protect can be written.
  pub protect : each (λ b. one (protect_of (after_write 0x35 b clock_machine))) (0x80 ∷ 0x7f ∷ 0xff ∷ 0x00 ∷ []) ≡ 1 ∷ 0 ∷ 1 ∷ 0 ∷ []
  pub test : (after_write 0x31 0xe9 clock_machine).clock.store.test ≡ 0xe9
  pub under_protect : (seconds (after_write 0x05 0xe9 clock_protected) ≡ 0x1c4ab236)
      × (get_or (after_write 0x29 0xe9 clock_protected).clock.store.cells 18 0 ≡ 0x34)
      × ((after_write 0x31 0xe9 clock_protected).clock.store.test ≡ 0)
      × (protect_of (after_write 0x35 0x7f clock_protected) ≡ false)
  -- Test bytes $80, $40 and $C0 stop the seconds, $20 and $3F do not: SE, and a power cut of $12345678 seconds, from 4,294,967,295.
  pub tested : seconds_by_test (Second (for_ticks 0)) ≡ 0 ∷ 4294967295 ∷ 4294967295 ∷ 4294967295 ∷ 0 ∷ 0 ∷ []
  pub tested_off : seconds_by_test (Power (for_ticks 0) 0x12345678) ≡ 0x12345677 ∷ 4294967295 ∷ 4294967295 ∷ 4294967295 ∷ 0x12345677 ∷ 0x12345677 ∷ []
