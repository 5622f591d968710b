-- Whole states, byte by byte of their images: a state in which neighbouring fields differ, the fresh machine, and what RS and PW leave of the first. Document 01,
-- "Fresh, reset, power", and requests W-201, W-203, W-205, W-210. And which states are accepted.
use Rattle.std.specs.Prelude.{Some}
use Rattle.refusal.specs.declared.Refusal.TheVariants.{NotAccepted}
use Rattle.std.specs.Prelude.{ℕ, zero, suc, ◌+◌, ◌≡◌, Bool, true, false, List, [], ◌∷◌, ◌++◌, take, drop}
use Rattle.units.specs.Units.{for_ticks}
use Rattle.via.specs.Via.{fresh_via}
use Rattle.via.specs.Setters.{with_flags, with_enables, with_pulses}
use Rattle.clock_spec.specs.declared.Target.TheVariants.{Cell}
use Rattle.clock_spec.specs.declared.Store.{Store}
use Rattle.clock_spec.specs.Store.{put, with_seconds, with_protect, with_test}
use Rattle.clock_spec.specs.declared.Phase.{Phase}
use Rattle.clock_spec.specs.declared.Phase.TheVariants.{Idle, Listening, Sending, Ignoring}
use Rattle.clock.specs.Step.{with_store, with_phase}
use Rattle.disk_spec.specs.declared.Drive.{Drive}
use Rattle.disk_spec.specs.Drive.{fresh_drive, with_direction, with_motor, with_step, with_track, with_disk_state}
use Rattle.disk_spec.specs.declared.Drives.{Drives}
use Rattle.disk_spec.specs.Drives.{fresh_drives, with_drive_at, with_strobe}
use Rattle.item_spec.specs.declared.Item.TheVariants.{Reset, Power}
use Rattle.clock_spec.specs.declared.Chip.TheVariants.{First}
use Rattle.clock_spec.specs.declared.Bytes.TheVariants.{Nothing, One}
use Rattle.machine_spec.specs.declared.Machine.{Machine}
use Rattle.machine_spec.specs.Machine.{fresh_machine, with_via, with_clock, with_inputs, with_sense, with_drives, accepted_of}
use Rattle.run_spec.specs.Outcome.{halt, run_of}
use Rattle.image_spec.specs.Image.{image_of}
use Rattle.samples.specs.Registers.{mixed}
use Rattle.samples.specs.Steps.{after_item, after_items, each, access_item}
use Rattle.samples.specs.Lists.{se}

-- Cell i holds $D0 + i, the first n of them.
unfoldable pub with_cell_bytes : ℕ → Store → Store
with_cell_bytes zero s = s
with_cell_bytes (suc n) s = put (Cell n) (0xd0 + n) (with_cell_bytes n s)

abbrev pub busy_store : Store
busy_store = with_cell_bytes 20 (with_test (with_protect (with_seconds (fresh_machine First).clock.store 0x1c4ab236) true) 0x2b)

-- Internal: track 17, direction 0, a disk, not locked, double-sided, motor off, $1234 VIA ticks left of a step towards 0. External: track 42, direction 1, a locked
-- disk, single-sided, motor on, no step. LSTRB on for $54321 VIA ticks.
abbrev pub busy_drives : Drives
busy_drives =
    with_strobe
    (with_drive_at true
    (with_drive_at false fresh_drives (with_step (with_track (with_disk_state fresh_drive true false true) 17) 0x1234 true))
    (with_motor (with_direction (with_track (with_disk_state fresh_drive true true false) 42) true) true))
    (record { ticks = 0x54321; steady = true })

abbrev pub busy_clock : Phase → Machine → Machine
busy_clock p m = with_clock m (with_phase (with_store m.clock busy_store) p)

-- CA0, LSTRB, ENABLE and Q6 on; three data bits 1, 0, 1 of a write to cell 0 taken.
abbrev pub busy : Machine
busy =
    busy_clock (Listening (One 0x41) 3 5) (
    with_drives
    (with_sense
    (with_inputs
    (with_via (after_items (fresh_machine First) (access_item 1 ∷ access_item 7 ∷ access_item 9 ∷ access_item 13 ∷ [])) mixed)
    (0 ∷ 1 ∷ 0 ∷ 1 ∷ 0 ∷ 1 ∷ 0 ∷ []))
    (1 ∷ 0 ∷ 0 ∷ 1 ∷ 0 ∷ 1 ∷ 1 ∷ 0 ∷ 1 ∷ 1 ∷ 1 ∷ 0 ∷ 0 ∷ 0 ∷ 1 ∷ 0 ∷ 0 ∷ 1 ∷ 1 ∷ 0 ∷ 1 ∷ 0 ∷ 0 ∷ 1 ∷ 0 ∷ 0 ∷ 0 ∷ 1 ∷ 1 ∷ 1 ∷ 0 ∷ 1 ∷ []))
    busy_drives
    )

-- The four bytes of a half-made command, and the nine of the internal drive, in an image.
abbrev pub phase_image : Phase → List ℕ
phase_image p = take 4 (drop 24 (image_of (with_clock (fresh_machine First) (with_phase (fresh_machine First).clock p))))

abbrev pub drive_image : Drive → List ℕ
drive_image d = take 9 (drop 101 (image_of (with_drives (fresh_machine First) (with_drive_at false fresh_drives d))))

abbrev pub lines_image : ℕ → List ℕ
lines_image k = take 8 (drop 54 (image_of (after_item (fresh_machine First) (access_item k))))

-- Whether the busy state is accepted with this phase, with these flags and enables, with this count of pulses.
abbrev pub accepted_with : Phase → Bool
accepted_with p = accepted_of (busy_clock p busy)

abbrev pub accepted_flags : ℕ → ℕ → Bool
accepted_flags f e = accepted_of (with_via busy (with_enables (with_flags mixed f) e))

abbrev pub accepted_pulses : ℕ → Bool
accepted_pulses n = accepted_of (with_via busy (with_pulses mixed n))

-- The busy state with enable up: the chip is not idle, as it must be.
abbrev pub enable_up : Machine
enable_up = with_via busy fresh_via

pub record StateSamples : Type 0 where
  pub image : image_of busy
      ≡ (0x7a ∷ 0 ∷ 0x53 ∷ 0x54 ∷ [])
      ++ (0x1a ∷ 0x6b ∷ 0xd7 ∷ 0x3e ∷ 0xe7 ∷ 0x5e ∷ 0x83 ∷ 0x94 ∷ 0 ∷ 1 ∷ 0xf8 ∷ 0xa2 ∷ 0xb9 ∷ 0 ∷ 0xc6 ∷ 0x0f ∷ 0x4d ∷ 0x7b ∷ 0x31 ∷ 0x05 ∷ [])
      ++ (0x02 ∷ 0x41 ∷ 0x03 ∷ 0x05 ∷ [])
      ++ (1 ∷ 0x2b ∷ 0x36 ∷ 0xb2 ∷ 0x4a ∷ 0x1c ∷ [])
      ++ (0xd0 ∷ 0xd1 ∷ 0xd2 ∷ 0xd3 ∷ 0xd4 ∷ 0xd5 ∷ 0xd6 ∷ 0xd7 ∷ 0xd8 ∷ 0xd9 ∷ 0xda ∷ 0xdb ∷ 0xdc ∷ 0xdd ∷ 0xde ∷ 0xdf ∷ 0xe0 ∷ 0xe1 ∷ 0xe2 ∷ 0xe3 ∷ [])
      ++ (1 ∷ 0 ∷ 0 ∷ 1 ∷ 1 ∷ 0 ∷ 1 ∷ 0 ∷ [])
      ++ (0 ∷ 1 ∷ 0 ∷ 1 ∷ 0 ∷ 1 ∷ 0 ∷ [])
      ++ (1 ∷ 0 ∷ 0 ∷ 1 ∷ 0 ∷ 1 ∷ 1 ∷ 0 ∷ 1 ∷ 1 ∷ 1 ∷ 0 ∷ 0 ∷ 0 ∷ 1 ∷ 0 ∷ [])
      ++ (0 ∷ 1 ∷ 1 ∷ 0 ∷ 1 ∷ 0 ∷ 0 ∷ 1 ∷ 0 ∷ 0 ∷ 0 ∷ 1 ∷ 1 ∷ 1 ∷ 0 ∷ 1 ∷ [])
      ++ (0x11 ∷ 0 ∷ 1 ∷ 0 ∷ 1 ∷ 0 ∷ 0x34 ∷ 0x12 ∷ 1 ∷ [])
      ++ (0x2a ∷ 1 ∷ 1 ∷ 1 ∷ 0 ∷ 1 ∷ 0 ∷ 0 ∷ 0 ∷ [])
      ++ (0x21 ∷ 0x43 ∷ 0x05 ∷ 0 ∷ 1 ∷ [])
  pub fresh : image_of (fresh_machine First)
      ≡ (0x7a ∷ 0 ∷ 0x53 ∷ 0x54 ∷ [])
      ++ (0 ∷ 0 ∷ 0 ∷ 0 ∷ 0 ∷ 0 ∷ 0 ∷ 0 ∷ 0 ∷ 0 ∷ 0 ∷ 0 ∷ 0 ∷ 0 ∷ 0 ∷ 0 ∷ 0 ∷ 0 ∷ 0 ∷ 0 ∷ [])
      ++ (0 ∷ 0 ∷ 0 ∷ 0 ∷ [])
      ++ (0 ∷ 0 ∷ 0 ∷ 0 ∷ 0 ∷ 0 ∷ [])
      ++ (0 ∷ 0 ∷ 0 ∷ 0 ∷ 0 ∷ 0 ∷ 0 ∷ 0 ∷ 0 ∷ 0 ∷ 0 ∷ 0 ∷ 0 ∷ 0 ∷ 0 ∷ 0 ∷ 0 ∷ 0 ∷ 0 ∷ 0 ∷ [])
      ++ (0 ∷ 0 ∷ 0 ∷ 0 ∷ 0 ∷ 0 ∷ 0 ∷ 0 ∷ [])
      ++ (1 ∷ 1 ∷ 1 ∷ 1 ∷ 1 ∷ 0 ∷ 0 ∷ [])
      ++ (1 ∷ 1 ∷ 1 ∷ 1 ∷ 1 ∷ 1 ∷ 1 ∷ 1 ∷ 1 ∷ 1 ∷ 1 ∷ 1 ∷ 1 ∷ 1 ∷ 1 ∷ 1 ∷ [])
      ++ (1 ∷ 1 ∷ 1 ∷ 1 ∷ 1 ∷ 1 ∷ 1 ∷ 1 ∷ 1 ∷ 1 ∷ 1 ∷ 1 ∷ 1 ∷ 1 ∷ 1 ∷ 1 ∷ [])
      ++ (0 ∷ 0 ∷ 0 ∷ 0 ∷ 0 ∷ 0 ∷ 0 ∷ 0 ∷ 0 ∷ [])
      ++ (0 ∷ 0 ∷ 0 ∷ 0 ∷ 0 ∷ 0 ∷ 0 ∷ 0 ∷ 0 ∷ [])
      ++ (0 ∷ 0 ∷ 0 ∷ 0 ∷ 0 ∷ [])
  -- RS keeps T1 and T2's counters and latches, register 10 (not the count of pulses), the clock's store, IN and sense levels and the drives.
  pub reset : image_of (after_item busy (Reset (for_ticks 0)))
      ≡ (0x7a ∷ 0 ∷ 0x53 ∷ 0x54 ∷ [])
      ++ (0 ∷ 0 ∷ 0 ∷ 0 ∷ 0xe7 ∷ 0x5e ∷ 0x83 ∷ 0x94 ∷ 0 ∷ 0 ∷ 0xf8 ∷ 0xa2 ∷ 0xb9 ∷ 0 ∷ 0xc6 ∷ 0 ∷ 0 ∷ 0 ∷ 0 ∷ 0 ∷ [])
      ++ (0 ∷ 0 ∷ 0 ∷ 0 ∷ [])
      ++ (1 ∷ 0x2b ∷ 0x36 ∷ 0xb2 ∷ 0x4a ∷ 0x1c ∷ [])
      ++ (0xd0 ∷ 0xd1 ∷ 0xd2 ∷ 0xd3 ∷ 0xd4 ∷ 0xd5 ∷ 0xd6 ∷ 0xd7 ∷ 0xd8 ∷ 0xd9 ∷ 0xda ∷ 0xdb ∷ 0xdc ∷ 0xdd ∷ 0xde ∷ 0xdf ∷ 0xe0 ∷ 0xe1 ∷ 0xe2 ∷ 0xe3 ∷ [])
      ++ (0 ∷ 0 ∷ 0 ∷ 0 ∷ 0 ∷ 0 ∷ 0 ∷ 0 ∷ [])
      ++ (0 ∷ 1 ∷ 0 ∷ 1 ∷ 0 ∷ 1 ∷ 0 ∷ [])
      ++ (1 ∷ 0 ∷ 0 ∷ 1 ∷ 0 ∷ 1 ∷ 1 ∷ 0 ∷ 1 ∷ 1 ∷ 1 ∷ 0 ∷ 0 ∷ 0 ∷ 1 ∷ 0 ∷ [])
      ++ (0 ∷ 1 ∷ 1 ∷ 0 ∷ 1 ∷ 0 ∷ 0 ∷ 1 ∷ 0 ∷ 0 ∷ 0 ∷ 1 ∷ 1 ∷ 1 ∷ 0 ∷ 1 ∷ [])
      ++ (0x11 ∷ 0 ∷ 1 ∷ 0 ∷ 1 ∷ 0 ∷ 0x34 ∷ 0x12 ∷ 1 ∷ [])
      ++ (0x2a ∷ 1 ∷ 1 ∷ 1 ∷ 0 ∷ 1 ∷ 0 ∷ 0 ∷ 0 ∷ [])
      ++ (0 ∷ 0 ∷ 0 ∷ 0 ∷ 0 ∷ [])
  -- PW keeps cells, seconds and time off, protect, test, IN and sense levels; it stops motors and drops the step.
  pub power : image_of (after_item busy (Power (for_ticks 0) 0x11223344))
      ≡ (0x7a ∷ 0 ∷ 0x53 ∷ 0x54 ∷ [])
      ++ (0 ∷ 0 ∷ 0 ∷ 0 ∷ 0 ∷ 0 ∷ 0 ∷ 0 ∷ 0 ∷ 0 ∷ 0 ∷ 0 ∷ 0 ∷ 0 ∷ 0 ∷ 0 ∷ 0 ∷ 0 ∷ 0 ∷ 0 ∷ [])
      ++ (0 ∷ 0 ∷ 0 ∷ 0 ∷ [])
      ++ (1 ∷ 0x2b ∷ 0x7a ∷ 0xe5 ∷ 0x6c ∷ 0x2d ∷ [])
      ++ (0xd0 ∷ 0xd1 ∷ 0xd2 ∷ 0xd3 ∷ 0xd4 ∷ 0xd5 ∷ 0xd6 ∷ 0xd7 ∷ 0xd8 ∷ 0xd9 ∷ 0xda ∷ 0xdb ∷ 0xdc ∷ 0xdd ∷ 0xde ∷ 0xdf ∷ 0xe0 ∷ 0xe1 ∷ 0xe2 ∷ 0xe3 ∷ [])
      ++ (0 ∷ 0 ∷ 0 ∷ 0 ∷ 0 ∷ 0 ∷ 0 ∷ 0 ∷ [])
      ++ (0 ∷ 1 ∷ 0 ∷ 1 ∷ 0 ∷ 1 ∷ 0 ∷ [])
      ++ (1 ∷ 0 ∷ 0 ∷ 1 ∷ 0 ∷ 1 ∷ 1 ∷ 0 ∷ 1 ∷ 1 ∷ 1 ∷ 0 ∷ 0 ∷ 0 ∷ 1 ∷ 0 ∷ [])
      ++ (0 ∷ 1 ∷ 1 ∷ 0 ∷ 1 ∷ 0 ∷ 0 ∷ 1 ∷ 0 ∷ 0 ∷ 0 ∷ 1 ∷ 1 ∷ 1 ∷ 0 ∷ 1 ∷ [])
      ++ (0x11 ∷ 0 ∷ 1 ∷ 0 ∷ 1 ∷ 0 ∷ 0 ∷ 0 ∷ 0 ∷ [])
      ++ (0x2a ∷ 1 ∷ 1 ∷ 1 ∷ 0 ∷ 0 ∷ 0 ∷ 0 ∷ 0 ∷ [])
      ++ (0 ∷ 0 ∷ 0 ∷ 0 ∷ 0 ∷ [])
  -- Idle, listening, taking, sending, ignoring.
  pub phases : each phase_image (Idle ∷ Listening Nothing 3 6 ∷ Listening (One 0x41) 5 0x16 ∷ Sending 0x6e 8 ∷ Ignoring ∷ [])
      ≡ (0 ∷ 0 ∷ 0 ∷ 0 ∷ []) ∷ (1 ∷ 0 ∷ 3 ∷ 6 ∷ []) ∷ (2 ∷ 0x41 ∷ 5 ∷ 0x16 ∷ []) ∷ (3 ∷ 0 ∷ 8 ∷ 0x6e ∷ []) ∷ (4 ∷ 0 ∷ 0 ∷ 0 ∷ []) ∷ []
  -- Direction, disk, locked, double-sided, motor alone; then a step.
  pub drives : each drive_image
      (with_direction fresh_drive true
      ∷ with_disk_state fresh_drive true false false
      ∷ with_disk_state fresh_drive false true false
      ∷ with_disk_state fresh_drive false false true
      ∷ with_motor fresh_drive true
      ∷ with_step fresh_drive 0x0201 true
      ∷ [])
      ≡ (0 ∷ 1 ∷ 0 ∷ 0 ∷ 0 ∷ 0 ∷ 0 ∷ 0 ∷ 0 ∷ [])
      ∷ (0 ∷ 0 ∷ 1 ∷ 0 ∷ 0 ∷ 0 ∷ 0 ∷ 0 ∷ 0 ∷ [])
      ∷ (0 ∷ 0 ∷ 0 ∷ 1 ∷ 0 ∷ 0 ∷ 0 ∷ 0 ∷ 0 ∷ [])
      ∷ (0 ∷ 0 ∷ 0 ∷ 0 ∷ 1 ∷ 0 ∷ 0 ∷ 0 ∷ 0 ∷ [])
      ∷ (0 ∷ 0 ∷ 0 ∷ 0 ∷ 0 ∷ 1 ∷ 0 ∷ 0 ∷ 0 ∷ [])
      ∷ (0 ∷ 0 ∷ 0 ∷ 0 ∷ 0 ∷ 0 ∷ 1 ∷ 2 ∷ 1 ∷ [])
      ∷ []
  -- CA0, CA1, CA2, LSTRB, ENABLE, SELECT, Q6, Q7 on alone.
  pub lines : each lines_image (1 ∷ 3 ∷ 5 ∷ 7 ∷ 9 ∷ 11 ∷ 13 ∷ 15 ∷ [])
      ≡ (1 ∷ 0 ∷ 0 ∷ 0 ∷ 0 ∷ 0 ∷ 0 ∷ 0 ∷ [])
      ∷ (0 ∷ 1 ∷ 0 ∷ 0 ∷ 0 ∷ 0 ∷ 0 ∷ 0 ∷ [])
      ∷ (0 ∷ 0 ∷ 1 ∷ 0 ∷ 0 ∷ 0 ∷ 0 ∷ 0 ∷ [])
      ∷ (0 ∷ 0 ∷ 0 ∷ 1 ∷ 0 ∷ 0 ∷ 0 ∷ 0 ∷ [])
      ∷ (0 ∷ 0 ∷ 0 ∷ 0 ∷ 1 ∷ 0 ∷ 0 ∷ 0 ∷ [])
      ∷ (0 ∷ 0 ∷ 0 ∷ 0 ∷ 0 ∷ 1 ∷ 0 ∷ 0 ∷ [])
      ∷ (0 ∷ 0 ∷ 0 ∷ 0 ∷ 0 ∷ 0 ∷ 1 ∷ 0 ∷ [])
      ∷ (0 ∷ 0 ∷ 0 ∷ 0 ∷ 0 ∷ 0 ∷ 0 ∷ 1 ∷ [])
      ∷ []
  -- 0 to 7 bits, and a value of so many bits; a legal write command; 0 to 8 falls; idle only while enable is 1. Flags and enables have seven bits, and the count
  -- of pulses is 0 to 7.
  pub accepted : each accepted_with (Listening Nothing 7 127 ∷ Listening Nothing 8 0 ∷ Listening Nothing 3 7 ∷ Listening Nothing 3 8 ∷ Listening (One 0x41) 7 127 ∷ Listening (One 0x41) 8 0 ∷ Listening (One 0x41) 3 8 ∷ Listening (One 0xc1) 3 5 ∷ Listening (One 0x40) 3 5 ∷ Sending 255 8 ∷ Sending 255 9 ∷ Ignoring ∷ Idle ∷ [])
      ≡ true ∷ false ∷ true ∷ false ∷ true ∷ false ∷ false ∷ false ∷ false ∷ true ∷ false ∷ true ∷ false ∷ []
  pub bounds : accepted_flags 127 127 ∷ accepted_flags 128 0 ∷ accepted_flags 0 128 ∷ accepted_pulses 7 ∷ accepted_pulses 8 ∷ [] ≡ true ∷ false ∷ false ∷ true ∷ false ∷ []
  -- Refusal 7: "nothing read or written; stop 7, both counts 0; state handed back as given", with an empty list and no room too.
  pub seven : run_of enable_up se 800 ≡ halt enable_up (Some NotAccepted)
  pub seven_first : run_of enable_up [] 0 ≡ halt enable_up (Some NotAccepted)
