-- The sense of two opposite drives, and what an IWM read gives: document 01, "Disk lines", and request W-203, in tables.
use Rattle.std.specs.Prelude.{ℕ, ◌≡◌, true, false, List, [], ◌∷◌, ◌++◌}
use Rattle.units.specs.Units.{for_ticks}
use Rattle.disk_spec.specs.declared.Drive.{Drive}
use Rattle.disk_spec.specs.Drive.{fresh_drive, with_direction, with_motor, with_step, with_track, with_disk_state}
use Rattle.disk_spec.specs.Drives.{fresh_drives, with_drive_at}
use Rattle.item_spec.specs.declared.Item.{Item}
use Rattle.item_spec.specs.declared.Item.TheVariants.{ReadIwm, Sense}
use Rattle.clock_spec.specs.declared.Chip.TheVariants.{First}
use Rattle.machine_spec.specs.declared.Machine.{Machine}
use Rattle.machine_spec.specs.Machine.{fresh_machine, with_drives}
use Rattle.samples.specs.Registers.{sixteen}
use Rattle.samples.specs.Steps.{value_of, after_items, access_item, address_items}

-- Direction 0, a locked disk, single-sided, the motor on, stepping, at track 0.
abbrev pub inner : Drive
inner = with_step (with_motor (with_disk_state fresh_drive true true false) true) 7 false

-- Direction 1, no disk, double-sided, the motor off, no step, at track 5.
abbrev pub outer : Drive
outer = with_track (with_direction (with_disk_state fresh_drive false false true) true) 5

-- SN levels of 0, the others being 1 as when fresh: those that a drive's own registers must not show, and two opposite patterns at the other registers.
abbrev pub sense_items : List Item
sense_items =
    Sense (for_ticks 0) 0 6 0
    ∷ Sense (for_ticks 0) 0 9 0
    ∷ Sense (for_ticks 0) 0 11 0
    ∷ Sense (for_ticks 0) 0 14 0
    ∷ Sense (for_ticks 0) 1 0 0
    ∷ Sense (for_ticks 0) 1 1 0
    ∷ Sense (for_ticks 0) 1 2 0
    ∷ Sense (for_ticks 0) 1 3 0
    ∷ Sense (for_ticks 0) 1 4 0
    ∷ Sense (for_ticks 0) 1 5 0
    ∷ Sense (for_ticks 0) 1 12 0
    ∷ Sense (for_ticks 0) 1 7 0
    ∷ Sense (for_ticks 0) 1 8 0
    ∷ Sense (for_ticks 0) 1 10 0
    ∷ Sense (for_ticks 0) 1 13 0
    ∷ []

-- Both drives, the levels stored, and Q6 on.
abbrev pub two_drives : Machine
two_drives = after_items (with_drives (fresh_machine First) (with_drive_at true (with_drive_at false fresh_drives inner) outer)) (sense_items ++ (access_item 13 ∷ []))

-- ENABLE on.
abbrev pub two_drives_on : Machine
two_drives_on = after_items two_drives (access_item 9 ∷ [])

-- What a read of location 14 gives of a drive's register.
abbrev pub sense_value : Machine → ℕ → ℕ → ℕ
sense_value m drive r = value_of (after_items m (address_items drive r)) (ReadIwm (for_ticks 0) 14)

pub record SenseSamples : Type 0 where
  -- Registers 0 to 15 of the internal drive and of the external one: 0 to 5, 12 and 15 by the drive, the others by SN.
  pub internal : sixteen (sense_value two_drives_on 0) ≡ 0 ∷ 0 ∷ 0 ∷ 0 ∷ 0 ∷ 0 ∷ 0 ∷ 128 ∷ 128 ∷ 0 ∷ 128 ∷ 0 ∷ 0 ∷ 128 ∷ 0 ∷ 0 ∷ []
  pub external : sixteen (sense_value two_drives_on 1) ≡ 128 ∷ 128 ∷ 128 ∷ 128 ∷ 128 ∷ 128 ∷ 128 ∷ 0 ∷ 0 ∷ 128 ∷ 0 ∷ 128 ∷ 128 ∷ 0 ∷ 128 ∷ 0 ∷ []
  -- "Or 1 while ENABLE is off."
  pub disabled : sixteen (sense_value two_drives 0) ≡ 128 ∷ 128 ∷ 128 ∷ 128 ∷ 128 ∷ 128 ∷ 128 ∷ 128 ∷ 128 ∷ 128 ∷ 128 ∷ 128 ∷ 128 ∷ 128 ∷ 128 ∷ 128 ∷ []
  pub disabled_too : sixteen (sense_value two_drives 1) ≡ 128 ∷ 128 ∷ 128 ∷ 128 ∷ 128 ∷ 128 ∷ 128 ∷ 128 ∷ 128 ∷ 128 ∷ 128 ∷ 128 ∷ 128 ∷ 128 ∷ 128 ∷ 128 ∷ []
  -- A read of each location, the addressed sense being 0: only 14 shows it, and only with Q6 on. "Every other IWM read gives $FF."
  pub locations : sixteen (λ k. value_of (after_items two_drives_on (address_items 0 15)) (ReadIwm (for_ticks 0) k))
      ≡ 255 ∷ 255 ∷ 255 ∷ 255 ∷ 255 ∷ 255 ∷ 255 ∷ 255 ∷ 255 ∷ 255 ∷ 255 ∷ 255 ∷ 255 ∷ 255 ∷ 0 ∷ 255 ∷ []
  pub without_q6 : value_of (after_items two_drives_on (address_items 0 15 ++ (access_item 12 ∷ []))) (ReadIwm (for_ticks 0) 14) ≡ 255
