-- What a strobe writes to a drive, what spoils it, and what DI leaves: request W-203, in tables.
use Rattle.std.specs.Prelude.{ℕ, ◌+◌, ◌*◌, ◌≡◌, true, false, List, [], ◌∷◌, ◌++◌}
use Rattle.units.specs.Units.{for_ticks}
use Rattle.disk_spec.specs.declared.Drive.{Drive}
use Rattle.disk_spec.specs.Drive.{fresh_drive, with_direction, with_motor, with_step, with_track, with_disk_state}
use Rattle.disk_spec.specs.Drives.{fresh_drives, with_drive_at, with_strobe}
use Rattle.disk_spec.specs.Strobe.{with_ticks}
use Rattle.item_spec.specs.declared.Item.{Item}
use Rattle.item_spec.specs.declared.Item.TheVariants.{WriteVia, WriteIwm, Disk}
use Rattle.clock_spec.specs.declared.Chip.TheVariants.{First}
use Rattle.machine_spec.specs.declared.Machine.{Machine}
use Rattle.machine_spec.specs.Machine.{fresh_machine, with_drives}
use Rattle.samples.specs.Registers.{one}
use Rattle.samples.specs.Steps.{after_item, after_items, each, access_item, address_items}

-- A row: track, direction, disk, locked, double-sided, motor, VIA ticks left of a step, its own direction.
abbrev pub drive_row : Drive → List ℕ
drive_row d = d.track ∷ one d.direction ∷ one d.disk ∷ one d.locked ∷ one d.sides ∷ one d.motor ∷ d.pending ∷ one d.heading ∷ []

-- Internal: 17, direction 0, a locked disk, single-sided, motor off, no step. External: 42, direction 1, a disk, double-sided, motor on, stepping.
abbrev pub drive_pair : Machine
drive_pair =
    with_drives (fresh_machine First) (
    with_drive_at true
    (with_drive_at false fresh_drives (with_track (with_disk_state fresh_drive true true false) 17))
    (with_step (with_motor (with_direction (with_track (with_disk_state fresh_drive true false true) 42) true) true) 100 false)
    )

-- A strobe of so many VIA ticks that writes CA2's value to a drive's register: CA1 and CA0 name it. It drops with no wait.
abbrev pub after_rise : ℕ → ℕ → ℕ → Machine → Machine
after_rise drive register value m = after_items m (access_item 9 ∷ (address_items drive (8 * value + 2 * register) ++ (access_item 7 ∷ [])))

abbrev pub with_strobe_ticks : ℕ → Machine → Machine
with_strobe_ticks n m = with_drives m (with_strobe m.drives (with_ticks m.drives.strobe n))

abbrev pub after_drop : ℕ → ℕ → ℕ → ℕ → Machine → Machine
after_drop drive register value n m = after_item (with_strobe_ticks n (after_rise drive register value m)) (access_item 6)

-- Both values written to each of the four registers: direction, step, motor, eject.
abbrev pub eight_writes : (ℕ → ℕ → List ℕ) → List (List ℕ)
eight_writes f = f 0 0 ∷ f 0 1 ∷ f 1 0 ∷ f 1 1 ∷ f 2 0 ∷ f 2 1 ∷ f 3 0 ∷ f 3 1 ∷ []

abbrev pub internal_after : ℕ → ℕ → ℕ → List ℕ
internal_after n register value = drive_row (after_drop 0 register value n drive_pair).drives.internal

abbrev pub external_after : ℕ → ℕ → ℕ → List ℕ
external_after n register value = drive_row (after_drop 1 register value n drive_pair).drives.external

-- VIA ticks left of a step after a strobe of n VIA ticks that asks for one, and the internal drive's disk after one that ejects.
abbrev pub step_after : ℕ → ℕ
step_after n = (after_drop 0 1 0 n drive_pair).drives.internal.pending

abbrev pub disk_after : ℕ → ℕ
disk_after n = one (after_drop 0 3 1 n drive_pair).drives.internal.disk

-- A line moved and moved back in the middle of such a strobe, which drops 1 VIA tick later.
abbrev pub step_after_moves : List Item → ℕ
step_after_moves l = (after_items (after_rise 0 1 0 drive_pair) (l ++ (WriteIwm (for_ticks 1) 6 0 ∷ []))).drives.internal.pending

pub record StrobeSamples : Type 0 where
  -- After 783 VIA ticks: direction, step and motor are written; an eject is too short. The external drive is stepping already.
  pub internal : eight_writes (internal_after 783)
      ≡ (17 ∷ 0 ∷ 1 ∷ 1 ∷ 0 ∷ 0 ∷ 0 ∷ 0 ∷ [])
      ∷ (17 ∷ 1 ∷ 1 ∷ 1 ∷ 0 ∷ 0 ∷ 0 ∷ 0 ∷ [])
      ∷ (17 ∷ 0 ∷ 1 ∷ 1 ∷ 0 ∷ 0 ∷ 9401 ∷ 0 ∷ [])
      ∷ (17 ∷ 0 ∷ 1 ∷ 1 ∷ 0 ∷ 0 ∷ 0 ∷ 0 ∷ [])
      ∷ (17 ∷ 0 ∷ 1 ∷ 1 ∷ 0 ∷ 1 ∷ 0 ∷ 0 ∷ [])
      ∷ (17 ∷ 0 ∷ 1 ∷ 1 ∷ 0 ∷ 0 ∷ 0 ∷ 0 ∷ [])
      ∷ (17 ∷ 0 ∷ 1 ∷ 1 ∷ 0 ∷ 0 ∷ 0 ∷ 0 ∷ [])
      ∷ (17 ∷ 0 ∷ 1 ∷ 1 ∷ 0 ∷ 0 ∷ 0 ∷ 0 ∷ [])
      ∷ []
  pub external : eight_writes (external_after 783)
      ≡ (42 ∷ 0 ∷ 1 ∷ 0 ∷ 1 ∷ 1 ∷ 100 ∷ 0 ∷ [])
      ∷ (42 ∷ 1 ∷ 1 ∷ 0 ∷ 1 ∷ 1 ∷ 100 ∷ 0 ∷ [])
      ∷ (42 ∷ 1 ∷ 1 ∷ 0 ∷ 1 ∷ 1 ∷ 100 ∷ 0 ∷ [])
      ∷ (42 ∷ 1 ∷ 1 ∷ 0 ∷ 1 ∷ 1 ∷ 100 ∷ 0 ∷ [])
      ∷ (42 ∷ 1 ∷ 1 ∷ 0 ∷ 1 ∷ 1 ∷ 100 ∷ 0 ∷ [])
      ∷ (42 ∷ 1 ∷ 1 ∷ 0 ∷ 1 ∷ 0 ∷ 100 ∷ 0 ∷ [])
      ∷ (42 ∷ 1 ∷ 1 ∷ 0 ∷ 1 ∷ 1 ∷ 100 ∷ 0 ∷ [])
      ∷ (42 ∷ 1 ∷ 1 ∷ 0 ∷ 1 ∷ 1 ∷ 100 ∷ 0 ∷ [])
      ∷ []
  -- After 391,680 VIA ticks: only an eject written 1 acts. The disk is gone, not locked, the motor off; sides and step stay.
  pub ejected : eight_writes (external_after 391680)
      ≡ (42 ∷ 1 ∷ 1 ∷ 0 ∷ 1 ∷ 1 ∷ 100 ∷ 0 ∷ [])
      ∷ (42 ∷ 1 ∷ 1 ∷ 0 ∷ 1 ∷ 1 ∷ 100 ∷ 0 ∷ [])
      ∷ (42 ∷ 1 ∷ 1 ∷ 0 ∷ 1 ∷ 1 ∷ 100 ∷ 0 ∷ [])
      ∷ (42 ∷ 1 ∷ 1 ∷ 0 ∷ 1 ∷ 1 ∷ 100 ∷ 0 ∷ [])
      ∷ (42 ∷ 1 ∷ 1 ∷ 0 ∷ 1 ∷ 1 ∷ 100 ∷ 0 ∷ [])
      ∷ (42 ∷ 1 ∷ 1 ∷ 0 ∷ 1 ∷ 1 ∷ 100 ∷ 0 ∷ [])
      ∷ (42 ∷ 1 ∷ 1 ∷ 0 ∷ 1 ∷ 1 ∷ 100 ∷ 0 ∷ [])
      ∷ (42 ∷ 1 ∷ 0 ∷ 0 ∷ 1 ∷ 0 ∷ 100 ∷ 0 ∷ [])
      ∷ []
  pub unlocked : internal_after 391680 3 1 ≡ 17 ∷ 0 ∷ 0 ∷ 0 ∷ 0 ∷ 0 ∷ 0 ∷ 0 ∷ []
  -- The drive that SELECT does not name stays as it is.
  pub other_stays : drive_row (after_drop 0 0 1 783 drive_pair).drives.external ∷ drive_row (after_drop 1 0 0 783 drive_pair).drives.internal ∷ []
      ≡ (42 ∷ 1 ∷ 1 ∷ 0 ∷ 1 ∷ 1 ∷ 100 ∷ 0 ∷ []) ∷ (17 ∷ 0 ∷ 1 ∷ 1 ∷ 0 ∷ 0 ∷ 0 ∷ 0 ∷ []) ∷ []
  -- "after 1 to 783 VIA ticks; eject needs 391,680 or more"
  pub lengths : each step_after (0 ∷ 1 ∷ 783 ∷ 784 ∷ 391680 ∷ []) ≡ 0 ∷ 9401 ∷ 9401 ∷ 0 ∷ 0 ∷ []
  pub eject_lengths : each disk_after (0 ∷ 1 ∷ 783 ∷ 391679 ∷ 391680 ∷ []) ≡ 1 ∷ 1 ∷ 1 ∷ 1 ∷ 0 ∷ []
  -- A step has the direction set when it was asked.
  pub heading : drive_row (after_drop 0 1 0 1 (after_drop 0 0 1 1 drive_pair)).drives.internal ≡ 17 ∷ 1 ∷ 1 ∷ 1 ∷ 0 ∷ 0 ∷ 9401 ∷ 1 ∷ []
  -- CA0, CA1, CA2, ENABLE, SELECT, SEL moved and moved back: nothing is written. Q6, Q7: the step is asked.
  pub spoilt : each step_after_moves
      ((access_item 0 ∷ access_item 1 ∷ [])
      ∷ (access_item 3 ∷ access_item 2 ∷ [])
      ∷ (access_item 5 ∷ access_item 4 ∷ [])
      ∷ (access_item 8 ∷ access_item 9 ∷ [])
      ∷ (access_item 11 ∷ access_item 10 ∷ [])
      ∷ (WriteVia (for_ticks 0) 15 32 ∷ WriteVia (for_ticks 0) 15 0 ∷ [])
      ∷ (access_item 13 ∷ access_item 12 ∷ [])
      ∷ (access_item 15 ∷ access_item 14 ∷ [])
      ∷ [])
      ≡ 0 ∷ 0 ∷ 0 ∷ 0 ∷ 0 ∷ 0 ∷ 9401 ∷ 9401 ∷ []
  -- DI into the internal drive: not locked and single-sided, double-sided, locked; into the external one; out again.
  pub inserted : each (λ i. drive_row (after_item (fresh_machine First) i).drives.internal) (Disk (for_ticks 0) 0 1 0 0 ∷ Disk (for_ticks 0) 0 1 0 1 ∷ Disk (for_ticks 0) 0 1 1 0 ∷ Disk (for_ticks 0) 1 1 1 1 ∷ [])
      ≡ (0 ∷ 0 ∷ 1 ∷ 0 ∷ 0 ∷ 0 ∷ 0 ∷ 0 ∷ []) ∷ (0 ∷ 0 ∷ 1 ∷ 0 ∷ 1 ∷ 0 ∷ 0 ∷ 0 ∷ []) ∷ (0 ∷ 0 ∷ 1 ∷ 1 ∷ 0 ∷ 0 ∷ 0 ∷ 0 ∷ []) ∷ (0 ∷ 0 ∷ 0 ∷ 0 ∷ 0 ∷ 0 ∷ 0 ∷ 0 ∷ []) ∷ []
  pub inserted_too : drive_row (after_item (fresh_machine First) (Disk (for_ticks 0) 1 1 0 1)).drives.external ≡ 0 ∷ 0 ∷ 1 ∷ 0 ∷ 1 ∷ 0 ∷ 0 ∷ 0 ∷ []
  pub removed : drive_row (after_item drive_pair (Disk (for_ticks 0) 0 0 1 1)).drives.internal ∷ drive_row (after_item drive_pair (Disk (for_ticks 0) 1 0 1 0)).drives.external ∷ []
      ≡ (17 ∷ 0 ∷ 0 ∷ 0 ∷ 0 ∷ 0 ∷ 0 ∷ 0 ∷ []) ∷ (42 ∷ 1 ∷ 0 ∷ 0 ∷ 1 ∷ 0 ∷ 100 ∷ 0 ∷ []) ∷ []
