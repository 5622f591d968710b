-- The board's lines in tables: IN, SEL, the interrupt level, the line byte, and the wait of every item. Documents 01 and W-205.
use Rattle.std.specs.Prelude.{ℕ, ◌*◌, ◌^◌, ◌≡◌, List, [], ◌∷◌, false}
use Rattle.units.specs.declared.WaitTicks.{WaitTicks}
use Rattle.units.specs.Units.{for_ticks}
use Rattle.via.specs.Setters.{with_t1, with_counter1, with_flags, with_enables}
use Rattle.disk_spec.specs.Drive.{fresh_drive, with_step, with_track}
use Rattle.disk_spec.specs.Drives.{fresh_drives, with_drive_at}
use Rattle.item_spec.specs.declared.Item.{Item}
use Rattle.item_spec.specs.declared.Item.TheVariants.{ReadVia, ReadIwm, WriteVia, WriteIwm, Blank, Second, Line, Sense, Reset, Power, Disk}
use Rattle.clock_spec.specs.declared.Chip.TheVariants.{First}
use Rattle.machine_spec.specs.declared.Machine.{Machine}
use Rattle.machine_spec.specs.Machine.{fresh_machine, with_via, with_drives}
use Rattle.samples.specs.Registers.{sixteen}
use Rattle.samples.specs.Steps.{after_item, value_of, answer_to, after_items, each, access_item}

-- Port B and port A as they are read, and the interrupt level.
abbrev pub ports_and_level : Machine → List ℕ
ports_and_level m = value_of m (ReadVia (for_ticks 0) 0) ∷ value_of m (ReadVia (for_ticks 0) 1) ∷ (answer_to m (ReadVia (for_ticks 0) 0)).level ∷ []

-- IN lines 0 to 4 low.
abbrev pub lines_low : Machine
lines_low = after_items (fresh_machine First) (Line (for_ticks 0) 0 0 ∷ Line (for_ticks 0) 1 0 ∷ Line (for_ticks 0) 2 0 ∷ Line (for_ticks 0) 3 0 ∷ Line (for_ticks 0) 4 0 ∷ [])

abbrev pub in_lines : List ℕ
in_lines = 0 ∷ 1 ∷ 2 ∷ 3 ∷ 4 ∷ 5 ∷ 6 ∷ []

-- The level with the switch, the serial chip and the VIA asking where 1.
abbrev pub level_by : ℕ → ℕ → ℕ → ℕ
level_by switch serial via =
    (answer_to (after_item (with_via (fresh_machine First) (with_enables (with_flags (fresh_machine First).via 2) (2 * via))) (Line (for_ticks 0) 6 switch)) (Line (for_ticks 0) 5 serial)).level

-- SEL with these outputs and directions of port A.
abbrev pub sel_by : ℕ → ℕ → ℕ
sel_by out dir = (answer_to (after_item (fresh_machine First) (WriteVia (for_ticks 0) 15 out)) (WriteVia (for_ticks 0) 3 dir)).sel

abbrev pub eight : (ℕ → ℕ) → List ℕ
eight f = f 0 ∷ f 1 ∷ f 2 ∷ f 3 ∷ f 4 ∷ f 5 ∷ f 6 ∷ f 7 ∷ []

-- Every disk line on.
abbrev pub all_on : Machine
all_on = after_items (fresh_machine First) (access_item 1 ∷ access_item 3 ∷ access_item 5 ∷ access_item 7 ∷ access_item 9 ∷ access_item 11 ∷ access_item 13 ∷ access_item 15 ∷ [])

-- T1 at 10 VIA ticks, the internal drive at track 5 with 3 VIA ticks left of a step towards 79.
abbrev pub timer_machine : Machine
timer_machine = with_drives (with_via (fresh_machine First) (with_t1 (fresh_machine First).via (with_counter1 (fresh_machine First).via.t1 10))) (with_drive_at false fresh_drives (with_step (with_track fresh_drive 5) 3 false))

-- Each kind of item, after a wait.
abbrev pub every_kind : WaitTicks → List Item
every_kind n =
    ReadVia n 0
    ∷ ReadIwm n 0
    ∷ WriteVia n 10 1
    ∷ WriteIwm n 0 0
    ∷ Blank n
    ∷ Second n
    ∷ Line n 0 0
    ∷ Sense n 0 6 0
    ∷ Disk n 1 1 0 0
    ∷ Reset n
    ∷ Power n 9
    ∷ []

abbrev pub counter_after : Item → ℕ
counter_after i = (after_item timer_machine i).via.t1.counter

abbrev pub track_after : Item → ℕ
track_after i = (after_item timer_machine i).drives.internal.track

pub record WiringSamples : Type 0 where
  -- Fresh, and with one IN line at 0: "PB3 to PB6 the IN lines 0 to 3 .., PA7 IN line 4"; 5 and 6 are 0 when fresh.
  pub fresh : ports_and_level (fresh_machine First) ≡ 0xff ∷ 0xff ∷ 0 ∷ []
  pub one_low : each (λ l. ports_and_level (after_item (fresh_machine First) (Line (for_ticks 0) l 0))) in_lines
      ≡ (0xf7 ∷ 0xff ∷ 0 ∷ []) ∷ (0xef ∷ 0xff ∷ 0 ∷ []) ∷ (0xdf ∷ 0xff ∷ 0 ∷ []) ∷ (0xbf ∷ 0xff ∷ 0 ∷ []) ∷ (0xff ∷ 0x7f ∷ 0 ∷ []) ∷ (0xff ∷ 0xff ∷ 0 ∷ []) ∷ (0xff ∷ 0xff ∷ 0 ∷ []) ∷ []
  -- One IN line at 1, the others at 0.
  pub one_high : each (λ l. ports_and_level (after_item lines_low (Line (for_ticks 0) l 1))) in_lines
      ≡ (0x8f ∷ 0x7f ∷ 0 ∷ []) ∷ (0x97 ∷ 0x7f ∷ 0 ∷ []) ∷ (0xa7 ∷ 0x7f ∷ 0 ∷ []) ∷ (0xc7 ∷ 0x7f ∷ 0 ∷ []) ∷ (0x87 ∷ 0xff ∷ 0 ∷ []) ∷ (0x87 ∷ 0x7f ∷ 2 ∷ []) ∷ (0x87 ∷ 0x7f ∷ 4 ∷ []) ∷ []
  -- The level: switch, serial chip, VIA from 000 to 111.
  pub levels : (level_by 0 0 0 ∷ level_by 0 0 1 ∷ level_by 0 1 0 ∷ level_by 0 1 1 ∷ level_by 1 0 0 ∷ level_by 1 0 1 ∷ level_by 1 1 0 ∷ level_by 1 1 1 ∷ []) ≡ 0 ∷ 1 ∷ 2 ∷ 2 ∷ 4 ∷ 5 ∷ 6 ∷ 6 ∷ []
  -- SEL: one output bit at 1; one direction bit at 1 and all outputs 0.
  pub sel_out : eight (λ k. sel_by (2 ^ k) 0xff) ≡ 0 ∷ 0 ∷ 0 ∷ 0 ∷ 0 ∷ 1 ∷ 0 ∷ 0 ∷ []
  pub sel_undriven : eight (λ k. sel_by 0 (2 ^ k)) ≡ 1 ∷ 1 ∷ 1 ∷ 1 ∷ 1 ∷ 0 ∷ 1 ∷ 1 ∷ []
  -- The line byte after an access to each location, by WR from all lines off, by RD from all on.
  pub line_on : sixteen (λ k. (answer_to (fresh_machine First) (access_item k)).lines) ≡ 0 ∷ 0x01 ∷ 0 ∷ 0x02 ∷ 0 ∷ 0x04 ∷ 0 ∷ 0x08 ∷ 0 ∷ 0x10 ∷ 0 ∷ 0x20 ∷ 0 ∷ 0x40 ∷ 0 ∷ 0x80 ∷ []
  pub line_off : sixteen (λ k. (answer_to all_on (ReadIwm (for_ticks 0) k)).lines)
      ≡ 0xfe ∷ 0xff ∷ 0xfd ∷ 0xff ∷ 0xfb ∷ 0xff ∷ 0xf7 ∷ 0xff ∷ 0xef ∷ 0xff ∷ 0xdf ∷ 0xff ∷ 0xbf ∷ 0xff ∷ 0x7f ∷ 0xff ∷ []
  -- The wait of every kind passes, in T1 and in the drive, before the action: PW comes last, and makes T1 fresh.
  pub counters : each counter_after (every_kind (for_ticks 3)) ≡ 7 ∷ 7 ∷ 7 ∷ 7 ∷ 7 ∷ 7 ∷ 7 ∷ 7 ∷ 7 ∷ 7 ∷ 0 ∷ []
  pub tracks : each track_after (every_kind (for_ticks 3)) ≡ 6 ∷ 6 ∷ 6 ∷ 6 ∷ 6 ∷ 6 ∷ 6 ∷ 6 ∷ 6 ∷ 6 ∷ 6 ∷ []
  pub not_yet : each track_after (every_kind (for_ticks 2)) ≡ 5 ∷ 5 ∷ 5 ∷ 5 ∷ 5 ∷ 5 ∷ 5 ∷ 5 ∷ 5 ∷ 5 ∷ 5 ∷ []
  -- "VB sets flag 1, SE flag 0", and no other kind a flag.
  pub raised : each (λ i. (after_item timer_machine i).via.flags) (every_kind (for_ticks 0)) ≡ 0 ∷ 0 ∷ 0 ∷ 0 ∷ 2 ∷ 1 ∷ 0 ∷ 0 ∷ 0 ∷ 0 ∷ 0 ∷ []
  pub read_after : value_of timer_machine (ReadVia (for_ticks 3) 4) ≡ 7
