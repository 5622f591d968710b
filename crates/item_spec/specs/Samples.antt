-- Records and answers in samples: each kind with bytes that differ, each number of a refusal at the edges of its range. A record's bytes come after its length.
use Rattle.std.specs.Prelude.{ℕ, zero, suc, ◌≡◌, List, [], ◌∷◌, Some, None, Ok, Err}
use Rattle.units.specs.Units.{for_ticks}
use Rattle.item_spec.specs.Record.{frame_of, answer_bytes}
use Rattle.item_spec.specs.Items.{refusal_of}
use Rattle.item_spec.specs.Many.{singles_of}
use Rattle.item_spec.specs.Kinds.{decoded_of}
use Rattle.item_spec.specs.declared.Item.{Item}
use Rattle.item_spec.specs.declared.Item.TheVariants.{ReadVia, ReadIwm, WriteVia, WriteIwm, Line, Sense, Power, Disk, Pulse}
use Rattle.item_spec.specs.declared.Decoded.{Decoded}
use Rattle.item_spec.specs.declared.Decoded.TheVariants.{One}
use Rattle.item_spec.specs.declared.Location.TheVariants.{Via, Iwm}
use Rattle.refusal.specs.declared.Refusal.TheVariants.{DiskMismatch}

-- The numbers of the refusals, 0 of an item.
abbrev pub numbers : List (List ℕ) → List ℕ
numbers [] = []
numbers (s ∷ ss) = refusal_of (decoded_of s) ∷ numbers ss

-- So many bytes $A7.
abbrev pub values : ℕ → List ℕ
values zero = []
values (suc n) = 0xa7 ∷ values n

-- MW after 513 VIA ticks to VIA register 9 ($EFF3FE), with this count and so many values.
abbrev pub many_bytes : ℕ → ℕ → List ℕ
many_bytes count n = 0x4d ∷ 0x57 ∷ 1 ∷ 2 ∷ 0xfe ∷ 0xf3 ∷ 0xef ∷ 0 ∷ count ∷ values n

pub record Samples : Type 0 where
  -- S2 and S4: RD $EFE1FE, WR $81 to $EFFDFE
  pub s2 : decoded_of (0x52 ∷ 0x44 ∷ 0 ∷ 0 ∷ 0xfe ∷ 0xe1 ∷ 0xef ∷ 0 ∷ []) ≡ Ok (One (ReadVia (for_ticks 0) 0))
  pub s4 : decoded_of (0x57 ∷ 0x52 ∷ 0 ∷ 0 ∷ 0xfe ∷ 0xfd ∷ 0xef ∷ 0 ∷ 0x81 ∷ []) ≡ Ok (One (WriteVia (for_ticks 0) 14 0x81))
  -- ---- each kind, after a wait of 513 VIA ticks
  -- RD, WR: $EFF3FE is VIA register 9, $DFEDFF IWM location 6
  pub read_via : decoded_of (0x52 ∷ 0x44 ∷ 1 ∷ 2 ∷ 0xfe ∷ 0xf3 ∷ 0xef ∷ 0 ∷ []) ≡ Ok (One (ReadVia (for_ticks 513) 9))
  pub read_iwm : decoded_of (0x52 ∷ 0x44 ∷ 1 ∷ 2 ∷ 0xff ∷ 0xed ∷ 0xdf ∷ 0 ∷ []) ≡ Ok (One (ReadIwm (for_ticks 513) 6))
  pub write_via : decoded_of (0x57 ∷ 0x52 ∷ 1 ∷ 2 ∷ 0xfe ∷ 0xf3 ∷ 0xef ∷ 0 ∷ 0xa7 ∷ []) ≡ Ok (One (WriteVia (for_ticks 513) 9 0xa7))
  pub write_iwm : decoded_of (0x57 ∷ 0x52 ∷ 1 ∷ 2 ∷ 0xff ∷ 0xed ∷ 0xdf ∷ 0 ∷ 0xa7 ∷ []) ≡ Ok (One (WriteIwm (for_ticks 513) 6 0xa7))
  -- VB, SE, RS
  pub blank : decoded_of (0x56 ∷ 0x42 ∷ 1 ∷ 2 ∷ []) ≡ Ok (One (Item.Blank (for_ticks 513)))
  pub second : decoded_of (0x53 ∷ 0x45 ∷ 1 ∷ 2 ∷ []) ≡ Ok (One (Item.Second (for_ticks 513)))
  pub reset : decoded_of (0x52 ∷ 0x53 ∷ 1 ∷ 2 ∷ []) ≡ Ok (One (Item.Reset (for_ticks 513)))
  -- IN: line, level
  pub line : decoded_of (0x49 ∷ 0x4e ∷ 1 ∷ 2 ∷ 6 ∷ 1 ∷ []) ≡ Ok (One (Line (for_ticks 513) 6 1))
  -- SN: drive, register, level
  pub sense : decoded_of (0x53 ∷ 0x4e ∷ 1 ∷ 2 ∷ 1 ∷ 14 ∷ 0 ∷ []) ≡ Ok (One (Sense (for_ticks 513) 1 14 0))
  -- PW: $07060504 seconds off
  pub power : decoded_of (0x50 ∷ 0x57 ∷ 1 ∷ 2 ∷ 4 ∷ 5 ∷ 6 ∷ 7 ∷ []) ≡ Ok (One (Power (for_ticks 513) 0x07060504))
  -- DI: drive, insert, locked, double-sided
  pub insert : decoded_of (0x44 ∷ 0x49 ∷ 1 ∷ 2 ∷ 0 ∷ 1 ∷ 1 ∷ 0 ∷ []) ≡ Ok (One (Disk (for_ticks 513) 0 1 1 0))
  pub remove : decoded_of (0x44 ∷ 0x49 ∷ 1 ∷ 2 ∷ 1 ∷ 0 ∷ 0 ∷ 1 ∷ []) ≡ Ok (One (Disk (for_ticks 513) 1 0 0 1))
  -- MW: address, count, values; to VIA register 9 and to IWM location 6
  pub many_via : decoded_of (0x4d ∷ 0x57 ∷ 1 ∷ 2 ∷ 0xfe ∷ 0xf3 ∷ 0xef ∷ 0 ∷ 2 ∷ 0xa7 ∷ 0x5c ∷ []) ≡ Ok (Decoded.Many (record { wait = for_ticks 513; to = Via 9 }))
  pub many_iwm : decoded_of (0x4d ∷ 0x57 ∷ 1 ∷ 2 ∷ 0xff ∷ 0xed ∷ 0xdf ∷ 0 ∷ 1 ∷ 0xa7 ∷ []) ≡ Ok (Decoded.Many (record { wait = for_ticks 513; to = Iwm 6 }))
  -- its single WR items: the first after the wait, the others with none
  pub singles_via : singles_of (record { wait = for_ticks 513; to = Via 9 }) (0x4d ∷ 0x57 ∷ 1 ∷ 2 ∷ 0xfe ∷ 0xf3 ∷ 0xef ∷ 0 ∷ 3 ∷ 0xa7 ∷ 0x5c ∷ 0x31 ∷ [])
      ≡ WriteVia (for_ticks 513) 9 0xa7 ∷ WriteVia (for_ticks 0) 9 0x5c ∷ WriteVia (for_ticks 0) 9 0x31 ∷ []
  pub singles_iwm : singles_of (record { wait = for_ticks 513; to = Iwm 6 }) (0x4d ∷ 0x57 ∷ 1 ∷ 2 ∷ 0xff ∷ 0xed ∷ 0xdf ∷ 0 ∷ 2 ∷ 0xa7 ∷ 0x5c ∷ [])
      ≡ WriteIwm (for_ticks 513) 6 0xa7 ∷ WriteIwm (for_ticks 0) 6 0x5c ∷ []
  -- KC: level
  pub pulse : decoded_of (0x4b ∷ 0x43 ∷ 1 ∷ 2 ∷ 1 ∷ []) ≡ Ok (One (Pulse (for_ticks 513) 1))
  -- ---- refusals
  -- 2: "ZZ", "rd", "RE", "WD", "BV", "ST", whatever their length
  pub kinds : numbers ((0x5a ∷ 0x5a ∷ 1 ∷ []) ∷ (0x72 ∷ 0x64 ∷ 0 ∷ 0 ∷ 0xfe ∷ 0xe1 ∷ 0xef ∷ 0 ∷ []) ∷ (0x52 ∷ 0x45 ∷ 0 ∷ 0 ∷ []) ∷ (0x57 ∷ 0x44 ∷ 0 ∷ 0 ∷ []) ∷ (0x42 ∷ 0x56 ∷ 0 ∷ 0 ∷ []) ∷ (0x53 ∷ 0x54 ∷ 0 ∷ 0 ∷ []) ∷ [])
      ≡ 2 ∷ 2 ∷ 2 ∷ 2 ∷ 2 ∷ 2 ∷ []
  -- 3: each kind a byte too short and a byte too long, before 4 and 5; a kind alone
  pub reads : numbers ((0x52 ∷ 0x44 ∷ 0 ∷ 0 ∷ 0xfe ∷ 0xe1 ∷ 0xef ∷ []) ∷ (0x52 ∷ 0x44 ∷ 0 ∷ 0 ∷ 0xff ∷ 0xe1 ∷ 0xef ∷ 0 ∷ 0 ∷ []) ∷ []) ≡ 3 ∷ 3 ∷ []
  pub writes : numbers ((0x57 ∷ 0x52 ∷ 0 ∷ 0 ∷ 0xfe ∷ 0xe1 ∷ 0xef ∷ 0 ∷ []) ∷ (0x57 ∷ 0x52 ∷ 0 ∷ 0 ∷ 0xff ∷ 0xe1 ∷ 0xef ∷ 0 ∷ 0 ∷ 0 ∷ []) ∷ []) ≡ 3 ∷ 3 ∷ []
  pub blanks : numbers ((0x56 ∷ 0x42 ∷ 0 ∷ []) ∷ (0x56 ∷ 0x42 ∷ 0 ∷ 0 ∷ 0 ∷ []) ∷ []) ≡ 3 ∷ 3 ∷ []
  pub seconds : numbers ((0x53 ∷ 0x45 ∷ 0 ∷ []) ∷ (0x53 ∷ 0x45 ∷ 0 ∷ 0 ∷ 0 ∷ []) ∷ (0x53 ∷ 0x45 ∷ []) ∷ []) ≡ 3 ∷ 3 ∷ 3 ∷ []
  pub resets : numbers ((0x52 ∷ 0x53 ∷ 0 ∷ []) ∷ (0x52 ∷ 0x53 ∷ 0 ∷ 0 ∷ 0 ∷ []) ∷ []) ≡ 3 ∷ 3 ∷ []
  pub lines : numbers ((0x49 ∷ 0x4e ∷ 0 ∷ 0 ∷ 7 ∷ []) ∷ (0x49 ∷ 0x4e ∷ 0 ∷ 0 ∷ 7 ∷ 0 ∷ 0 ∷ []) ∷ []) ≡ 3 ∷ 3 ∷ []
  pub senses : numbers ((0x53 ∷ 0x4e ∷ 0 ∷ 0 ∷ 2 ∷ 0 ∷ []) ∷ (0x53 ∷ 0x4e ∷ 0 ∷ 0 ∷ 2 ∷ 0 ∷ 0 ∷ 0 ∷ []) ∷ []) ≡ 3 ∷ 3 ∷ []
  pub powers : numbers ((0x50 ∷ 0x57 ∷ 0 ∷ 0 ∷ 0 ∷ 0 ∷ 0 ∷ []) ∷ (0x50 ∷ 0x57 ∷ 0 ∷ 0 ∷ 0 ∷ 0 ∷ 0 ∷ 0 ∷ 0 ∷ []) ∷ []) ≡ 3 ∷ 3 ∷ []
  pub disks : numbers ((0x44 ∷ 0x49 ∷ 0 ∷ 0 ∷ 2 ∷ 0 ∷ 0 ∷ []) ∷ (0x44 ∷ 0x49 ∷ 0 ∷ 0 ∷ 2 ∷ 0 ∷ 0 ∷ 0 ∷ 0 ∷ []) ∷ []) ≡ 3 ∷ 3 ∷ []
  pub pulses : numbers ((0x4b ∷ 0x43 ∷ 0 ∷ 0 ∷ []) ∷ (0x4b ∷ 0x43 ∷ 0 ∷ 0 ∷ 2 ∷ 0 ∷ []) ∷ []) ≡ 3 ∷ 3 ∷ []
  -- 4: $EFE1FD, $EFE1FF, $EFDFFE, $F001FE, $01EFE1FE, and $DFE1FE, $DFDFFF, $E001FF
  pub addresses : numbers ((0x52 ∷ 0x44 ∷ 0 ∷ 0 ∷ 0xfd ∷ 0xe1 ∷ 0xef ∷ 0 ∷ []) ∷ (0x52 ∷ 0x44 ∷ 0 ∷ 0 ∷ 0xff ∷ 0xe1 ∷ 0xef ∷ 0 ∷ []) ∷ (0x52 ∷ 0x44 ∷ 0 ∷ 0 ∷ 0xfe ∷ 0xdf ∷ 0xef ∷ 0 ∷ []) ∷ (0x52 ∷ 0x44 ∷ 0 ∷ 0 ∷ 0xfe ∷ 0x01 ∷ 0xf0 ∷ 0 ∷ []) ∷ (0x52 ∷ 0x44 ∷ 0 ∷ 0 ∷ 0xfe ∷ 0xe1 ∷ 0xef ∷ 1 ∷ []) ∷ (0x57 ∷ 0x52 ∷ 0 ∷ 0 ∷ 0xfe ∷ 0xe1 ∷ 0xdf ∷ 0 ∷ 0 ∷ []) ∷ (0x57 ∷ 0x52 ∷ 0 ∷ 0 ∷ 0xff ∷ 0xdf ∷ 0xdf ∷ 0 ∷ 0 ∷ []) ∷ (0x57 ∷ 0x52 ∷ 0 ∷ 0 ∷ 0xff ∷ 0x01 ∷ 0xe0 ∷ 0 ∷ 0 ∷ []) ∷ [])
      ≡ 4 ∷ 4 ∷ 4 ∷ 4 ∷ 4 ∷ 4 ∷ 4 ∷ 4 ∷ []
  -- 5: IN lines 6 and 7, level 2
  pub line_range : numbers ((0x49 ∷ 0x4e ∷ 0 ∷ 0 ∷ 6 ∷ 0 ∷ []) ∷ (0x49 ∷ 0x4e ∷ 0 ∷ 0 ∷ 7 ∷ 0 ∷ []) ∷ (0x49 ∷ 0x4e ∷ 0 ∷ 0 ∷ 0 ∷ 2 ∷ []) ∷ []) ≡ 0 ∷ 5 ∷ 5 ∷ []
  -- SN drive 2, register 16, level 2
  pub sense_range : numbers ((0x53 ∷ 0x4e ∷ 0 ∷ 0 ∷ 1 ∷ 14 ∷ 1 ∷ []) ∷ (0x53 ∷ 0x4e ∷ 0 ∷ 0 ∷ 2 ∷ 0 ∷ 0 ∷ []) ∷ (0x53 ∷ 0x4e ∷ 0 ∷ 0 ∷ 0 ∷ 16 ∷ 0 ∷ []) ∷ (0x53 ∷ 0x4e ∷ 0 ∷ 0 ∷ 0 ∷ 0 ∷ 2 ∷ []) ∷ []) ≡ 0 ∷ 5 ∷ 5 ∷ 5 ∷ []
  -- W-214: SN on registers 0, 5, 12 and 15 is 9, on 6, 11 and 13 it stays; on 15 with level 2 it is 5, with a byte missing 3
  pub retired : numbers ((0x53 ∷ 0x4e ∷ 0 ∷ 0 ∷ 0 ∷ 0 ∷ 1 ∷ []) ∷ (0x53 ∷ 0x4e ∷ 0 ∷ 0 ∷ 0 ∷ 5 ∷ 1 ∷ []) ∷ (0x53 ∷ 0x4e ∷ 0 ∷ 0 ∷ 0 ∷ 6 ∷ 1 ∷ []) ∷ (0x53 ∷ 0x4e ∷ 0 ∷ 0 ∷ 0 ∷ 11 ∷ 1 ∷ []) ∷ (0x53 ∷ 0x4e ∷ 0 ∷ 0 ∷ 1 ∷ 12 ∷ 0 ∷ []) ∷ (0x53 ∷ 0x4e ∷ 0 ∷ 0 ∷ 1 ∷ 13 ∷ 0 ∷ []) ∷ (0x53 ∷ 0x4e ∷ 0 ∷ 0 ∷ 1 ∷ 15 ∷ 0 ∷ []) ∷ (0x53 ∷ 0x4e ∷ 0 ∷ 0 ∷ 1 ∷ 15 ∷ 2 ∷ []) ∷ (0x53 ∷ 0x4e ∷ 0 ∷ 0 ∷ 1 ∷ 15 ∷ []) ∷ [])
      ≡ 9 ∷ 9 ∷ 0 ∷ 0 ∷ 9 ∷ 0 ∷ 9 ∷ 5 ∷ 3 ∷ []
  -- DI with 2 at each place, in a removal too
  pub disk_range : numbers ((0x44 ∷ 0x49 ∷ 0 ∷ 0 ∷ 1 ∷ 1 ∷ 1 ∷ 1 ∷ []) ∷ (0x44 ∷ 0x49 ∷ 0 ∷ 0 ∷ 2 ∷ 0 ∷ 0 ∷ 0 ∷ []) ∷ (0x44 ∷ 0x49 ∷ 0 ∷ 0 ∷ 0 ∷ 2 ∷ 0 ∷ 0 ∷ []) ∷ (0x44 ∷ 0x49 ∷ 0 ∷ 0 ∷ 0 ∷ 0 ∷ 2 ∷ 0 ∷ []) ∷ (0x44 ∷ 0x49 ∷ 0 ∷ 0 ∷ 0 ∷ 0 ∷ 0 ∷ 2 ∷ []) ∷ [])
      ≡ 0 ∷ 5 ∷ 5 ∷ 5 ∷ 5 ∷ []
  -- KC with levels 0, 1, 2 and 255; "CK" is no kind
  pub pulse_range : numbers ((0x4b ∷ 0x43 ∷ 0 ∷ 0 ∷ 0 ∷ []) ∷ (0x4b ∷ 0x43 ∷ 0 ∷ 0 ∷ 1 ∷ []) ∷ (0x4b ∷ 0x43 ∷ 0 ∷ 0 ∷ 2 ∷ []) ∷ (0x4b ∷ 0x43 ∷ 0 ∷ 0 ∷ 255 ∷ []) ∷ (0x43 ∷ 0x4b ∷ 0 ∷ 0 ∷ 0 ∷ []) ∷ []) ≡ 0 ∷ 0 ∷ 5 ∷ 5 ∷ 2 ∷ []
  -- ---- W-211's own order: 3, 4, 5, 3
  -- length 2 and 8: 3 before 4; length 9 and 10 at $EFE1FF with count 0: 4 before 5
  pub many_short : numbers ((0x4d ∷ 0x57 ∷ []) ∷ (0x4d ∷ 0x57 ∷ 0 ∷ 0 ∷ 0xff ∷ 0xe1 ∷ 0xef ∷ 0 ∷ []) ∷ (0x4d ∷ 0x57 ∷ 0 ∷ 0 ∷ 0xff ∷ 0xe1 ∷ 0xef ∷ 0 ∷ 0 ∷ []) ∷ (0x4d ∷ 0x57 ∷ 0 ∷ 0 ∷ 0xff ∷ 0xe1 ∷ 0xef ∷ 0 ∷ 0 ∷ 1 ∷ []) ∷ [])
      ≡ 3 ∷ 3 ∷ 4 ∷ 4 ∷ []
  -- counts 0, 65 and 255 are 5, with the right length and with a wrong one; 1 and 64 are taken
  pub many_count : numbers (many_bytes 0 0 ∷ many_bytes 0 3 ∷ many_bytes 65 65 ∷ many_bytes 65 64 ∷ many_bytes 255 0 ∷ many_bytes 1 1 ∷ many_bytes 64 64 ∷ [])
      ≡ 5 ∷ 5 ∷ 5 ∷ 5 ∷ 5 ∷ 0 ∷ 0 ∷ []
  -- a value too many or too few is 3
  pub many_length : numbers (many_bytes 2 3 ∷ many_bytes 2 1 ∷ many_bytes 64 65 ∷ many_bytes 64 63 ∷ many_bytes 1 0 ∷ []) ≡ 3 ∷ 3 ∷ 3 ∷ 3 ∷ 3 ∷ []
  -- ---- framed, and answers
  -- The length counts what follows it, low byte first, and is 2 or more.
  pub whole : frame_of (3 ∷ 0 ∷ 1 ∷ 2 ∷ 3 ∷ 4 ∷ []) ≡ Some 5
  pub least : frame_of (2 ∷ 0 ∷ 1 ∷ 2 ∷ []) ≡ Some 4
  pub low : frame_of (1 ∷ 0 ∷ 1 ∷ 2 ∷ []) ≡ None
  pub short : frame_of (3 ∷ 0 ∷ 1 ∷ 2 ∷ []) ≡ None
  pub high : frame_of (2 ∷ 1 ∷ 1 ∷ 2 ∷ []) ≡ None
  pub stray : frame_of (2 ∷ []) ≡ None
  -- value, level, disk lines, SEL; the refusal's number
  pub answer : answer_bytes (Ok (record { value = 0xa7; level = 5; lines = 0x93; sel = 1 })) ≡ 6 ∷ 0 ∷ 0x4f ∷ 0x4b ∷ 0xa7 ∷ 5 ∷ 0x93 ∷ 1 ∷ []
  pub refusal : answer_bytes (Err DiskMismatch) ≡ 6 ∷ 0 ∷ 0x4e ∷ 0x4f ∷ 8 ∷ 0 ∷ 0 ∷ 0 ∷ []
