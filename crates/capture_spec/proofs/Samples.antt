-- Conversions computed by the definition.
use Prim.Native.Nat.{ℕ}
use mathlib.Core.Path.{◌≡◌, refl}
use mathlib.Core.Bool.{Bool, true, false}
use mathlib.Core.List.{List, [], ◌∷◌, ◌++◌}
use Rattle.std.specs.Prelude.{Some, None}
use Rattle.refusal.specs.declared.Refusal.TheVariants.{CutRecord, NoRoom}
use Rattle.octets.specs.Octets.{le16_of, le32_of}
use Rattle.item_spec.specs.Record.{frame_of}
use Rattle.item_spec.specs.Addresses.{place_from, found_of}
use Rattle.item_spec.specs.Items.{plain_record, read_record, write_record, power_record}
use Rattle.item_spec.specs.Ranged.{line_record, sense_record, is_retired, disk_record}
use Rattle.item_spec.specs.Kinds.{is_kind, decoded_of}
use Rattle.capture_spec.specs.declared.Converted.{Converted}
use Rattle.capture_spec.specs.Capture.{capture_from, capture_of, retired_of, line0_of, left_of}
use Rattle.capture_spec.specs.Levels.{no_levels, first_levels, drive_sense_of, drive_of, sense_to, next_of}
use Rattle.capture_spec.specs.Convert.{line_for, insert_of, locked_of, sides_of, disk_for, changes_of, part_of, lone_of, turned_from, count_from, end_of, turned_of, converted_of, output_of}
use Rattle.capture_spec.specs.Ticks.{refusal_before, refusal_after, is_disk, passes, ticks}

-- records: SN and DI with a wait of w + 256 x ticks, IN likewise
abbrev sn : ℕ → ℕ → ℕ → ℕ → ℕ → List ℕ
sn w x drive register level = 7 ∷ 0 ∷ 83 ∷ 78 ∷ w ∷ x ∷ drive ∷ register ∷ level ∷ []

abbrev line : ℕ → ℕ → ℕ → ℕ → List ℕ
line w x number level = 6 ∷ 0 ∷ 73 ∷ 78 ∷ w ∷ x ∷ number ∷ level ∷ []

abbrev disk : ℕ → ℕ → ℕ → ℕ → List ℕ
disk drive insert locked sides = 8 ∷ 0 ∷ 68 ∷ 73 ∷ 0 ∷ 0 ∷ drive ∷ insert ∷ locked ∷ sides ∷ []

-- a disk put into the external drive, locked and single-sided, and taken out, with line 0 at 0; the internal drive's levels do not count for it
abbrev story : List ℕ
story = line 9 0 0 0 ++ sn 1 2 1 3 0 ++ sn 3 4 1 12 0 ++ sn 5 6 1 1 0 ++ sn 7 8 0 3 1 ++ sn 5 7 1 1 0 ++ sn 2 1 1 1 1

abbrev told : List ℕ
told =
    line 9 0 0 0 ++ line 1 2 0 0 ++ line 3 4 0 0 ++ line 5 6 0 0 ++ disk 1 1 1 0 ++ line 7 8 0 0 ++ line 5 7 0 0 ++ line 2 1 0 0 ++ disk 1 0 0 0

pub record Samples : Type 0 where
  pub turned : turned_of story ≡ told
  -- four of the six are without a DI
  pub converted : converted_of story 100 ≡ record { refusal = None; written = 76; count = 4 }
  -- the room is judged exactly
  pub exact : converted_of story 76 ≡ record { refusal = None; written = 76; count = 4 }
  pub short : converted_of story 75 ≡ record { refusal = Some NoRoom; written = 0; count = 0 }
  -- no SN on 3 and 12 before: not locked, double-sided; line 0 at 1; the first removal is no change
  pub plain : turned_of (sn 4 3 0 1 1 ++ sn 6 5 0 1 0) ≡ line 4 3 0 1 ++ line 6 5 0 1 ++ disk 0 1 0 1
  -- register 3 back at 1, and 12 at 0 on the other drive
  pub others : turned_of (sn 0 0 0 3 0 ++ sn 0 0 0 3 1 ++ sn 0 0 1 12 0 ++ sn 0 0 0 1 0) ≡ line 0 0 0 1 ++ line 0 0 0 1 ++ line 0 0 0 1 ++ line 0 0 0 1 ++ disk 0 1 0 1
  -- registers 6 to 11, 13 and 14 stay, and so do a level 2, a drive 2 and a length of 8; none of them counts for line 0 or a drive
  pub stays :
      turned_of (sn 1 0 0 6 0 ++ sn 1 0 0 11 0 ++ sn 1 0 0 13 0 ++ sn 1 0 1 14 0 ++ sn 1 0 0 1 2 ++ sn 1 0 2 1 0 ++ (8 ∷ 0 ∷ 83 ∷ 78 ∷ 1 ∷ 0 ∷ 0 ∷ 1 ∷ 0 ∷ 0 ∷ []) ++ sn 1 0 0 1 1)
      ≡ sn 1 0 0 6 0 ++ sn 1 0 0 11 0 ++ sn 1 0 0 13 0 ++ sn 1 0 1 14 0 ++ sn 1 0 0 1 2 ++ sn 1 0 2 1 0 ++ (8 ∷ 0 ∷ 83 ∷ 78 ∷ 1 ∷ 0 ∷ 0 ∷ 1 ∷ 0 ∷ 0 ∷ []) ++ line 1 0 0 1
  -- the registers that go
  pub goes :
      turned_of (sn 1 0 0 0 0 ++ sn 2 0 0 2 0 ++ sn 3 0 0 4 0 ++ sn 4 0 0 5 0 ++ sn 5 0 0 15 0) ≡ line 1 0 0 1 ++ line 2 0 0 1 ++ line 3 0 0 1 ++ line 4 0 0 1 ++ line 5 0 0 1
  -- an IN on line 1, and one on line 0 with level 2, do not count for line 0
  pub lines : turned_of (line 0 0 1 0 ++ line 0 0 0 2 ++ sn 0 0 0 0 0) ≡ line 0 0 1 0 ++ line 0 0 0 2 ++ line 0 0 0 1
  -- a cut record ends the work, and too little room before it wins
  pub cut : converted_of (sn 1 0 0 0 0 ++ (9 ∷ 0 ∷ 87 ∷ [])) 8 ≡ record { refusal = Some CutRecord; written = 8; count = 1 }
  pub cut_short : converted_of (sn 1 0 0 0 0 ++ (9 ∷ 0 ∷ 87 ∷ [])) 7 ≡ record { refusal = Some NoRoom; written = 0; count = 0 }
  pub cut_left : left_of (capture_of (sn 1 0 0 0 0 ++ (9 ∷ 0 ∷ 87 ∷ []))) ≡ 9 ∷ 0 ∷ 87 ∷ []
  -- bytes past those written, and all of them on 6
  pub past : output_of (sn 1 2 0 0 0) (31 ∷ 32 ∷ 33 ∷ 34 ∷ 35 ∷ 36 ∷ 37 ∷ 38 ∷ 39 ∷ []) ≡ line 1 2 0 1 ++ (39 ∷ [])
  pub kept : output_of (sn 1 2 0 0 0) (31 ∷ 32 ∷ 33 ∷ 34 ∷ 35 ∷ 36 ∷ 37 ∷ []) ≡ 31 ∷ 32 ∷ 33 ∷ 34 ∷ 35 ∷ 36 ∷ 37 ∷ []
  pub empty : converted_of [] 0 ≡ record { refusal = None; written = 0; count = 0 }
  -- VIA ticks: 9 + 513 + 1027 + 1541 + 2055 + 1797 + 258, before and after; unconverted, after W-214, only those of the IN
  pub before : ticks refusal_before (λ n. false) 0 (capture_of story) ≡ 7200
  pub after : ticks refusal_after (λ n. true) 0 (capture_of told) ≡ 7200
  pub refused : ticks refusal_after (λ n. false) 0 (capture_of story) ≡ 9

pub samples : Samples
unfolding le16_of le32_of frame_of place_from found_of plain_record read_record write_record power_record line_record sense_record is_retired disk_record is_kind decoded_of capture_from retired_of line0_of left_of no_levels first_levels drive_sense_of drive_of sense_to next_of line_for insert_of locked_of sides_of disk_for changes_of part_of lone_of turned_from count_from end_of turned_of converted_of output_of refusal_before refusal_after is_disk passes ticks
samples =
    record {
      turned = refl;
      converted = refl;
      exact = refl;
      short = refl;
      plain = refl;
      others = refl;
      stays = refl;
      goes = refl;
      lines = refl;
      cut = refl;
      cut_short = refl;
      cut_left = refl;
      past = refl;
      kept = refl;
      empty = refl;
      before = refl;
      after = refl;
      refused = refl;
    }
