-- What the bytes of a record of each kind with no range to keep ask for: document 01, "Items and answers as bytes" and refusals 3 and 4; the ranges of every kind's item.
use Rattle.std.specs.Prelude.{ℕ, ◌<◌, cond, List, length, get_or, eqb, Option, Some, None, Result, Ok, Err}
use Rattle.octets.specs.Octets.{le16_of, le32_of}
use Rattle.units.specs.Units.{for_ticks}
use Rattle.units.specs.declared.WaitTicks.{WaitTicks}
use Rattle.item_spec.specs.declared.Item.{Item}
use Rattle.item_spec.specs.declared.Item.TheVariants.{ReadVia, ReadIwm, WriteVia, WriteIwm, Line, Sense, Power, Disk, Pulse}
use Rattle.refusal.specs.Numbers.{number_of}
use Rattle.refusal.specs.declared.Refusal.{Refusal}
use Rattle.refusal.specs.declared.Refusal.TheVariants.{WrongLength, UnknownAddress}
use Rattle.item_spec.specs.declared.Plain.{Plain}
use Rattle.item_spec.specs.Addresses.{found_of}
use Rattle.item_spec.specs.declared.Location.{Location}
use Rattle.item_spec.specs.declared.Location.TheVariants.{Via, Iwm}

-- "For an answer that is an enum, a definition gives this paper's number": the refusal's number, 0 where nothing is refused.
abbrev pub refusal_of : {T : Type 0} → Result T Refusal → ℕ
refusal_of (Ok x) = 0
refusal_of (Err r) = number_of r

-- Refusal 3, "length wrong for the kind".
abbrev pub of_length : {T : Type 0} → List ℕ → ℕ → Result T Refusal → Result T Refusal
of_length s n x = cond (eqb (length s) n) x (Err WrongLength)

-- Refusal 4, "address is none of the 32".
abbrev pub at_address : {T : Type 0} → Option Location → (Location → Result T Refusal) → Result T Refusal
at_address (Some l) f = f l
at_address None f = Err UnknownAddress

-- "Every item's body begins with a wait in VIA ticks (2 bytes)."
abbrev pub record_wait : List ℕ → WaitTicks
record_wait s = for_ticks (le16_of s 2)

-- RD, 8: "address (4): read".
abbrev pub read_from : Location → WaitTicks → Item
read_from (Via r) w = ReadVia w r
read_from (Iwm k) w = ReadIwm w k

unfoldable pub read_record : List ℕ → Result Item Refusal
read_record s = of_length s 8 (at_address (found_of (le32_of s 4)) (λ l. Ok (read_from l (record_wait s))))

-- WR, 9: "address (4), value (1)".
abbrev pub write_to : Location → WaitTicks → ℕ → Item
write_to (Via r) w v = WriteVia w r v
write_to (Iwm k) w v = WriteIwm w k v

unfoldable pub write_record : List ℕ → Result Item Refusal
write_record s = of_length s 9 (at_address (found_of (le32_of s 4)) (λ l. Ok (write_to l (record_wait s) (get_or s 8 0))))

-- PW, 8: "power cut: seconds off (4)".
unfoldable pub power_record : List ℕ → Result Item Refusal
power_record s = of_length s 8 (Ok (Power (record_wait s) (le32_of s 4)))

-- VB, SE, RS, 4: nothing after the wait.
abbrev pub plain_item : Plain → WaitTicks → Item
plain_item Plain.Blank w = Item.Blank w
plain_item Plain.Second w = Item.Second w
plain_item Plain.Reset w = Item.Reset w

unfoldable pub plain_record : List ℕ → Plain → Result Item Refusal
plain_record s k = of_length s 4 (Ok (plain_item k (record_wait s)))

-- A location is one of sixteen.
abbrev pub LocationInRange : Location → Type 0
LocationInRange (Via r) = r < 16
LocationInRange (Iwm k) = k < 16

-- The numbers of an item are within the papers' ranges.
abbrev pub ItemInRange : Item → Type 0
ItemInRange (ReadVia w r) = r < 16
ItemInRange (ReadIwm w k) = k < 16
ItemInRange (WriteVia w r v) = r < 16
ItemInRange (WriteIwm w k v) = k < 16
ItemInRange (Item.Blank w) = Unit {0}
ItemInRange (Item.Second w) = Unit {0}
ItemInRange (Line w l v) = (l < 7) × (v < 2)
ItemInRange (Sense w d r v) = (d < 2) × (r < 16) × (v < 2)
ItemInRange (Item.Reset w) = Unit {0}
ItemInRange (Power w t) = Unit {0}
ItemInRange (Disk w d i l b) = (d < 2) × (i < 2) × (l < 2) × (b < 2)
ItemInRange (Pulse w l) = l < 2

-- The numbers of an item are within their widths: a wait of two bytes, a value of one, seconds of four.
abbrev pub ItemInWidth : Item → Type 0
ItemInWidth (ReadVia w r) = w.0 < 65536
ItemInWidth (ReadIwm w k) = w.0 < 65536
ItemInWidth (WriteVia w r v) = (w.0 < 65536) × (v < 256)
ItemInWidth (WriteIwm w k v) = (w.0 < 65536) × (v < 256)
ItemInWidth (Item.Blank w) = w.0 < 65536
ItemInWidth (Item.Second w) = w.0 < 65536
ItemInWidth (Line w l v) = w.0 < 65536
ItemInWidth (Sense w d r v) = w.0 < 65536
ItemInWidth (Item.Reset w) = w.0 < 65536
ItemInWidth (Power w t) = (w.0 < 65536) × (t < 4294967296)
ItemInWidth (Disk w d i l b) = w.0 < 65536
ItemInWidth (Pulse w l) = w.0 < 65536
