-- What the bytes of a record with ranges ask for: document 01, "Items and answers as bytes" and refusals 3 and 5, request W-203's DI, request W-210's KC and request W-214's refusal 9.
use Rattle.std.specs.Prelude.{ℕ, Bool, cond, ◌||◌, List, get_or, ltb, eqb, Result, Ok, Err}
use Rattle.item_spec.specs.Items.{of_length, record_wait}
use Rattle.item_spec.specs.declared.Item.TheVariants.{Line, Sense, Disk, Pulse}
use Rattle.item_spec.specs.declared.Item.{Item}
use Rattle.refusal.specs.declared.Refusal.{Refusal}
use Rattle.refusal.specs.declared.Refusal.TheVariants.{OutOfRange, RetiredRegister}

-- Refusal 5, "line, drive, register or level out of range".
abbrev pub at_most : {T : Type 0} → ℕ → ℕ → Result T Refusal → Result T Refusal
at_most v most x = cond (ltb most v) (Err OutOfRange) x

-- IN, 6: "line 0 to 4, level 0 or 1"; W-205: "IN gains line 5 (serial chip asks) and line 6 (programmer's switch)".
unfoldable pub line_record : List ℕ → Result Item Refusal
line_record s = of_length s 6 (at_most (get_or s 4 0) 6 (at_most (get_or s 5 0) 1 (Ok (Line (record_wait s) (get_or s 4 0) (get_or s 5 0)))))

-- W-214: "SN for registers 0 to 5, 12 and 15 goes."
unfoldable pub is_retired : ℕ → Bool
is_retired r = ltb r 6 || eqb r 12 || eqb r 15

-- SN, 7: "drive 0 internal or 1 external, register 0 to 15, level"; on a register that goes it "is refusal 9, checked after 5".
unfoldable pub sense_record : List ℕ → Result Item Refusal
sense_record s =
    of_length s 7
    (at_most (get_or s 4 0) 1
    (at_most (get_or s 5 0) 15
    (at_most (get_or s 6 0) 1 (cond (is_retired (get_or s 5 0)) (Err RetiredRegister) (Ok (Sense (record_wait s) (get_or s 4 0) (get_or s 5 0) (get_or s 6 0)))))))

-- DI, 8: "drive, insert 1 or remove 0, locked 1, double-sided 1"; "in all four, always, other values get refusal 5".
unfoldable pub disk_record : List ℕ → Result Item Refusal
disk_record s =
    of_length s 8
    (at_most (get_or s 4 0) 1
    (at_most (get_or s 5 0) 1
    (at_most (get_or s 6 0) 1
    (at_most (get_or s 7 0) 1 (Ok (Disk (record_wait s) (get_or s 4 0) (get_or s 5 0) (get_or s 6 0) (get_or s 7 0)))))))

-- KC, 5: "one clock pulse and a data level", 0 or 1.
unfoldable pub pulse_record : List ℕ → Result Item Refusal
pulse_record s = of_length s 5 (at_most (get_or s 4 0) 1 (Ok (Pulse (record_wait s) (get_or s 4 0))))
