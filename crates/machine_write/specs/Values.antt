-- The values that one record writes, one after the other. W-211: an MW has the effect of single WR items; a WR is one of them.
use Rattle.std.specs.Prelude.{ℕ, ◌≡◌, Bool, true, false, cond, not, List, [], ◌∷◌, eqb}
use Rattle.std.specs.Bool.{beq}
use Rattle.std.proofs.Math.Option.{Option, none, some}
use Rattle.units.specs.Units.{for_ticks}
use Rattle.via.specs.declared.Ports.{Ports}
use Rattle.via.specs.declared.Via.{Via}
use Rattle.via.specs.Writes.{ports_written, via_written}
use Rattle.clock_spec.specs.Phase.{shown_level, accepted_phase}
use Rattle.clock.specs.declared.Clock.{Clock}
use Rattle.clock.specs.Step.{step_wires}
use Rattle.disk_spec.specs.declared.Drives.{Drives}
use Rattle.disk_spec.specs.Strobe.{no_strobe}
use Rattle.disk_spec.specs.Drives.{with_strobe}
use Rattle.item_spec.specs.declared.Item.{Item}
use Rattle.item_spec.specs.declared.Item.TheVariants.{ReadVia, ReadIwm, WriteVia, WriteIwm, Blank, Second, Line, Sense, Reset, Power, Disk, Pulse}
use Rattle.item_spec.specs.declared.Location.{Location}
use Rattle.item_spec.specs.Many.{singles_after}
use Rattle.machine_spec.specs.declared.Machine.{Machine}
use Rattle.machine_spec.specs.declared.Did.{Did}
use Rattle.machine_spec.specs.Pins.{wires_of, sel_of}
use Rattle.machine_spec.specs.Machine.{wires}
use Rattle.machine_spec.specs.Step.{step_of, after_items}

-- Of an accepted state this alone is asked: "the chip is idle exactly while enable is 1", and otherwise its phase is in its ranges.
abbrev pub PhaseAccepted : Machine → Type 0
PhaseAccepted m = accepted_phase m.clock.store.chip m.clock.phase (wires m).enable ≡ true

-- ---- values written to a VIA register

unfoldable pub ports_after : ℕ → List ℕ → Ports → Ports
ports_after r [] p = p
ports_after r (v ∷ vs) p = ports_after r vs (ports_written r v p)

unfoldable pub via_after : ℕ → List ℕ → Via → Via
via_after r [] s = s
via_after r (v ∷ vs) s = via_after r vs (via_written r v s)

-- The clock compares its wires after each.
unfoldable pub clock_after : ℕ → List ℕ → Ports → Clock → Clock
clock_after r [] p c = c
clock_after r (v ∷ vs) p c =
    clock_after r vs (ports_written r v p) (step_wires c (wires_of p (shown_level c.phase)) (wires_of (ports_written r v p) (shown_level c.phase)))

-- Whether SEL has another level than this after one of them.
unfoldable pub moves_sel : ℕ → List ℕ → Ports → Bool → Bool
moves_sel r [] p sel = false
moves_sel r (v ∷ vs) p sel = cond (not (beq (eqb (sel_of (ports_written r v p)) 1) sel)) true (moves_sel r vs p sel)

-- The drives, their strobe spoilt or not.
abbrev pub spoilt_if : Bool → Drives → Drives
spoilt_if true d = with_strobe d no_strobe
spoilt_if false d = d

-- The single WR items: each writes one of the values, with no wait.
abbrev pub writes_of : ℕ → List ℕ → List Item
writes_of r [] = []
writes_of r (v ∷ vs) = WriteVia (for_ticks 0) r v ∷ writes_of r vs

-- ---- an item with its values

-- The VIA register that it writes its values to, if it does.
unfoldable pub register_written : Item → Option ℕ
register_written (ReadVia w r) = none
register_written (ReadIwm w k) = none
register_written (WriteVia w r v) = some r
register_written (WriteIwm w k v) = none
register_written (Blank w) = none
register_written (Second w) = none
register_written (Line w l v) = none
register_written (Sense w d r v) = none
register_written (Reset w) = none
register_written (Power w s) = none
register_written (Disk w d i l b) = none
register_written (Pulse w l) = none

-- The single items: of a WR one for each value, the first after its wait and the others with no wait; any other item is itself.
abbrev pub singles_with : Item → List ℕ → List Item
singles_with (ReadVia w r) vs = ReadVia w r ∷ []
singles_with (ReadIwm w k) vs = ReadIwm w k ∷ []
singles_with (WriteVia w r v) vs = singles_after (record { wait = w; to = Location.Via r }) w vs
singles_with (WriteIwm w k v) vs = singles_after (record { wait = w; to = Location.Iwm k }) w vs
singles_with (Blank w) vs = Blank w ∷ []
singles_with (Second w) vs = Second w ∷ []
singles_with (Line w l v) vs = Line w l v ∷ []
singles_with (Sense w d r v) vs = Sense w d r v ∷ []
singles_with (Reset w) vs = Reset w ∷ []
singles_with (Power w s) vs = Power w s ∷ []
singles_with (Disk w d i l b) vs = Disk w d i l b ∷ []
singles_with (Pulse w l) vs = Pulse w l ∷ []

-- What they do, and the value of the answer: "Final state and answer equal those of the last of the single WR items."
unfoldable pub step_with : Machine → Item → List ℕ → Did
step_with m i vs = record { machine = after_items m (singles_with i vs); value = (step_of m i).value }
