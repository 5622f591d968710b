-- What a wait leaves of the lines, what is left where no line has moved, which items no state refuses, and DI's refusal 8.
use Prim.Native.Nat.{ℕ}
use mathlib.Core.Path.{◌≡◌, refl, ap, ap₂, ◌∙◌}
use mathlib.Core.Bool.{true}
use mathlib.Core.List.{List, [], ◌∷◌}
use lib.Dec.{eqb}
use types.Run.{OneOf, miss}
use denote.Enum.Declared.{tag_of}
use Rattle.units.specs.declared.WaitTicks.{WaitTicks}
use Rattle.via.specs.declared.Ports.{Ports}
use Rattle.via.proofs.Kept.{ticks-ports}
use Rattle.clock_spec.specs.declared.Wires.{Wires}
use Rattle.clock.specs.declared.Clock.{Clock}
use Rattle.clock_spec.specs.Phase.{accepted_phase, shown_level}
use Rattle.clock.specs.Step.{step_wires}
use Rattle.clock.proofs.Keep.{still}
use Rattle.machine_spec.specs.Pins.{wires_of, sel_of}
use Rattle.disk_spec.specs.Watched.{watched_of}
use Rattle.disk_spec.specs.declared.Watched.{Watched}
use Rattle.disk_spec.specs.declared.Drives.{Drives}
use Rattle.disk_spec.specs.Drives.{accepted_drives, drives_after, place_refused}
use Rattle.disk_spec.proofs.DrivesLaws.{drives-untouched}
use Rattle.std.specs.Prelude.{Some, None}
use Rattle.refusal.specs.declared.Refusal.TheVariants.{DiskMismatch}
use Rattle.item_spec.specs.declared.Item.{Item}
use Rattle.item_spec.specs.declared.Item.TheVariants.{ReadVia, ReadIwm, WriteVia, WriteIwm, Blank, Second, Line, Sense, Reset, Power, Disk, Pulse}
use Rattle.item_spec.specs.contracts.Item.{the_type}
use Rattle.machine_spec.specs.declared.Machine.{Machine}
use Rattle.machine_spec.specs.Machine.{with_clock, with_drives, wires, strobe_levels}
use Rattle.machine_spec.specs.Stages.{after_wait, after_wires, after_strobe, refuses_of}

-- A wait moves no line.
pub waited-wires : (n : ℕ) (m : Machine) → wires (after_wait n m) ≡ wires m
waited-wires n m = ap (λ (p : Ports). wires_of p (shown_level m.clock.phase)) (ticks-ports n m.via)

pub waited-watched : (n : ℕ) (m : Machine) → strobe_levels (after_wait n m) ≡ strobe_levels m
waited-watched n m = ap (λ (p : Ports). watched_of m.disk (sel_of p)) (ticks-ports n m.via)

-- Where every line is as before, the clock and the strobe change nothing.
pub unmoved : (m : Machine) (w : Wires) (v : Watched) → wires m ≡ w → strobe_levels m ≡ v
    → accepted_phase m.clock.store.chip m.clock.phase w.enable ≡ true → accepted_drives v m.drives ≡ true
    → after_strobe v (after_wires w m) ≡ m
unmoved m w v p q h k =
    ap₂ (λ (x : Wires) (y : Watched). with_drives (with_clock m (step_wires m.clock w x)) (drives_after v y m.drives)) p q
    ∙ ap₂ (λ (c : Clock) (d : Drives). with_drives (with_clock m c) d) (still m.clock w h) (drives-untouched v m.drives k)

-- No state refuses an item of another kind than DI.
abbrev unrefused-kinds : List ℕ
unrefused-kinds = 0 ∷ 1 ∷ 2 ∷ 3 ∷ 4 ∷ 5 ∷ 6 ∷ 7 ∷ 8 ∷ 9 ∷ 11 ∷ []

pub kinds-unrefused : (m : Machine) (i : Item) → OneOf unrefused-kinds (tag_of the_type i) → None ≡ refuses_of m i
unfolding refuses_of
kinds-unrefused m (ReadVia w r) h = refl
kinds-unrefused m (ReadIwm w k) h = refl
kinds-unrefused m (WriteVia w r v) h = refl
kinds-unrefused m (WriteIwm w k v) h = refl
kinds-unrefused m (Blank w) h = refl
kinds-unrefused m (Second w) h = refl
kinds-unrefused m (Line w l v) h = refl
kinds-unrefused m (Sense w d r v) h = refl
kinds-unrefused m (Reset w) h = refl
kinds-unrefused m (Power w s) h = refl
kinds-unrefused m (Disk w d i l b) h = absurd (miss unrefused-kinds 10 tt h)
kinds-unrefused m (Pulse w l) h = refl

-- "Inserting where a disk is, or removing where none is, gets refusal 8."
pub clash : (m : Machine) (w : WaitTicks) (d i l b : ℕ) → place_refused (eqb d 1) (eqb i 1) m.drives ≡ true → refuses_of m (Disk w d i l b) ≡ Some DiskMismatch
unfolding refuses_of
clash m w d i l b h = simp h
