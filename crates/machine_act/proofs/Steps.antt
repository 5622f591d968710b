-- A step's parts one after the other, on plain values: the wait, the action or the values, and what the clock and the strobe see.
use Prim.Native.Nat.{ℕ, ◌<◌}
use mathlib.Core.Path.{◌≡◌, refl, sym, ap, ap₂, subst, ◌∙◌}
use mathlib.Core.Bool.{Bool, true}
use mathlib.Core.List.{List}
use mathlib.Core.Option.{none}
use lib.ListN.{length}
use Rattle.units.specs.declared.WaitTicks.{WaitTicks}
use Rattle.via.specs.Via.{raised_of, reset_of, fresh_via}
use Rattle.via.specs.Registers.{register_read}
use Rattle.via.proofs.Accepted.{ticks-accepted}
use Rattle.clock_spec.specs.declared.Wires.{Wires}
use Rattle.clock_spec.specs.Phase.{edge_of, between, accepted_phase}
use Rattle.clock_spec.specs.declared.Phase.TheVariants.{Idle}
use Rattle.clock_spec.specs.Store.{act}
use Rattle.clock.specs.declared.Clock.{Clock}
use Rattle.clock.specs.Step.{with_phase, next, acts, step_wires, after_edge}
use Rattle.clock.proofs.Keep.{still}
use Rattle.disk_spec.specs.declared.Watched.{Watched}
use Rattle.disk_spec.specs.Drives.{drives_ticks, accepted_drives}
use Rattle.disk_spec.proofs.DrivesLaws.{drives_ticks-accepted}
use Rattle.item_spec.specs.declared.Item.{Item}
use Rattle.item_spec.specs.declared.Item.TheVariants.{ReadVia, ReadIwm, WriteVia, WriteIwm, Blank, Second, Line, Sense, Reset, Power, Disk, Pulse}
use Rattle.item_spec.specs.declared.Location.TheVariants.{Via}
use Rattle.machine_spec.specs.declared.Machine.{Machine}
use Rattle.machine_spec.specs.Machine.{with_clock, wires, strobe_levels, Levels, accepted_of}
use Rattle.machine_spec.specs.Pins.{wires_of}
use Rattle.machine_spec.specs.Accesses.{via_read, iwm_read}
use Rattle.machine_spec.proofs.Step.{pulse-quiet}
use Rattle.machine_act.specs.Idle.{idled_by}
use Rattle.machine_spec.specs.Action.{acted_of}
use Rattle.machine_spec.specs.Stages.{item_wait, after_wait, after_wires, after_strobe}
use Rattle.machine_spec.specs.Step.{step_of, after_items}
use Rattle.machine_spec.proofs.MachineLaws.{parts, whole}
use Rattle.machine_spec.proofs.Action.{acted-accepted}
use Rattle.machine_spec.proofs.ActionKeeps.{act-keeps-drives}
use Rattle.machine_spec.proofs.Stages.{waited-wires, waited-watched}
use Rattle.machine_write.specs.Values.{PhaseAccepted, writes_of, register_written, step_with}
use Rattle.machine_write.proofs.Apart.{waited, singles-writes}

-- A wait keeps an accepted state accepted.
pub wait-accepted : (n : ℕ) (m : Machine) → accepted_of m ≡ true → accepted_of (after_wait n m) ≡ true
wait-accepted n m h =
    let p = parts m h in
    whole (after_wait n m)
    (record {
      levels = p.levels;
      via = ticks-accepted n m.via p.via;
      phase = ap (λ (w : Wires). accepted_phase m.clock.store.chip m.clock.phase w.enable) (waited-wires n m) ∙ p.phase;
      unused = p.unused;
      drives = ap (λ (w : Watched). accepted_drives w (drives_ticks n m.drives)) (waited-watched n m) ∙ drives_ticks-accepted n (strobe_levels m) m.drives p.drives;
    })

-- Of the kinds but WR to a VIA register, none writes to one.
pub kinds-unwritten : (i : Item) → ((w : WaitTicks) (r v : ℕ) → i ≡ WriteVia w r v → ⊥) → register_written i ≡ none
unfolding register_written
kinds-unwritten (ReadVia w r) h = refl
kinds-unwritten (ReadIwm w k) h = refl
kinds-unwritten (WriteVia w r v) h = absurd (h w r v refl)
kinds-unwritten (WriteIwm w k v) h = refl
kinds-unwritten (Blank w) h = refl
kinds-unwritten (Second w) h = refl
kinds-unwritten (Line w l v) h = refl
kinds-unwritten (Sense w d r v) h = refl
kinds-unwritten (Reset w) h = refl
kinds-unwritten (Power w s) h = refl
kinds-unwritten (Disk w d i l b) h = refl
kinds-unwritten (Pulse w l) h = refl

-- The values written, after the wait.
pub written : (m : Machine) (w : WaitTicks) (r v : ℕ) (vs : List ℕ) → 0 < length vs → after_items (after_wait w.0 m) (writes_of r vs) ≡ (step_with m (WriteVia w r v) vs).machine
unfolding step_with
written m w r v vs h = sym (waited m (record { wait = w; to = Via r }) w vs h ∙ ap (after_items (after_wait w.0 m)) (singles-writes w r vs))

pub written-value : (m : Machine) (w : WaitTicks) (r v : ℕ) (vs : List ℕ) → 0 ≡ (step_with m (WriteVia w r v) vs).value
unfolding step_with step_of acted_of
written-value m w r v vs = refl

-- Once enable is up the clock is idle, whatever it did.
enabled-idle : (c : Clock) (w w' : Wires) → w'.enable ≡ true → step_wires c w w' ≡ with_phase c Idle
unfolding step_wires between after_edge next acts act
enabled-idle c w w' h = ap (λ (e : Bool). after_edge c (edge_of e w.enable w.dataclock w'.dataclock w'.dataline)) h

-- What the clock sees of an action that is no write to a VIA register.
clock-sees : (x : Machine) (i : Item) → ((w : WaitTicks) (r v : ℕ) → i ≡ WriteVia w r v → ⊥) → PhaseAccepted x
    → after_wires (wires x) (acted_of x i).machine ≡ with_clock (acted_of x i).machine (idled_by i (acted_of x i).machine.clock)
unfolding acted_of via_read iwm_read register_read raised_of reset_of fresh_via wires_of
clock-sees x (ReadVia w r) h a = ap (with_clock (acted_of x (ReadVia w r)).machine) (still x.clock (wires x) a)
clock-sees x (ReadIwm w k) h a = ap (with_clock (acted_of x (ReadIwm w k)).machine) (still x.clock (wires x) a)
clock-sees x (WriteVia w r v) h a = absurd (h w r v refl)
clock-sees x (WriteIwm w k v) h a = ap (with_clock (acted_of x (WriteIwm w k v)).machine) (still x.clock (wires x) a)
clock-sees x (Blank w) h a = ap (with_clock (acted_of x (Blank w)).machine) (still x.clock (wires x) a)
clock-sees x (Second w) h a = let z = (acted_of x (Second w)).machine in ap (with_clock z) (still z.clock (wires x) a)
clock-sees x (Line w l v) h a = ap (with_clock (acted_of x (Line w l v)).machine) (still x.clock (wires x) a)
clock-sees x (Sense w d r v) h a = ap (with_clock (acted_of x (Sense w d r v)).machine) (still x.clock (wires x) a)
clock-sees x (Reset w) h a = let z = (acted_of x (Reset w)).machine in ap (with_clock z) (enabled-idle z.clock (wires x) (wires z) refl)
clock-sees x (Power w s) h a = let z = (acted_of x (Power w s)).machine in ap (with_clock z) (enabled-idle z.clock (wires x) (wires z) refl)
clock-sees x (Disk w d i l b) h a = ap (with_clock (acted_of x (Disk w d i l b)).machine) (still x.clock (wires x) a)
clock-sees x (Pulse w l) h a =
    let z = (acted_of x (Pulse w l)).machine in
    ap (λ (u : Wires). with_clock z (step_wires z.clock (wires x) u)) (pulse-quiet w l x).0
    ∙ ap (with_clock z) (still z.clock (wires x) (acted-accepted x (Pulse w l) (wires x).enable ∙ a))

-- x is the machine after the wait, y after the action, z after the looks.
module _ (m x : Machine) (i : Item) (at : x ≡ after_wait (item_wait i) m) where
  pub levelled : Levels m → Levels x
  levelled h = subst Levels (sym at) h

  pub phased : PhaseAccepted m → PhaseAccepted x
  phased h =
      ap (λ (n : Machine). accepted_phase n.clock.store.chip n.clock.phase (wires n).enable) at
      ∙ ap (λ (w : Wires). accepted_phase m.clock.store.chip m.clock.phase w.enable) (waited-wires (item_wait i) m) ∙ h

  -- y is the machine after the action and what the clock makes of it
  module _ (ok : PhaseAccepted m) (none : (w : WaitTicks) (r v : ℕ) → i ≡ WriteVia w r v → ⊥) (v : Watched) (f : v ≡ strobe_levels x) (y : Machine)
      (a : y ≡ with_clock (acted_of x i).machine (idled_by i (acted_of x i).machine.clock)) where
    pub stepped : {z : Machine} {k : ℕ} → z ≡ after_strobe v y → k ≡ (acted_of x i).value → record { machine = z; value = k } ≡ step_of m i
    unfolding step_of
    stepped {z} {k} g h =
        let s = after_wait (item_wait i) m in
        let watched : v ≡ strobe_levels m = f ∙ ap strobe_levels at ∙ waited-watched (item_wait i) m in
        let seen : y ≡ after_wires (wires m) (acted_of s i).machine =
        a ∙ sym (clock-sees x i none (phased ok))
        ∙ ap₂ (λ (w : Wires) (n : Machine). after_wires w (acted_of n i).machine) (ap wires at ∙ waited-wires (item_wait i) m) at in
        ap₂ (λ (n : Machine) (j : ℕ). record { machine = n; value = j })
        (g ∙ ap₂ (λ (w : Watched) (n : Machine). after_strobe w n) watched seen)
        (h ∙ ap (λ (n : Machine). (acted_of n i).value) at)

  -- Where m is accepted, so is x, and the drives of y are so by the levels before the action.
  module _ (ok : accepted_of m ≡ true) where
    pub ready : accepted_of x ≡ true
    ready = ap accepted_of at ∙ wait-accepted (item_wait i) m ok

    module _ (none : (w : WaitTicks) (r v : ℕ) → i ≡ WriteVia w r v → ⊥) (v : Watched) (f : v ≡ strobe_levels x) (y : Machine)
        (a : y ≡ with_clock (acted_of x i).machine (idled_by i (acted_of x i).machine.clock)) where
      pub met : accepted_drives v y.drives ≡ true
      met = ap₂ (λ (n : Machine) (w : Watched). accepted_drives w n.drives) a f ∙ act-keeps-drives x i (strobe_levels x) (parts x ready).drives
