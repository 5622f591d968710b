-- One value more written, and none left; and the strobe where LSTRB is off.
use Prim.Native.Nat.{ℕ, ◌+◌, ◌≤◌, ◌<◌}
use mathlib.Core.Path.{◌≡◌, refl, sym, ap, ◌∙◌}
use mathlib.Core.Logic.{◌⊎◌, inl, inr, ⊎_elim}
use mathlib.Core.Bool.{Bool, true, false, not, ◌&&◌, ◌||◌, false≢true}
use mathlib.Core.List.{List, [], ◌∷◌}
use native.Mathlib.Numerals.{add-one}
use native.Mathlib.Omega.{arith}
use lib.Dec.{eqb}
use borrow.Author.Tests.{eqb-true}
use lib.ListN.{length, get_or, drop, drop_of_length-le}
use lib.Seq.{drop-cons}
use Rattle.units.specs.Units.{for_ticks}
use Rattle.via.specs.Via.{ticks}
use Rattle.via.specs.declared.Ports.{Ports}
use Rattle.via.specs.Writes.{ports_written, via_written}
use Rattle.clock_spec.specs.Phase.{shown_level, accepted_phase}
use Rattle.clock.specs.declared.Clock.{Clock}
use Rattle.clock.specs.Step.{step_wires}
use Rattle.clock.proofs.Keep.{still}
use Rattle.clock_spec.specs.declared.Wires.{Wires}
use Rattle.disk_lines.specs.declared.DiskLines.{DiskLines}
use Rattle.disk_lines.specs.Lines.{lstrb}
use Rattle.disk_spec.specs.Drive.{drive_ticks}
use Rattle.disk_spec.specs.Watched.{watched_of}
use Rattle.disk_spec.specs.declared.Strobe.{Strobe}
use Rattle.disk_spec.specs.Strobe.{no_strobe, strobe_ticks}
use Rattle.disk_spec.specs.Drives.{with_strobe, drives_ticks, drives_after, accepted_drives}
use Rattle.disk_spec.proofs.DrivesLaws.{drives-unlit, drives-untouched}
use Rattle.item_spec.specs.declared.Item.TheVariants.{WriteVia}
use Rattle.machine_spec.specs.declared.Machine.{Machine}
use Rattle.machine_spec.specs.Machine.{with_via, with_clock, with_drives, wires, strobe_levels, accepted_of}
use Rattle.machine_spec.specs.Pins.{wires_of, sel_of}
use Rattle.machine_spec.proofs.MachineLaws.{parts}
use Rattle.machine_spec.specs.Action.{acted_of}
use Rattle.machine_spec.specs.Stages.{item_wait, after_wires, after_strobe}
use Rattle.machine_spec.specs.Step.{step_of, after_items}
use Rattle.machine_write.specs.Values.{PhaseAccepted, writes_of}
use Rattle.machine_write.proofs.Looks.{phase-keeps, dark, looked-still, looked-dark}

-- ---- the strobe

neither : (a b : Bool) → (a || b) ≡ false → (a ≡ false) × (b ≡ false)
neither true b e = (e, absurd (false≢true (sym e)))
neither false b e = (refl, e)

-- With LSTRB off before and after, no strobe is left.
pub unstrobed : (d : DiskLines) (p : Ports) (m : Machine) {s : Strobe} → (eqb (lstrb d) 1 || eqb (lstrb m.disk) 1) ≡ false → s ≡ no_strobe
    → with_drives m (with_strobe m.drives s) ≡ after_strobe (watched_of d (sel_of p)) m
unfolding watched_of
unstrobed d p m off e =
    let q = neither (eqb (lstrb d) 1) (eqb (lstrb m.disk) 1) off in
    ap (λ (t : Strobe). with_drives m (with_strobe m.drives t)) e ∙ sym (ap (with_drives m) (dark (watched_of d (sel_of p)) (strobe_levels m) m.drives q.0 q.1))

-- Accepted drives hold none then, and the look leaves the machine as it was.
pub unlit : (d : DiskLines) (p : Ports) (m : Machine) → (eqb (lstrb d) 1 || eqb (lstrb m.disk) 1) ≡ false → accepted_drives (watched_of d (sel_of p)) m.drives ≡ true
    → m ≡ after_strobe (watched_of d (sel_of p)) m
unfolding watched_of
unlit d p m off h =
    let q = neither (eqb (lstrb d) 1) (eqb (lstrb m.disk) 1) off in
    sym (ap (with_drives m) (drives-unlit (watched_of d (sel_of p)) (strobe_levels m) m.drives q.0 q.1 h))

-- ---- the values

-- A WR with no wait.
pub write_step : (m : Machine) (r v : ℕ) → (step_of m (WriteVia (for_ticks 0) r v)).machine ≡ after_strobe (strobe_levels m) (after_wires (wires m) (with_via m (via_written r v m.via)))
unfolding step_of item_wait acted_of ticks drives_ticks drive_ticks strobe_ticks
write_step m r v = refl

-- By the code's test for any register but port B's, 0 and 2.
others : (x y : Bool) → (not x && not y) ≡ true → (x ≡ false) × (y ≡ false)
others false false h = (refl, refl)
others false true h = (refl, sym h)
others true y h = (sym h, absurd (false≢true h))

-- Another register moves no wire of the clock.
other-register : (r v : ℕ) (p : Ports) (line : Bool) → (not (eqb r 0) && not (eqb r 2)) ≡ true → wires_of (ports_written r v p) line ≡ wires_of p line
unfolding wires_of ports_written
other-register r v p line h = let n = others (eqb r 0) (eqb r 2) h in simp (n.0, n.1)

-- Port B and its direction move no SEL.
same-sel : (r v : ℕ) (p : Ports) → (not (eqb r 0) && not (eqb r 2)) ≡ false → sel_of (ports_written r v p) ≡ sel_of p
unfolding sel_of ports_written
same-sel r v p h = ⊎_elim (λ e. simp (eqb-true r 0 e)) (λ e. simp (eqb-true r 2 e)) (either (eqb r 0) (eqb r 2) h)
  where
    either : (x y : Bool) → (not x && not y) ≡ false → (x ≡ true) ⊎ (y ≡ true)
    either true y h = inl refl
    either false true h = inr refl
    either false false h = absurd (false≢true (sym h))

-- So the clock sees nothing of the one.
pub written-unclocked : (m : Machine) (r v : ℕ) → (not (eqb r 0) && not (eqb r 2)) ≡ true → PhaseAccepted m
    → (step_of m (WriteVia (for_ticks 0) r v)).machine ≡ after_strobe (strobe_levels m) (with_via m (via_written r v m.via))
unfolding via_written
written-unclocked m r v h a =
    let n = with_via m (via_written r v m.via) in
    write_step m r v
    ∙ ap (λ (w : Wires). after_strobe (strobe_levels m) (with_clock n (step_wires m.clock (wires m) w))) (other-register r v m.via.ports (shown_level m.clock.phase) h)
    ∙ ap (λ (c : Clock). after_strobe (strobe_levels m) (with_clock n c)) (still m.clock (wires m) a)

-- Nor does the strobe, with LSTRB off, where the machine is accepted.
pub written-alone : (m : Machine) (r v : ℕ) → (not (eqb r 0) && not (eqb r 2)) ≡ true → (strobe_levels m).lstrb ≡ false → accepted_of m ≡ true
    → (step_of m (WriteVia (for_ticks 0) r v)).machine ≡ with_via m (via_written r v m.via)
unfolding watched_of
written-alone m r v h off a =
    let n = with_via m (via_written r v m.via) in
    written-unclocked m r v h (parts m a).phase
    ∙ ap (with_drives n) (drives-unlit (strobe_levels m) (strobe_levels n) m.drives off off (parts m a).drives)

-- Of port B and its direction the clock sees its wires, and the strobe nothing, where the machine is accepted.
pub written-unstrobed : (m : Machine) (r v : ℕ) → (not (eqb r 0) && not (eqb r 2)) ≡ false → accepted_of m ≡ true
    → (step_of m (WriteVia (for_ticks 0) r v)).machine ≡ after_wires (wires m) (with_via m (via_written r v m.via))
unfolding via_written
written-unstrobed m r v h a =
    let n = after_wires (wires m) (with_via m (via_written r v m.via)) in
    write_step m r v
    ∙ ap (λ (k : ℕ). with_drives n (drives_after (strobe_levels m) (watched_of m.disk k) m.drives)) (same-sel r v m.via.ports h)
    ∙ ap (with_drives n) (drives-untouched (strobe_levels m) m.drives (parts m a).drives)

-- ---- the strobe looks once for all values, where they leave LSTRB off or move no level that it goes by

-- The strobe's look at levels that stay.
abbrev pub look : Machine → Machine
look m = after_strobe (strobe_levels m) m

pub look-phase : (m n : Machine) (r v : ℕ) → PhaseAccepted m → look n ≡ (step_of m (WriteVia (for_ticks 0) r v)).machine → PhaseAccepted n
look-phase m n r v h e =
    ap (λ (x : Machine). accepted_phase x.clock.store.chip x.clock.phase (wires x).enable) e ∙ phase-keeps m (WriteVia (for_ticks 0) r v) h

-- With LSTRB off.
written-dark : (m : Machine) (r v : ℕ) → (not (eqb r 0) && not (eqb r 2)) ≡ true → (strobe_levels m).lstrb ≡ false → PhaseAccepted m
    → (step_of m (WriteVia (for_ticks 0) r v)).machine ≡ look (with_via m (via_written r v m.via))
unfolding watched_of
written-dark m r v h off a =
    let n = with_via m (via_written r v m.via) in
    written-unclocked m r v h a
    ∙ ap (with_drives n) (dark (strobe_levels m) (strobe_levels n) m.drives off off ∙ sym (dark (strobe_levels n) (strobe_levels n) m.drives off off))

pub dark-next : (m : Machine) (r v : ℕ) → (not (eqb r 0) && not (eqb r 2)) ≡ true → (strobe_levels m).lstrb ≡ false → PhaseAccepted m
    → look (with_via m (via_written r v m.via)) ≡ (step_of (look m) (WriteVia (for_ticks 0) r v)).machine
unfolding watched_of
dark-next m r v h off a =
    let n = with_via m (via_written r v m.via) in
    sym (written-dark (look m) r v h off a ∙ ap (with_drives n) (looked-dark (strobe_levels m) (strobe_levels n) m.drives off off))

pub dark-first : (m : Machine) (r v : ℕ) → (not (eqb r 0) && not (eqb r 2)) ≡ true → (strobe_levels m).lstrb ≡ false → PhaseAccepted m
    → (step_of (look m) (WriteVia (for_ticks 0) r v)).machine ≡ (step_of m (WriteVia (for_ticks 0) r v)).machine
dark-first m r v h off a = sym (dark-next m r v h off a) ∙ sym (written-dark m r v h off a)

-- Port B and its direction.
written-port : (m : Machine) (r v : ℕ) → (not (eqb r 0) && not (eqb r 2)) ≡ false
    → (step_of m (WriteVia (for_ticks 0) r v)).machine ≡ look (after_wires (wires m) (with_via m (via_written r v m.via)))
unfolding via_written
written-port m r v h =
    let n = after_wires (wires m) (with_via m (via_written r v m.via)) in
    write_step m r v
    ∙ ap (λ (k : ℕ). with_drives n (drives_after (watched_of m.disk k) (strobe_levels n) m.drives)) (sym (same-sel r v m.via.ports h))

pub port-next : (m : Machine) (r v : ℕ) → (not (eqb r 0) && not (eqb r 2)) ≡ false
    → look (after_wires (wires m) (with_via m (via_written r v m.via))) ≡ (step_of (look m) (WriteVia (for_ticks 0) r v)).machine
unfolding via_written
port-next m r v h =
    let n = after_wires (wires m) (with_via m (via_written r v m.via)) in
    sym (written-port (look m) r v h
    ∙ ap (with_drives n) (looked-still (strobe_levels m) (strobe_levels n) m.drives (ap (watched_of m.disk) (sym (same-sel r v m.via.ports h)))))

pub port-first : (m : Machine) (r v : ℕ) → (not (eqb r 0) && not (eqb r 2)) ≡ false
    → (step_of (look m) (WriteVia (for_ticks 0) r v)).machine ≡ (step_of m (WriteVia (for_ticks 0) r v)).machine
port-first m r v h = sym (port-next m r v h) ∙ sym (written-port m r v h)

-- Where a look before the first value is none, the values leave what they leave without it.
pub looked-first : (m : Machine) (r : ℕ) (vs : List ℕ) → 0 < length vs
    → ((v : ℕ) → (step_of (look m) (WriteVia (for_ticks 0) r v)).machine ≡ (step_of m (WriteVia (for_ticks 0) r v)).machine)
    → after_items (look m) (writes_of r vs) ≡ after_items m (writes_of r vs)
looked-first m r [] h f = absurd (omega arith)
looked-first m r (v ∷ vs) h f = ap (λ (n : Machine). after_items n (writes_of r vs)) (f v)

module _ (r : ℕ) (vs : List ℕ) (i : ℕ) (m : Machine) where
  pub write_next : i < length vs → (n : Machine) → n ≡ (step_of m (WriteVia (for_ticks 0) r (get_or vs i 0))).machine
      → after_items n (writes_of r (drop (i + 1) vs)) ≡ after_items m (writes_of r (drop i vs))
  write_next h n e =
      ap (λ (x : Machine). after_items x (writes_of r (drop (i + 1) vs))) e
      ∙ ap (λ (l : List ℕ). after_items m (writes_of r l)) (sym (drop-cons vs i 0 h ∙ ap (λ (j : ℕ). get_or vs i 0 ∷ drop j vs) (sym (add-one i))))

  pub write_end : length vs ≤ i → after_items m (writes_of r (drop i vs)) ≡ m
  write_end h = ap (λ (l : List ℕ). after_items m (writes_of r l)) (drop_of_length-le vs h)
