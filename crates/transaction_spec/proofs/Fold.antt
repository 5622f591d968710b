-- A transaction's items one after the other, from any machine.
use Prim.Native.Nat.{ℕ, ◌/◌, ◌%◌, ◌<◌}
use mathlib.Core.Path.{◌≡◌, refl, ap, ap₂, ◌∙◌}
use mathlib.Core.Bool.{Bool, true, false, cond}
use mathlib.Core.List.{List, [], ◌∷◌}
use mathlib.Core.Option.{some}
use lib.Dec.{eqb}
use Rattle.units.specs.Units.{for_ticks}
use Rattle.clock_spec.specs.Store.{act}
use Rattle.clock_spec.specs.Phase.{edge_of, between, shown_level}
use Rattle.clock_spec.specs.declared.Target.{Target}
use Rattle.clock_spec.specs.declared.Store.{Store}
use Rattle.clock_spec.specs.declared.Phase.{Phase}
use Rattle.clock_spec.specs.declared.Phase.TheVariants.{Idle}
use Rattle.clock_spec.specs.declared.Wires.{Wires}
use Rattle.clock.specs.declared.Clock.{Clock}
use Rattle.clock.specs.Step.{next, acts, step_wires}
use Rattle.via.specs.Via.{ticks}
use Rattle.via.specs.Writes.{ports_written, timer1_written, timer2_written, flags_written, via_written}
use Rattle.via.specs.Registers.{register_read, flags_read}
use Rattle.disk_spec.specs.declared.Drives.{Drives}
use Rattle.disk_spec.specs.Drive.{drive_ticks}
use Rattle.disk_spec.specs.Strobe.{strobe_ticks}
use Rattle.disk_spec.specs.Drives.{drives_ticks, accepted_drives}
use Rattle.disk_spec.proofs.DrivesLaws.{drives-untouched}
use Rattle.item_spec.specs.declared.Item.{Item}
use Rattle.item_spec.specs.declared.Item.TheVariants.{ReadVia, WriteVia}
use Rattle.machine_spec.specs.declared.Machine.{Machine}
use Rattle.machine_spec.specs.Machine.{with_clock, with_drives, wires, strobe_levels}
use Rattle.machine_spec.specs.Pins.{wires_of, sel_of}
use Rattle.machine_spec.specs.Accesses.{via_read}
use Rattle.machine_spec.specs.Action.{acted_of}
use Rattle.machine_spec.specs.Stages.{item_wait, after_wires, after_strobe}
use Rattle.machine_spec.specs.Step.{step_of}
use Rattle.transaction_spec.specs.Promise.{bare}
use Rattle.transaction_spec.specs.declared.Act.{Act}
use Rattle.transaction_spec.specs.declared.Act.TheVariants.{Port, Side, Look}
use Rattle.transaction_spec.specs.Acts.{out_at, dir_at, item_of, items, opening, acts_by}
use Rattle.transaction_spec.proofs.Pins.{pins, out-high}
use Rattle.transaction_spec.proofs.Chip.{Held, held, after, moved, ran, Means, body, wrote, read}

abbrev pub at : Machine → ℕ → ℕ → Held → Machine
at m q r h = bare m (out_at q h.e h.c h.b) (dir_at r h.x) h.phase h.store

-- ---- one item

-- A write of register 0 or 2, and a read of register 0, with no wait: the ports' bytes, then the clock and the strobe compare.
module _ (m : Machine) (o d v : ℕ) (p : Phase) (s : Store) where
  abbrev from : Machine
  from = bare m o d p s

  port-step : (step_of from (WriteVia (for_ticks 0) 0 v)).machine ≡ after_strobe (strobe_levels from) (after_wires (wires from) (bare m v d p s))
  unfolding step_of acted_of item_wait ticks drives_ticks drive_ticks strobe_ticks via_written ports_written timer1_written timer2_written flags_written
  port-step = refl

  side-step : (step_of from (WriteVia (for_ticks 0) 2 v)).machine ≡ after_strobe (strobe_levels from) (after_wires (wires from) (bare m o v p s))
  unfolding step_of acted_of item_wait ticks drives_ticks drive_ticks strobe_ticks via_written ports_written timer1_written timer2_written flags_written
  side-step = refl

  look-step : (step_of from (ReadVia (for_ticks 0) 0)).machine ≡ after_strobe (strobe_levels from) (after_wires (wires from) from)
  unfolding step_of acted_of item_wait ticks drives_ticks drive_ticks strobe_ticks via_read register_read flags_read
  look-step = refl

-- The strobe sees no level move: port B is not watched.
strobe-still : (m : Machine) (o d o' d' : ℕ) (p p' : Phase) (s s' : Store) → accepted_drives (strobe_levels m) m.drives ≡ true
    → after_strobe (strobe_levels (bare m o d p s)) (bare m o' d' p' s') ≡ bare m o' d' p' s'
unfolding sel_of
strobe-still m o d o' d' p p' s s' h = ap (λ (x : Drives). with_drives (bare m o' d' p' s') x) (drives-untouched (strobe_levels m) m.drives h)

module _ (m : Machine) (q r : ℕ) (ok : accepted_drives (strobe_levels m) m.drives ≡ true) where
  settle : (h : Held) (e c b x : Bool)
      → after_strobe (strobe_levels (at m q r h)) (after_wires (wires (at m q r h)) (bare m (out_at q e c b) (dir_at r x) h.phase h.store)) ≡ at m q r (after h e c b x)
  unfolding step_wires between
  settle h e c b x =
      ap₂
      (λ (w w' : Wires). after_strobe (strobe_levels (at m q r h)) (with_clock (bare m (out_at q e c b) (dir_at r x) h.phase h.store) (step_wires (record { phase = h.phase; store = h.store }) w w')))
      (pins m.via.ports q r h.e h.c h.b h.x (shown_level h.phase))
      (pins m.via.ports q r e c b x (shown_level h.phase))
      ∙ strobe-still m _ _ (out_at q e c b) (dir_at r x) h.phase (after h e c b x).phase h.store (after h e c b x).store ok

  pub step-at : (h : Held) (a : Act) → (step_of (at m q r h) (item_of q r a)).machine ≡ at m q r (moved h a)
  step-at h (Port e c b) = port-step m _ _ _ h.phase h.store ∙ settle h e c b h.x
  step-at h (Side x) = side-step m _ _ _ h.phase h.store ∙ settle h h.e h.c h.b x
  step-at h Look = look-step m _ _ 0 h.phase h.store ∙ settle h h.e h.c h.b h.x

-- ---- the opening: enable stays up, whatever the directions were

up : (c : Clock) (w w' : Wires) → w'.enable ≡ true → step_wires c w w' ≡ record { phase = Idle; store = c.store }
unfolding step_wires between next acts act
up c w w' h =
    ap
    (λ (e : Bool). record {
      phase = next c.store c.phase (edge_of e w.enable w.dataclock w'.dataclock w'.dataline);
      store = act (acts c.store.chip c.phase (edge_of e w.enable w.dataclock w'.dataclock w'.dataline)) c.store;
    })
    h

either_up : (t : Bool) (e : Bool) → e ≡ true → cond t e true ≡ true
either_up true e h = h
either_up false e h = refl

-- The enable pin is up where its output bit is 1, whatever the direction.
pin-up : (m : Machine) (q d : ℕ) (p : Phase) (s : Store) → (wires (bare m (out_at q true false false) d p s)).enable ≡ true
unfolding wires_of
pin-up m q d p s = either_up (eqb (d / 4 % 2) 1) _ (out-high q true false false)

abbrev pub folded : Machine → List Item → Machine
folded m [] = m
folded m (i ∷ rest) = folded (step_of m i).machine rest

module _ (m : Machine) (q r : ℕ) (ok : accepted_drives (strobe_levels m) m.drives ≡ true) where
  raised : (o d o' d' : ℕ) (p : Phase) (s : Store) → (wires (bare m o' d' p s)).enable ≡ true
      → after_strobe (strobe_levels (bare m o d p s)) (after_wires (wires (bare m o d p s)) (bare m o' d' p s)) ≡ bare m o' d' Idle s
  raised o d o' d' p s h =
      ap (λ (c : Clock). after_strobe (strobe_levels (bare m o d p s)) (with_clock (bare m o' d' p s) c))
      (up (record { phase = p; store = s }) (wires (bare m o d p s)) (wires (bare m o' d' p s)) h)
      ∙ strobe-still m o d o' d' p Idle s s ok

  pub opened : folded m (items q r opening) ≡ at m q r (held true false false true Idle m.clock.store)
  opened =
      let o = m.via.ports.outb in
      let d = m.via.ports.dirb in
      let v = out_at q true false false in
      let p = m.clock.phase in
      let s = m.clock.store in
      ap (λ (x : Machine). (step_of x (WriteVia (for_ticks 0) 2 (dir_at r true))).machine)
      (port-step m o d v p s ∙ raised o d v d p s (pin-up m q d p s))
      ∙ side-step m v d (dir_at r true) Idle s
      ∙ raised v d v (dir_at r true) Idle s (pin-up m q (dir_at r true) Idle s)

  fold_at : (h : Held) (xs : List Act) → folded (at m q r h) (items q r xs) ≡ at m q r (ran h xs)
  fold_at h [] = refl
  fold_at h (a ∷ xs) = ap (λ (x : Machine). folded x (items q r xs)) (step-at m q r ok h a) ∙ fold_at (moved h a) xs

  -- ---- whole transactions
  pub write-folds : (l : Bool) (c e d : ℕ) (t : Target) → c < 256 → e < 256 → d < 256 → Means m.clock.store.chip l false c e t
      → folded m (items q r (acts_by false l c e d))
      ≡ at m q r (held true true false true Idle (act (some (record { to = t; byte = d })) m.clock.store))
  write-folds l c e d t h k g n =
      ap (λ (x : Machine). folded x (items q r (body false l c e d))) opened
      ∙ fold_at (held true false false true Idle m.clock.store) (body false l c e d)
      ∙ ap (at m q r) (wrote m.clock.store l c e d t h k g n)

  pub read-folds : (l : Bool) (c e d : ℕ) (t : Target) → c < 256 → e < 256 → Means m.clock.store.chip l true c e t
      → folded m (items q r (acts_by true l c e d)) ≡ at m q r (held true true false false Idle m.clock.store)
  read-folds l c e d t h k n =
      ap (λ (x : Machine). folded x (items q r (body true l c e d))) opened
      ∙ fold_at (held true false false true Idle m.clock.store) (body true l c e d)
      ∙ ap (at m q r) (read m.clock.store l c e d t h k n).0
