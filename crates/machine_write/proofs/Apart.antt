-- The values of one record, written as single WR items: what they leave of each part of the machine, part by part.
use Prim.Native.Nat.{ℕ, ◌+◌, ◌-◌, ◌*◌, ◌/◌, ◌%◌, ◌^◌, ◌≤◌, ◌<◌}
use mathlib.Core.Path.{◌≡◌, refl, sym, ap, ap₂, ◌∙◌}
use mathlib.Core.Bool.{Bool, true, false, not, ◌&&◌}
use mathlib.Core.List.{List, [], ◌∷◌}
use mathlib.Core.Option.{none, some, none-ne-some, some-ne-none, some-injective}
use native.Mathlib.Omega.{arith}
use native.Mathlib.Nat.{one-mul, add-mul, mod-lt, mod-le, div-add-mod', div-eq_of_lt-le}
use lib.Dec.{eqb}
use lib.Pow.{pow_pos}
use lib.ListN.{length}
use Rattle.units.specs.Units.{for_ticks}
use Rattle.units.specs.declared.WaitTicks.{WaitTicks}
use Rattle.via.specs.declared.Ports.{Ports}
use Rattle.via.specs.Via.{ticks}
use Rattle.via.specs.Writes.{via_written}
use Rattle.clock_spec.specs.declared.Wires.{Wires}
use Rattle.clock.specs.declared.Clock.{Clock}
use Rattle.clock.specs.Step.{step_wires}
use Rattle.clock.proofs.Keep.{still}
use Rattle.disk_lines.specs.declared.DiskLines.{DiskLines}
use Rattle.disk_lines.specs.Lines.{with_level, after_access}
use Rattle.disk_spec.specs.declared.Drives.{Drives}
use Rattle.disk_spec.specs.declared.Watched.{Watched}
use Rattle.disk_spec.specs.Drive.{drive_ticks}
use Rattle.disk_spec.specs.Strobe.{strobe_ticks, no_strobe}
use Rattle.disk_spec.specs.Watched.{watched_of}
use Rattle.disk_spec.specs.Drives.{with_strobe, drives_ticks, drives_after}
use Rattle.item_spec.specs.declared.Item.{Item}
use Rattle.item_spec.specs.declared.Item.TheVariants.{ReadVia, ReadIwm, WriteVia, WriteIwm, Blank, Second, Line, Sense, Reset, Power, Disk, Pulse}
use Rattle.item_spec.specs.Items.{ItemInRange}
use Rattle.item_spec.specs.declared.Many.{Many}
use Rattle.item_spec.specs.declared.Location.{Location}
use Rattle.item_spec.specs.declared.Location.TheVariants.{Via, Iwm}
use Rattle.item_spec.specs.Items.{write_to}
use Rattle.item_spec.specs.Many.{single, singles_after}
use Rattle.machine_spec.specs.declared.Machine.{Machine}
use Rattle.machine_spec.specs.Pins.{sel_of}
use Rattle.machine_spec.specs.Machine.{with_via, with_clock, with_drives, wires, strobe_levels}
use Rattle.machine_spec.specs.Action.{acted_of}
use Rattle.machine_spec.specs.Stages.{item_wait, after_wait, after_wires, after_strobe}
use Rattle.machine_spec.specs.Step.{step_of, after_items}
use Rattle.machine_spec.proofs.Stages.{waited-wires, waited-watched}
use Rattle.machine_write.specs.Values.{PhaseAccepted, ports_after, moves_sel, spoilt_if, via_after, clock_after, writes_of, register_written, step_with}
use Rattle.machine_write.proofs.Looks.{phase-keeps, settled}
use Rattle.machine_write.proofs.Values.{clock-still, via-ports}
use Rattle.machine_write.proofs.Strobes.{strobes_after, strobes-lit, lit-step}

-- ---- a VIA register

-- The VIA, the clock and the drives go their own ways.
abbrev pub apart_of : ℕ → List ℕ → Machine → Machine
apart_of r vs m =
    record {
      via = via_after r vs m.via;
      clock = clock_after r vs m.via.ports m.clock;
      disk = m.disk;
      inputs = m.inputs;
      sense = m.sense;
      drives = strobes_after r vs m.disk m.via.ports m.drives;
    }

pub via-apart : (w : WaitTicks) (r : ℕ) (vs : List ℕ) (m : Machine) → after_items m (singles_after (record { wait = w; to = Via r }) (for_ticks 0) vs) ≡ apart_of r vs m
unfolding step_of item_wait acted_of ticks drives_ticks drive_ticks strobe_ticks via_written via_after clock_after strobes_after
via-apart w r [] m = refl
via-apart w r (v ∷ vs) m = via-apart w r vs (step_of m (WriteVia (for_ticks 0) r v)).machine

-- ---- the wait

-- A WR after a wait is the wait, and then the WR with none.
wait-apart : (m : Machine) (x : Many) (w : WaitTicks) (v : ℕ) → (step_of (after_wait w.0 m) (single x (for_ticks 0) v)).machine ≡ (step_of m (single x w v)).machine
unfolding step_of item_wait acted_of ticks drives_ticks drive_ticks strobe_ticks
wait-apart m x w v = go x.to
  where
    go : (l : Location) → (step_of (after_wait w.0 m) (write_to l (for_ticks 0) v)).machine ≡ (step_of m (write_to l w v)).machine
    go (Iwm k) = ap₂ (λ (u : Wires) (l : Watched). after_strobe l (after_wires u (acted_of (after_wait w.0 m) (WriteIwm w k v)).machine)) (waited-wires w.0 m) (waited-watched w.0 m)
    go (Via r) = ap₂ (λ (u : Wires) (l : Watched). after_strobe l (after_wires u (acted_of (after_wait w.0 m) (WriteVia w r v)).machine)) (waited-wires w.0 m) (waited-watched w.0 m)

pub waited : (m : Machine) (x : Many) (w : WaitTicks) (vs : List ℕ) → 0 < length vs → after_items m (singles_after x w vs) ≡ after_items (after_wait w.0 m) (singles_after x (for_ticks 0) vs)
waited m x w [] h = absurd (omega arith)
waited m x w (v ∷ vs) h = ap (λ (n : Machine). after_items n (singles_after x (for_ticks 0) vs)) (sym (wait-apart m x w v))

-- ---- an IWM location: the first access alone moves a line

-- A byte whose digit at n is v: with that digit as its last one.
digit : (n x v : ℕ) → 0 < n → (x - x / n % 2 * n + v * n) / n ≡ x / n - x / n % 2 + v
digit n x v h =
    let b = x / n % 2 in
    let c = x / n - x / n % 2 in
    let l : b ≤ x / n = mod-le (x / n) 2 in
    let q : c + b ≡ x / n = omega (arith, l) in
    let e : c * n + b * n ≡ x / n * n = sym (add-mul c b n) ∙ ap (λ (k : ℕ). k * n) q in
    let m : (c + v + 1) * n ≡ c * n + v * n + n = add-mul (c + v) 1 n ∙ ap₂ (λ (j k : ℕ). j + k) (add-mul c v n) (one-mul n) in
    div-eq_of_lt-le n (least (c * n) (b * n) (v * n) (x / n * n) (x % n) x _ e (div-add-mod' x n) (add-mul c v n)) (below (c * n) (b * n) (v * n) (x / n * n) (x % n) x n _ e (div-add-mod' x n) (mod-lt x h) m)
  where
    least : (c b v q r x k : ℕ) → c + b ≡ q → q + r ≡ x → k ≡ c + v → k ≤ x - b + v
    least c b v q r x k e f g = omega arith

    below : (c b v q r x n k : ℕ) → c + b ≡ q → q + r ≡ x → r < n → k ≡ c + v + n → x - b + v < k
    below c b v q r x n k e f g h = omega arith

twice : (i x v : ℕ) → v < 2 → with_level (with_level x i v) i v ≡ with_level x i v
unfolding with_level
twice i x v k =
    let n = 2 ^ i in
    let y = x - x / n % 2 * n + v * n in
    let d : y / n ≡ x / n - x / n % 2 + v = digit n x v (pow_pos i) in
    let e : y / n % 2 ≡ v = ap (λ (z : ℕ). z % 2) d ∙ last (x / n) in
    ap (λ (z : ℕ). y - z * n + v * n) e ∙ back (x - x / n % 2 * n) (v * n)
  where
    last : (q : ℕ) → (q - q % 2 + v) % 2 ≡ v
    last q = omega arith

    back : (a b : ℕ) → a + b - b + b ≡ a + b
    back a b = omega arith

access-twice : (k : ℕ) (d : DiskLines) → k < 16 → after_access k (after_access k d) ≡ after_access k d
unfolding after_access
access-twice k d h = ap (λ (n : ℕ). record { lines = n }) (twice (k / 2) d.lines (k % 2) (omega arith))

-- The strobe has looked at the levels as they are.
abbrev Looked : Machine → Type 0
Looked m = drives_after (strobe_levels m) (strobe_levels m) m.drives ≡ m.drives

-- A second access changes nothing.
idle-access : (m : Machine) (k v : ℕ) → PhaseAccepted m → Looked m → after_access k m.disk ≡ m.disk → (step_of m (WriteIwm (for_ticks 0) k v)).machine ≡ m
unfolding step_of item_wait acted_of ticks drives_ticks drive_ticks strobe_ticks
idle-access m k v h s e =
    ap (λ (l : DiskLines). record { via = m.via; clock = step_wires m.clock (wires m) (wires m); disk = l; inputs = m.inputs; sense = m.sense; drives = drives_after (strobe_levels m) (watched_of l (sel_of m.via.ports)) m.drives }) e
    ∙ ap₂ (λ (c : Clock) (d : Drives). record { via = m.via; clock = c; disk = m.disk; inputs = m.inputs; sense = m.sense; drives = d })
    (still m.clock (wires m) h) s

idle-accesses : (m : Machine) (w : WaitTicks) (k : ℕ) (vs : List ℕ) → PhaseAccepted m → Looked m → after_access k m.disk ≡ m.disk
    → after_items m (singles_after (record { wait = w; to = Iwm k }) (for_ticks 0) vs) ≡ m
idle-accesses m w k [] h s e = refl
idle-accesses m w k (v ∷ vs) h s e =
    ap (λ (n : Machine). after_items n (singles_after (record { wait = w; to = Iwm k }) (for_ticks 0) vs)) (idle-access m k v h s e)
    ∙ idle-accesses m w k vs h s e

iwm-once : (m : Machine) (w : WaitTicks) (k v : ℕ) (vs : List ℕ) → PhaseAccepted m → k < 16 → 0 < length vs
    → after_items m (singles_after (record { wait = w; to = Iwm k }) w vs) ≡ (step_of m (WriteIwm w k v)).machine
unfolding step_of acted_of item_wait
iwm-once m w k v [] a h n = absurd (omega arith)
iwm-once m w k v (u ∷ vs) a h n =
    let x = (step_of m (WriteIwm w k u)).machine in
    idle-accesses x w k vs (phase-keeps m (WriteIwm w k u) a) (settled (strobe_levels m) (strobe_levels x) (drives_ticks w.0 m.drives)) (access-twice k m.disk h)

-- ---- an item with its values

-- Where it writes to no VIA register, it is the item.
pub unwritten-step : (m : Machine) (i : Item) (vs : List ℕ) → register_written i ≡ none → PhaseAccepted m → ItemInRange i → 0 < length vs → step_with m i vs ≡ step_of m i
unfolding step_with register_written
unwritten-step m (ReadVia w r) vs o a h n = refl
unwritten-step m (ReadIwm w k) vs o a h n = refl
unwritten-step m (WriteVia w r v) vs o a h n = absurd (some-ne-none r o)
unwritten-step m (WriteIwm w k v) vs o a h n = ap (λ (x : Machine). record { machine = x; value = (step_of m (WriteIwm w k v)).value }) (iwm-once m w k v vs a h n)
unwritten-step m (Blank w) vs o a h n = refl
unwritten-step m (Second w) vs o a h n = refl
unwritten-step m (Line w l v) vs o a h n = refl
unwritten-step m (Sense w d r v) vs o a h n = refl
unwritten-step m (Reset w) vs o a h n = refl
unwritten-step m (Power w s) vs o a h n = refl
unwritten-step m (Disk w d i l b) vs o a h n = refl
unwritten-step m (Pulse w l) vs o a h n = refl

-- Where it writes to one, its wait passes, and then each part goes its own way.
pub written_step : (m : Machine) (i : Item) (vs : List ℕ) (r : ℕ) → register_written i ≡ some r → 0 < length vs → (step_with m i vs).machine ≡ apart_of r vs (after_wait (item_wait i) m)
unfolding step_with register_written item_wait
written_step m (ReadVia w r) vs q o n = absurd (none-ne-some q o)
written_step m (ReadIwm w k) vs q o n = absurd (none-ne-some q o)
written_step m (WriteVia w r v) vs q o n =
    waited m (record { wait = w; to = Via r }) w vs n ∙ via-apart w r vs (after_wait w.0 m)
    ∙ ap (λ (k : ℕ). apart_of k vs (after_wait w.0 m)) (some-injective r q o)
written_step m (WriteIwm w k v) vs q o n = absurd (none-ne-some q o)
written_step m (Blank w) vs q o n = absurd (none-ne-some q o)
written_step m (Second w) vs q o n = absurd (none-ne-some q o)
written_step m (Line w l v) vs q o n = absurd (none-ne-some q o)
written_step m (Sense w d r v) vs q o n = absurd (none-ne-some q o)
written_step m (Reset w) vs q o n = absurd (none-ne-some q o)
written_step m (Power w s) vs q o n = absurd (none-ne-some q o)
written_step m (Disk w d i l b) vs q o n = absurd (none-ne-some q o)
written_step m (Pulse w l) vs q o n = absurd (none-ne-some q o)

-- The single WR items, with no wait left, are the writes of the values.
pub singles-writes : (w : WaitTicks) (r : ℕ) (vs : List ℕ) → singles_after (record { wait = w; to = Via r }) (for_ticks 0) vs ≡ writes_of r vs
singles-writes w r [] = refl
singles-writes w r (v ∷ vs) = ap (λ (l : List Item). WriteVia (for_ticks 0) r v ∷ l) (singles-writes w r vs)

-- With LSTRB on, where they move no wire of the clock.
lit-apart : (m : Machine) (r : ℕ) (vs : List ℕ) → (not (eqb r 0) && not (eqb r 2)) ≡ true → PhaseAccepted m → 0 < length vs → (strobe_levels m).lstrb ≡ true
    → after_items m (writes_of r vs)
    ≡ with_drives (with_via m (via_after r vs m.via)) (spoilt_if (moves_sel r vs m.via.ports (strobe_levels m).sel) (drives_after (strobe_levels m) (watched_of m.disk (sel_of (ports_after r vs m.via.ports))) m.drives))
lit-apart m r vs h a n on =
    ap (after_items m) (sym (singles-writes (for_ticks 0) r vs)) ∙ via-apart (for_ticks 0) r vs m
    ∙ ap₂ (λ (c : Clock) (d : Drives). with_drives (with_clock (with_via m (via_after r vs m.via)) c) d) (clock-still r h vs m.via.ports m.clock a) (strobes-lit r vs m.disk m.via.ports m.drives n on)

-- SEL moved under the strobe, and be it for a moment; or it kept its level.
module _ (m : Machine) (r : ℕ) (vs : List ℕ) (h : (not (eqb r 0) && not (eqb r 2)) ≡ true) (a : PhaseAccepted m) (n : 0 < length vs) (on : (strobe_levels m).lstrb ≡ true) where
  pub lit-spoilt : moves_sel r vs m.via.ports (strobe_levels m).sel ≡ true → after_items m (writes_of r vs) ≡ with_drives (with_via m (via_after r vs m.via)) (with_strobe m.drives no_strobe)
  unfolding watched_of
  lit-spoilt e =
      let x = with_via m (via_after r vs m.via) in
      let d = drives_after (strobe_levels m) (watched_of m.disk (sel_of (ports_after r vs m.via.ports))) m.drives in
      lit-apart m r vs h a n on
      ∙ ap (λ (b : Bool). with_drives x (spoilt_if b d)) e
      ∙ ap (λ (y : Drives). with_drives x (with_strobe y no_strobe)) (lit-step m.disk m.via.ports (ports_after r vs m.via.ports) m.drives on)

  pub lit-kept : moves_sel r vs m.via.ports (strobe_levels m).sel ≡ false → after_strobe (strobe_levels m) (with_via m (via_after r vs m.via)) ≡ after_items m (writes_of r vs)
  lit-kept e =
      let x = with_via m (via_after r vs m.via) in
      let d = drives_after (strobe_levels m) (watched_of m.disk (sel_of (ports_after r vs m.via.ports))) m.drives in
      ap (λ (p : Ports). with_drives x (drives_after (strobe_levels m) (watched_of m.disk (sel_of p)) m.drives)) (via-ports r vs m.via)
      ∙ sym (lit-apart m r vs h a n on ∙ ap (λ (b : Bool). with_drives x (spoilt_if b d)) e)
