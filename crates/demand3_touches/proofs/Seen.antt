-- Port B's output and direction bits and the clock, after an item, hang on what they were before and on the item's touches alone.
use Prim.Native.Nat.{ℕ}
use mathlib.Core.Path.{◌≡◌, refl, ap, ap₂, ◌∙◌}
use mathlib.Core.Bool.{Bool, true, false, cond}
use mathlib.Core.List.{List, [], ◌∷◌, ◌++◌}
use native.Mathlib.Omega.{arith}
use lib.Dec.{eqb}
use borrow.Author.Tests.{eqb-true}
use Rattle.units.specs.declared.WaitTicks.{WaitTicks}
use Rattle.via.specs.declared.Ports.{Ports}
use Rattle.via.specs.Via.{fresh_via, ticks, raised_of, reset_of}
use Rattle.via.specs.Registers.{register_read}
use Rattle.via.specs.Writes.{via_written, ports_written}
use Rattle.via.proofs.Kept.{ticks-ports}
use Rattle.via.proofs.AccessKept.{pulse-ports}
use Rattle.clock_spec.specs.declared.Wires.{Wires}
use Rattle.clock_spec.specs.Shared.{Event, quiet, second, off}
use Rattle.clock_spec.specs.Store.{with_event}
use Rattle.clock_spec.specs.Phase.{shown_level, accepted_phase}
use Rattle.clock.specs.declared.Clock.{Clock}
use Rattle.clock.specs.Step.{with_store, step_wires, step_clock}
use Rattle.clock.proofs.Keep.{still}
use Rattle.item_spec.specs.declared.Item.{Item}
use Rattle.item_spec.specs.declared.Item.TheVariants.{ReadVia, ReadIwm, WriteVia, WriteIwm, Blank, Second, Line, Sense, Reset, Power, Disk, Pulse}
use Rattle.machine_spec.specs.declared.Machine.{Machine}
use Rattle.machine_spec.specs.Pins.{wires_of}
use Rattle.machine_spec.specs.Machine.{wires}
use Rattle.machine_spec.specs.Accesses.{via_read, iwm_read, keyboard_pulse}
use Rattle.machine_spec.specs.Action.{event_of, acted_of}
use Rattle.machine_spec.specs.Stages.{item_wait, after_wait}
use Rattle.machine_spec.specs.Step.{step_of}
use Rattle.demand3_touches.specs.Touches.{Touch, port_b, direction_b, reset, tick, power_cut, writes, touches_of}

-- ---- what the clock can see

pub record Seen : Type 0 where
  pub outb : ℕ
  pub dirb : ℕ
  pub clock : Clock

abbrev pub seen_of : Machine → Seen
seen_of m = record { outb = m.via.ports.outb; dirb = m.via.ports.dirb; clock = m.clock }

-- The wires by port B alone.
abbrev wires_by : ℕ → ℕ → Bool → Wires
wires_by o d line = wires_of (record { outb = o; outa = 0; dirb = d; dira = 0 }) line

-- Port B comes to o and d, with an event.
abbrev after_move : ℕ → ℕ → Event → Seen → Seen
after_move o d e x =
    record {
      outb = o;
      dirb = d;
      clock = step_clock e x.clock (wires_by x.outb x.dirb (shown_level x.clock.phase)) (wires_by o d (shown_level x.clock.phase));
    }

abbrev pub after_touch : Touch → Seen → Seen
after_touch (port_b v) x = after_move v x.dirb quiet x
after_touch (direction_b v) x = after_move x.outb v quiet x
after_touch reset x = after_move 0 0 quiet x
after_touch tick x = after_move x.outb x.dirb second x
after_touch (power_cut s) x = after_move 0 0 (off s) x

-- One after the other, the newest first.
abbrev pub after_touches : List Touch → Seen → Seen
after_touches [] x = x
after_touches (t ∷ ts) x = after_touch t (after_touches ts x)

pub after-append : (a b : List Touch) (x : Seen) → after_touches (a ++ b) x ≡ after_touches a (after_touches b x)
after-append [] b x = refl
after-append (t ∷ a) b x = ap (after_touch t) (after-append a b x)

-- ---- one item

-- Port B after an item, by port B before it.
abbrev PortB : Machine → ℕ → ℕ → Type 0
PortB m o d = (m.via.ports.outb ≡ o) × (m.via.ports.dirb ≡ d)

abbrev after_action : Machine → Item → Machine
after_action m i = (acted_of (after_wait (item_wait i) m) i).machine

-- Before the wires are compared an item has moved the clock's seconds by its event, and nothing else of the clock.
acted-clock : (m : Machine) (i : Item) → (acted_of m i).machine.clock ≡ with_store m.clock (with_event (event_of i) m.clock.store)
unfolding acted_of event_of via_read iwm_read keyboard_pulse
acted-clock m (ReadVia w r) = refl
acted-clock m (ReadIwm w k) = refl
acted-clock m (WriteVia w r v) = refl
acted-clock m (WriteIwm w k v) = refl
acted-clock m (Blank w) = refl
acted-clock m (Second w) = refl
acted-clock m (Line w l v) = refl
acted-clock m (Sense w d r v) = refl
acted-clock m (Reset w) = refl
acted-clock m (Power w s) = refl
acted-clock m (Disk w d i l b) = refl
acted-clock m (Pulse w l) = refl

-- The step is the move of port B with the item's event.
step_move : (m : Machine) (i : Item) (o d : ℕ) → PortB (after_action m i) o d → seen_of (step_of m i).machine ≡ after_move o d (event_of i) (seen_of m)
unfolding step_of wires_of
step_move m i o d h = ap₂ (go (after_action m i).clock) h.0 h.1 ∙ ap (λ (c : Clock). go c o d) (acted-clock (after_wait (item_wait i) m) i)
  where
    go : Clock → ℕ → ℕ → Seen
    go c x y = record { outb = x; dirb = y; clock = step_wires c (wires m) (wires_by x y (shown_level c.phase)) }

-- A wait leaves port B, and so does an action that leaves it after the wait.
waited-port : (m : Machine) (n : ℕ) → PortB (after_wait n m) m.via.ports.outb m.via.ports.dirb
waited-port m n = (ap (λ (p : Ports). p.outb) (ticks-ports n m.via), ap (λ (p : Ports). p.dirb) (ticks-ports n m.via))

-- The chip's phase goes with its enable line.
abbrev pub Fits : Machine → Type 0
Fits m = accepted_phase m.clock.store.chip m.clock.phase (wires m).enable ≡ true

-- Port B left as it is, with no event: nothing the clock can see changes.
no_move : (m : Machine) → Fits m → after_move m.via.ports.outb m.via.ports.dirb quiet (seen_of m) ≡ seen_of m
unfolding wires_of
no_move m h = ap (λ (c : Clock). record { outb = m.via.ports.outb; dirb = m.via.ports.dirb; clock = c }) (still m.clock (wires m) h)

left : (m : Machine) (i : Item) → Fits m → PortB (after_action m i) m.via.ports.outb m.via.ports.dirb → event_of i ≡ quiet → seen_of (step_of m i).machine ≡ seen_of m
left m i h p e =
    step_move m i m.via.ports.outb m.via.ports.dirb p
    ∙ ap (λ (x : Event). after_move m.via.ports.outb m.via.ports.dirb x (seen_of m)) e
    ∙ no_move m h

-- A WR to a VIA register: 0, 2, or another.
wrote : (m : Machine) (w : WaitTicks) (r v : ℕ) → Fits m → seen_of (step_of m (WriteVia w r v)).machine ≡ after_touches (writes r v) (seen_of m)
unfolding acted_of item_wait event_of via_written ports_written
wrote m w r v h = go (eqb r 0) (eqb r 2) refl refl
  where
    x : Item
    x = WriteVia w r v

    o : (t : Bool) → eqb r 0 ≡ t → (after_action m x).via.ports.outb ≡ cond t v (after_wait w.0 m).via.ports.outb
    o t e = ap (λ (b : Bool). cond b v (after_wait w.0 m).via.ports.outb) e

    d : (t : Bool) → eqb r 2 ≡ t → (after_action m x).via.ports.dirb ≡ cond t v (after_wait w.0 m).via.ports.dirb
    d t e = ap (λ (b : Bool). cond b v (after_wait w.0 m).via.ports.dirb) e

    go : (t u : Bool) → eqb r 0 ≡ t → eqb r 2 ≡ u → seen_of (step_of m x).machine ≡ after_touches (cond t (port_b v ∷ []) (cond u (direction_b v ∷ []) [])) (seen_of m)
    go true true e f = absurd (omega (arith, eqb-true r 0 e, eqb-true r 2 f))
    go true false e f = step_move m x v m.via.ports.dirb (o true e, d false f ∙ (waited-port m w.0).1)
    go false true e f = step_move m x m.via.ports.outb v (o false e ∙ (waited-port m w.0).0, d true f)
    go false false e f = left m x h (o false e ∙ (waited-port m w.0).0, d false f ∙ (waited-port m w.0).1) refl

-- Every item that is done.
pub done : (m : Machine) (i : Item) → Fits m → seen_of (step_of m i).machine ≡ after_touches (touches_of i) (seen_of m)
unfolding touches_of acted_of item_wait event_of via_read iwm_read keyboard_pulse register_read raised_of reset_of fresh_via
done m (ReadVia w r) h = left m (ReadVia w r) h (waited-port m w.0) refl
done m (ReadIwm w k) h = left m (ReadIwm w k) h (waited-port m w.0) refl
done m (WriteVia w r v) h = wrote m w r v h
done m (WriteIwm w k v) h = left m (WriteIwm w k v) h (waited-port m w.0) refl
done m (Blank w) h = left m (Blank w) h (waited-port m w.0) refl
done m (Second w) h = step_move m (Second w) m.via.ports.outb m.via.ports.dirb (waited-port m w.0)
done m (Line w l v) h = left m (Line w l v) h (waited-port m w.0) refl
done m (Sense w d r v) h = left m (Sense w d r v) h (waited-port m w.0) refl
done m (Reset w) h = step_move m (Reset w) 0 0 (refl, refl)
done m (Power w s) h = step_move m (Power w s) 0 0 (refl, refl)
done m (Disk w d i l b) h = left m (Disk w d i l b) h (waited-port m w.0) refl
done m (Pulse w l) h =
    let e = pulse-ports l (ticks w.0 m.via) in
    left m (Pulse w l) h (ap (λ (p : Ports). p.outb) e ∙ (waited-port m w.0).0, ap (λ (p : Ports). p.dirb) e ∙ (waited-port m w.0).1) refl
