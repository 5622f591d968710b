-- From the chip to a machine: the data line of any machine that drives the chip, and of this one after any pieces of a list.
use Rattle.std.specs.Prelude.{Ok}
use mathlib.Core.Path.{◌≡◌, refl, ap, ◌∙◌}
use mathlib.Core.Bool.{Bool, true, false}
use mathlib.Core.List.{List}
use Prim.Native.Nat.{ℕ, ◌/◌, ◌%◌, ◌^◌, ◌<◌}
use native.Mathlib.Omega.{arith}
use borrow.Author.Tests.{eq-eqb, ne_eqb}
use Rattle.units.specs.declared.WaitTicks.{WaitTicks}
use Rattle.via_bits.specs.Bytes.{bit}
use Rattle.via.specs.declared.Ports.{Ports}
use Rattle.via.specs.Via.{port_level}
use Rattle.via.specs.Registers.{register_read}
use Rattle.via.proofs.Bits.{port-bit}
use Rattle.via.proofs.Kept.{ticks-ports}
use Rattle.clock_spec.specs.Phase.{shown_level}
use Rattle.clock_spec.specs.declared.Wires.{Wires}
use Rattle.clock.specs.declared.Clock.{Clock}
use Rattle.item_spec.specs.declared.Item.TheVariants.{ReadVia}
use Rattle.item_spec.specs.Record.{answer_value}
use Rattle.item_spec.specs.declared.Decoded.TheVariants.{One}
use Rattle.item_spec.specs.Kinds.{decoded_of}
use Rattle.machine_spec.specs.declared.Machine.{Machine}
use Rattle.machine_spec.specs.Pins.{pin, wires_of}
use Rattle.machine_spec.specs.Wiring.{inputs_of}
use Rattle.machine_spec.specs.Machine.{wires}
use Rattle.machine_spec.specs.Accesses.{via_read}
use Rattle.machine_spec.specs.Action.{acted_of}
use Rattle.machine_spec.specs.Stages.{item_wait, refuses_of}
use Rattle.machine_spec.specs.Step.{step_of, answer_of}
use Rattle.run_spec.specs.declared.Turn.{Turn}
use Rattle.run_spec.specs.Turn.{turn_of}
use Rattle.run_spec.specs.Outcome.{Piece}
use Rattle.run_spec.proofs.Turns.{carried-out}
use Rattle.history.specs.History.{Entry}
use Rattle.history.specs.Start.{start_of, Accepted}
use Rattle.history.specs.Items.{state_after, history_of, FollowsEntries}
use Rattle.history.proofs.Driven.{driven}
use Rattle.demand3.specs.Runs.{after_piece, trace_of}
use Rattle.demand3.proofs.Runs.{drives}
use Rattle.demand3_reads.specs.Shown.{sent_at_start, shown_at}
use Rattle.demand3_reads.specs.Runs.{machine_after_pieces, shown_after_pieces, line_after_pieces, Shows}
use Rattle.demand3_reads.proofs.Told.{shows}

-- Any machine that acts on the chip as its entries do.
pub machine-shows : {M I : Type 0} (clock : M → Clock) (wires : M → Wires) (step : I → M → M) (trace : I → M → List Entry) → FollowsEntries clock wires step trace
    → (m : M) → Accepted (clock m) (wires m) → (is : List I)
    → shown_level (clock (state_after step m is)).phase ≡ shown_at (start_of (clock m) (wires m)) (sent_at_start (clock m).phase) (history_of step trace m is)
machine-shows clock wires step trace D m ok is =
    ap (λ (c : Clock). shown_level c.phase) (driven clock wires step trace D m ok is).0
    ∙ shows (clock m) (wires m) ok (history_of step trace m is)

-- ---- port B

-- Bit 0 of what the board gives port B is the data line.
line-in : (line : Bool) (lines : List ℕ) → bit 0 (inputs_of line lines).b ≡ line
unfolding inputs_of
line-in true lines = eq-eqb ((inputs_of true lines).b / 2 ^ 0 % 2) 1 (omega arith)
line-in false lines = ne_eqb ((inputs_of false lines).b / 2 ^ 0 % 2) 1 (λ e. omega arith)

-- A RD of register 0 has PB0's level in bit 0.
pub read-line : (m : Machine) (w : WaitTicks) → m.via.ports.dirb < 256
    → bit 0 (step_of m (ReadVia w 0)).value ≡ pin m.via.ports.outb m.via.ports.dirb 1 (shown_level m.clock.phase)
unfolding step_of acted_of item_wait via_read register_read
read-line m w l =
    let i : ℕ = (inputs_of (shown_level m.clock.phase) m.inputs).b in
    ap (λ (p : Ports). bit 0 (port_level p.outb p.dirb i)) (ticks-ports w.0 m.via)
    ∙ port-bit 0 m.via.ports.outb m.via.ports.dirb i (omega arith) l
    ∙ ap (λ (x : Bool). pin m.via.ports.outb m.via.ports.dirb 1 x) (line-in (shown_level m.clock.phase) m.inputs)

answer-line : (m : Machine) (s : List ℕ) (w : WaitTicks) → decoded_of s ≡ Ok (One (ReadVia w 0)) → answer_value (turn_of m s).answer ≡ (step_of m (ReadVia w 0)).value
unfolding refuses_of answer_of
answer-line m s w d = ap (λ (t : Turn). answer_value t.answer) (carried-out m s (ReadVia w 0) d refl)

-- ---- this machine

-- After any pieces, from every accepted start.
pub pieces-show : (m : Machine) → Accepted m.clock (wires m) → (is : List Piece) → Shows m is
unfolding wires_of
pieces-show m ok is =
    let M : Machine = machine_after_pieces m is in
    let q : shown_level M.clock.phase ≡ shown_after_pieces m is = machine-shows (λ (m : Machine). m.clock) wires after_piece trace_of drives m ok is in
    let r : pin M.via.ports.outb M.via.ports.dirb 1 (shown_level M.clock.phase) ≡ line_after_pieces m is =
    ap (λ (x : Bool). pin M.via.ports.outb M.via.ports.dirb 1 x) q in
    record {
      chip = q;
      wire = r;
      read = λ w l. read-line M w l ∙ r;
      answer = λ s w d l. ap (bit 0) (answer-line M s w d) ∙ read-line M w l ∙ r;
    }
