-- A port bit's level is one thing: what a read of a port shows is what the clock, the drives and the answer go by. The ports are bytes.
use Prim.Native.Nat.{ℕ, ◌+◌, ◌*◌, ◌/◌, ◌%◌, ◌^◌, ◌<◌}
use mathlib.Core.Path.{◌≡◌, refl, ap, ◌∙◌, subst⁻¹}
use mathlib.Core.Bool.{Bool, true, false, cond}
use mathlib.Core.List.{List}
use native.Mathlib.Omega.{arith}
use lib.Dec.{eqb}
use lib.ListN.{get_or}
use Rattle.units.specs.declared.WaitTicks.{WaitTicks}
use Rattle.via_bits.specs.Bytes.{bit}
use Rattle.via.specs.declared.Ports.{Ports}
use Rattle.via.specs.Registers.{register_read}
use Rattle.via.proofs.Kept.{ticks-ports}
use Rattle.via.proofs.Flags.{port-b-read, port-a-read}
use Rattle.clock_spec.specs.Command.{bit_number}
use Rattle.clock_spec.specs.Phase.{shown_level}
use Rattle.item_spec.specs.declared.Item.TheVariants.{ReadVia}
use Rattle.machine_spec.specs.declared.Machine.{Machine}
use Rattle.machine_spec.specs.declared.Did.{Did}
use Rattle.machine_spec.specs.Machine.{wires, accepted_of}
use Rattle.machine_spec.specs.Pins.{wires_of, sel_of}
use Rattle.machine_spec.specs.Wiring.{inputs_of}
use Rattle.machine_spec.specs.Accesses.{via_read}
use Rattle.machine_spec.specs.Action.{acted_of}
use Rattle.machine_spec.specs.Stages.{item_wait, after_wait}
use Rattle.machine_spec.specs.Step.{step_of}
use Rattle.machine_spec.proofs.Step.{quiet_step}

-- ---- what the outside gives: "PB0 the clock's data line"; "Undriven lines are 1"
digit-0 : (x a b c d : ℕ) → x < 2 → (x + 2 + 4 + (8 * a + 16 * b + 32 * c + 64 * d) + 128) / 2 ^ 0 % 2 ≡ x
digit-0 x a b c d h = omega arith

digit-1 : (x a b c d : ℕ) → x < 2 → (x + 2 + 4 + (8 * a + 16 * b + 32 * c + 64 * d) + 128) / 2 ^ 1 % 2 ≡ 1
digit-1 x a b c d h = omega arith

digit-2 : (x a b c d : ℕ) → x < 2 → (x + 2 + 4 + (8 * a + 16 * b + 32 * c + 64 * d) + 128) / 2 ^ 2 % 2 ≡ 1
digit-2 x a b c d h = omega arith

digit-5 : (a : ℕ) → (127 + 128 * a) / 2 ^ 5 % 2 ≡ 1
digit-5 a = omega arith

module _ (lines : List ℕ) where
  abbrev level : ℕ → ℕ
  level l = get_or lines l 0

  data-given : (line : Bool) → bit 0 (inputs_of line lines).b ≡ line
  unfolding inputs_of
  data-given true = ap (λ (k : ℕ). eqb k 1) (digit-0 1 (level 0) (level 1) (level 2) (level 3) (omega arith))
  data-given false = ap (λ (k : ℕ). eqb k 1) (digit-0 0 (level 0) (level 1) (level 2) (level 3) (omega arith))

  clock-given : (line : Bool) → bit 1 (inputs_of line lines).b ≡ true
  unfolding inputs_of
  clock-given true = ap (λ (k : ℕ). eqb k 1) (digit-1 1 (level 0) (level 1) (level 2) (level 3) (omega arith))
  clock-given false = ap (λ (k : ℕ). eqb k 1) (digit-1 0 (level 0) (level 1) (level 2) (level 3) (omega arith))

  enable-given : (line : Bool) → bit 2 (inputs_of line lines).b ≡ true
  unfolding inputs_of
  enable-given true = ap (λ (k : ℕ). eqb k 1) (digit-2 1 (level 0) (level 1) (level 2) (level 3) (omega arith))
  enable-given false = ap (λ (k : ℕ). eqb k 1) (digit-2 0 (level 0) (level 1) (level 2) (level 3) (omega arith))

  sel-given : (line : Bool) → bit 5 (inputs_of line lines).a ≡ true
  unfolding inputs_of
  sel-given line = ap (λ (k : ℕ). eqb k 1) (digit-5 (level 4))

-- ---- port B and the clock's wires
-- "PB2 is clock enable ..; PB1 is the clock's data-clock", PB0 its data line.
pub record ShowsWires (m : Machine) (value : ℕ) : Type 0 where
  pub dataline : bit 0 value ≡ (wires m).dataline
  pub dataclock : bit 1 value ≡ (wires m).dataclock
  pub enable : bit 2 value ≡ (wires m).enable

pub wires-read : (m : Machine) → m.via.ports.dirb < 256 → ShowsWires m (via_read 0 m).value
unfolding via_read wires_of
wires-read m l =
    let line = shown_level m.clock.phase in
    let i = inputs_of line m.inputs in
    let p = m.via.ports in
    record {
      dataline = port-b-read 0 i m.via (omega arith) l ∙ ap (cond (bit 0 p.dirb) (bit 0 p.outb)) (data-given m.inputs line);
      dataclock = port-b-read 1 i m.via (omega arith) l ∙ ap (cond (bit 1 p.dirb) (bit 1 p.outb)) (clock-given m.inputs line);
      enable = port-b-read 2 i m.via (omega arith) l ∙ ap (cond (bit 2 p.dirb) (bit 2 p.outb)) (enable-given m.inputs line);
    }

-- Of an item: RD of register 0 shows the three wires that the history has of it.
pub wires-shown : (m : Machine) (w : WaitTicks) → accepted_of m ≡ true → m.via.ports.dirb < 256
    → ShowsWires (step_of m (ReadVia w 0)).machine (step_of m (ReadVia w 0)).value
unfolding acted_of item_wait via_read register_read
wires-shown m w a l =
    subst⁻¹ (λ (d : Did). ShowsWires d.machine d.value) (quiet_step m (ReadVia w 0) a (λ n. (refl, refl)))
    (wires-read (after_wait w.0 m) (subst⁻¹ (λ (p : Ports). p.dirb < 256) (ticks-ports w.0 m.via) l))

-- ---- port A and SEL
-- "SEL is the level of PA5": bit 5 of registers 1 and 15.
pub sel-read : (m : Machine) → m.via.ports.dira < 256
    → (bit_number (bit 5 (via_read 1 m).value) ≡ sel_of m.via.ports) × (bit_number (bit 5 (via_read 15 m).value) ≡ sel_of m.via.ports)
unfolding via_read sel_of register_read
sel-read m l =
    let line = shown_level m.clock.phase in
    let p = m.via.ports in
    let e = port-a-read 5 (inputs_of line m.inputs) m.via (omega arith) l ∙ ap (cond (bit 5 p.dira) (bit 5 p.outa)) (sel-given m.inputs line) in
    (ap bit_number e, ap bit_number e)
