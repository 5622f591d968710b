-- "So an armed T1 loaded with N raises its flag exactly N+1 ticks later .., and in free run every N+2 ticks after, as long as no write to a T1 register or ACR, no reset and
-- no power cut comes between": over any items carried out that are none of these, their waits added up.
use Prim.Native.Nat.{ℕ, ◌+◌, ◌*◌, ◌/◌, ◌%◌, ◌^◌}
use mathlib.Core.Path.{◌≡◌, refl, sym, ap, ap₂, ◌∙◌}
use mathlib.Core.Bool.{Bool, true, false, cond, not, ◌&&◌, ◌||◌}
use mathlib.Core.List.{List, [], ◌∷◌}
use native.Mathlib.Omega.{arith}
use borrow.Author.Tests.{not-true}
use lib.Dec.{eqb, ltb, leb}
use Rattle.units.specs.declared.WaitTicks.{WaitTicks}
use Rattle.levels.proofs.Laws.{no, both}
use Rattle.via_timer.specs.Timer.{at, steps}
use Rattle.via_timer.specs.declared.Counter.{Counter}
use Rattle.via_timer.proofs.Counts.{unfired, fires-once, fires-free}
use Rattle.via_bits.specs.Bytes.{bit}
use Rattle.via.specs.declared.Timer1.{Timer1}
use Rattle.via.specs.declared.Via.{Via}
use Rattle.via.specs.Setters.{with_counter1, with_armed1, with_due1}
use Rattle.via.specs.Via.{latch_of, counter1, ticks, raised_of, asking}
use Rattle.via.specs.Writes.{via_written}
use Rattle.via.specs.Registers.{flags_byte, register_read}
use Rattle.via.proofs.Waits.{first, waits, ticks-add}
use Rattle.via.proofs.FlagsExact.{flag-6}
use Rattle.via.proofs.AccessKept.{pulse-timers}
use Rattle.item_spec.specs.declared.Item.{Item}
use Rattle.item_spec.specs.declared.Item.TheVariants.{ReadVia, ReadIwm, WriteVia, WriteIwm, Blank, Second, Line, Sense, Reset, Power, Disk, Pulse}
use Rattle.machine_spec.specs.declared.Machine.{Machine}
use Rattle.machine_spec.specs.Accesses.{via_read, iwm_read, keyboard_pulse}
use Rattle.machine_spec.specs.Action.{acted_of}
use Rattle.machine_spec.specs.Stages.{item_wait, after_wait}
use Rattle.machine_spec.specs.Step.{step_of, after_items}

-- ---- the items that may come between
-- A write to a T1 register (4 to 7) or to ACR (11).
abbrev pub touches : ℕ → Bool
touches r = eqb r 4 || (eqb r 5 || (eqb r 6 || (eqb r 7 || eqb r 11)))

-- "no write to a T1 register or ACR, no reset and no power cut"
abbrev pub spares : Item → Bool
spares (ReadVia w r) = true
spares (ReadIwm w k) = true
spares (WriteVia w r v) = not (touches r)
spares (WriteIwm w k v) = true
spares (Blank w) = true
spares (Second w) = true
spares (Line w l v) = true
spares (Sense w d r v) = true
spares (Reset w) = false
spares (Power w s) = false
spares (Disk w d i l b) = true
spares (Pulse w l) = true

abbrev pub all_spare : List Item → Bool
all_spare [] = true
all_spare (i ∷ is) = spares i && all_spare is

-- Their VIA ticks.
abbrev pub waits_of : List Item → ℕ
waits_of [] = 0
waits_of (i ∷ is) = item_wait i + waits_of is

-- ---- T1 over a wait, and over an item that spares it
abbrev moved1 : Timer1 → Counter → Timer1
moved1 t c = with_due1 (with_armed1 (with_counter1 t c.value) c.armed) c.due

timer-waits : (n : ℕ) (v : Via) → (ticks n v).t1 ≡ moved1 v.t1 (first n v)
timer-waits n v = ap (λ (x : Via). x.t1) (waits n v)

acr-waits : (n : ℕ) (v : Via) → (ticks n v).acr ≡ v.acr
acr-waits n v = ap (λ (x : Via). x.acr) (waits n v)

-- T1 goes by itself and ACR alone.
alike : (n : ℕ) (u v : Via) → u.t1 ≡ v.t1 → u.acr ≡ v.acr → (ticks n u).t1 ≡ (ticks n v).t1
unfolding latch_of
alike n u v e f =
    timer-waits n u
    ∙ ap₂ (λ (t : Timer1) (a : ℕ). moved1 t (steps n (bit 6 a) (latch_of t) (counter1 t))) e f
    ∙ sym (timer-waits n v)

either : (a b : Bool) → (a || b) ≡ false → (a ≡ false) × (b ≡ false)
either true b e = no (sym e)
either false b e = (refl, e)

unwritten : (r value : ℕ) (v : Via) → touches r ≡ false → ((via_written r value v).t1 ≡ v.t1) × ((via_written r value v).acr ≡ v.acr)
unfolding via_written
unwritten r value v h =
    let a = either (eqb r 4) (eqb r 5 || (eqb r 6 || (eqb r 7 || eqb r 11))) h in
    let b = either (eqb r 5) (eqb r 6 || (eqb r 7 || eqb r 11)) a.1 in
    let c = either (eqb r 6) (eqb r 7 || eqb r 11) b.1 in
    let d = either (eqb r 7) (eqb r 11) c.1 in
    (simp (a.0, b.0, c.0, d.0) refl, simp d.1 refl)

spared : (m : Machine) (i : Item) → spares i ≡ true
    → ((step_of m i).machine.via.t1 ≡ (ticks (item_wait i) m.via).t1) × ((step_of m i).machine.via.acr ≡ m.via.acr)
unfolding step_of acted_of item_wait via_read register_read iwm_read raised_of keyboard_pulse
spared m (ReadVia w r) h = (refl, acr-waits w.0 m.via)
spared m (ReadIwm w k) h = (refl, acr-waits w.0 m.via)
spared m (WriteVia w r v) h =
    let e = unwritten r v (ticks w.0 m.via) (not-true (touches r) h) in
    (e.0, e.1 ∙ acr-waits w.0 m.via)
spared m (WriteIwm w k v) h = (refl, acr-waits w.0 m.via)
spared m (Blank w) h = (refl, acr-waits w.0 m.via)
spared m (Second w) h = (refl, acr-waits w.0 m.via)
spared m (Line w l v) h = (refl, acr-waits w.0 m.via)
spared m (Sense w d r v) h = (refl, acr-waits w.0 m.via)
spared m (Reset w) h = no h
spared m (Power w s) h = no h
spared m (Disk w d i l b) h = (refl, acr-waits w.0 m.via)
spared m (Pulse w l) h =
    let e = pulse-timers l (ticks w.0 m.via) in
    (e.0, e.1 ∙ acr-waits w.0 m.via)

-- T1 after such items is T1 after their VIA ticks alone.
pub spared-items : (m : Machine) (is : List Item) → all_spare is ≡ true
    → ((after_items m is).via.t1 ≡ (ticks (waits_of is) m.via).t1) × ((after_items m is).via.acr ≡ m.via.acr)
unfolding ticks
spared-items m [] h = (refl, refl)
spared-items m (i ∷ is) h =
    let k = both (spares i) (all_spare is) h in
    let m₁ = (step_of m i).machine in
    let w = item_wait i in
    let s = spared m i k.0 in
    let r = spared-items m₁ is k.1 in (
      r.0
          ∙ alike (waits_of is) m₁.via (ticks w m.via) s.0 (s.1 ∙ sym (acr-waits w m.via))
          ∙ sym (ap (λ (v : Via). v.t1) (ticks-add w (waits_of is) m.via)),
      r.1 ∙ s.1,
    )

-- ---- the flag
-- "an armed T1 loaded with N": the latches have N too.
pub record Loaded (N : ℕ) (t : Timer1) : Type 0 where
  pub counter : t.counter ≡ N
  pub latches : latch_of t ≡ N
  pub armed : t.armed ≡ true
  pub due : t.due ≡ false

-- A write to register 5 leaves it so.
pub loads : (m : Machine) (w : WaitTicks) (v : ℕ) → Loaded (v * 256 + m.via.t1.low) (step_of m (WriteVia w 5 v)).machine.via.t1
unfolding step_of acted_of item_wait via_written latch_of
loads m w v =
    let e : v * 256 + (ticks w.0 m.via).t1.low ≡ v * 256 + m.via.t1.low = ap (λ (t : Timer1). v * 256 + t.low) (timer-waits w.0 m.via) in
    record { counter = e; latches = e; armed = refl; due = refl }

-- Flag 6 as the action of the next item finds it, w VIA ticks after the items.
abbrev pub flag_found : Machine → List Item → ℕ → Bool
flag_found m is w = bit 6 (after_wait w (after_items m is)).via.flags

-- An RD of register 13 shows it in bit 6.
bit-6 : (x : ℕ) → (x % 128 + 128) / 2 ^ 6 % 2 ≡ x / 2 ^ 6 % 2
bit-6 x = omega arith

bit-6-low : (x : ℕ) → x % 128 / 2 ^ 6 % 2 ≡ x / 2 ^ 6 % 2
bit-6-low x = omega arith

in-13 : (v : Via) → bit 6 (flags_byte v) ≡ bit 6 v.flags
unfolding flags_byte
in-13 v = go (asking v)
  where
    go : (t : Bool) → bit 6 (cond t (v.flags % 128 + 128) (v.flags % 128)) ≡ bit 6 v.flags
    go true = ap (λ (k : ℕ). eqb k 1) (bit-6 v.flags)
    go false = ap (λ (k : ℕ). eqb k 1) (bit-6-low v.flags)

pub flag-read : (m : Machine) (is : List Item) (w : WaitTicks) → bit 6 (step_of (after_items m is) (ReadVia w 13)).value ≡ flag_found m is w.0
unfolding step_of acted_of item_wait via_read register_read
flag-read m is w = in-13 (ticks w.0 (after_items m is).via)

module _ (N : ℕ) (m : Machine) (l : Loaded N m.via.t1) (is : List Item) (h : all_spare is ≡ true) (w : ℕ) where
  abbrev W : ℕ
  W = waits_of is

  abbrev u : Via
  u = (after_items m is).via

  start : counter1 m.via.t1 ≡ at N true false false
  start = simp (l.counter, l.armed, l.due)

  fired : (first w u).fired ≡ (steps w (bit 6 m.via.acr) N (unfired (steps W (bit 6 m.via.acr) N (at N true false false)))).fired
  unfolding latch_of
  fired =
      let s = spared-items m is h in
      ap₂ (λ (t : Timer1) (a : ℕ). (steps w (bit 6 a) (latch_of t) (counter1 t)).fired) (s.0 ∙ timer-waits W m.via) s.1
      ∙ ap₂ (λ (k : ℕ) (c : Counter). (steps w (bit 6 m.via.acr) k (unfired (steps W (bit 6 m.via.acr) k c))).fired) l.latches start

  -- One shot: the flag is raised in this wait exactly where tick N+1 after the load is among its ticks.
  pub raises-once : bit 6 m.via.acr ≡ false → flag_found m is w ≡ (bit 6 u.flags || (leb W N && ltb N (W + w)))
  raises-once e =
      flag-6 w u
      ∙ ap (λ (x : Bool). bit 6 u.flags || x) (
      fired
      ∙ ap (λ (f : Bool). (steps w f N (unfired (steps W f N (at N true false false)))).fired) e
      ∙ fires-once N N W w
      )

  -- Free run: exactly where one of the ticks N+1, N+1 + (N+2), N+1 + 2 (N+2), .. after the load is: n ticks have (n + 1) / (N + 2) of them.
  pub raises-every : bit 6 m.via.acr ≡ true → flag_found m is w ≡ (bit 6 u.flags || ltb ((W + 1) / (N + 2)) ((W + w + 1) / (N + 2)))
  raises-every e =
      flag-6 w u
      ∙ ap (λ (x : Bool). bit 6 u.flags || x) (
      fired
      ∙ ap (λ (f : Bool). (steps w f N (unfired (steps W f N (at N true false false)))).fired) e
      ∙ fires-free N W w
      )
