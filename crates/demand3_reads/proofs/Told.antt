-- How the chip's phase stands to the read that the history has under way, entry after entry; and that the chip shows what the history says.
use mathlib.Core.Path.{◌≡◌, refl, sym, ap, subst, ◌∙◌}
use mathlib.Core.Bool.{Bool, true, false, cond, not, ◌&&◌, false≢true}
use mathlib.Core.List.{List, [], ◌∷◌}
use mathlib.Core.Option.{Option, none, some}
use Prim.Native.Nat.{ℕ, ◌+◌, ◌-◌, ◌*◌, ◌/◌, ◌%◌, ◌^◌, ◌<◌}
use native.Mathlib.Omega.{arith}
use lib.Dec.{eqb}
use lib.ListN.{length, drop, length-drop}
use borrow.Author.Tests.{eqb-true, eqb-false, ne_eqb, lt-ltb, le-ltb}
use Rattle.clock_spec.specs.Command.{bit_number, TargetInRange}
use Rattle.clock_spec.specs.Store.{fetch, act, with_event}
use Rattle.clock_spec.specs.Phase.{edge_of, between, hear, byte_phase, write_of, is_more, shown_level}
use Rattle.clock_spec.proofs.CommandRange.{Sound, hear-sound}
use Rattle.clock.specs.Step.{next, acts, step_wires}
use Rattle.clock_spec.specs.declared.Chip.{Chip}
use Rattle.clock_spec.specs.declared.Target.{Target}
use Rattle.clock_spec.specs.declared.Target.TheVariants.{Seconds, Test, Protect, Cell}
use Rattle.clock_spec.specs.declared.Bytes.{Bytes}
use Rattle.clock_spec.specs.declared.Verdict.{Verdict}
use Rattle.clock_spec.specs.declared.Verdict.TheVariants.{More, Reads, Writes, Ignored}
use Rattle.clock_spec.specs.declared.Phase.{Phase}
use Rattle.clock_spec.specs.declared.Phase.TheVariants.{Idle, Listening, Sending, Ignoring}
use Rattle.clock_spec.specs.declared.Store.{Store}
use Rattle.clock_spec.specs.declared.Wires.{Wires}
use Rattle.clock.specs.declared.Clock.{Clock}
use Rattle.history.specs.History.{Start, Entry, History, push, wires_at, rises}
use Rattle.history.specs.Start.{begun_by, start_of, Accepted}
use Rattle.history.specs.Demand3.{clock_after, store_after}
use Rattle.history.proofs.Phases.{Parts, parts}
use Rattle.history.proofs.Bits.{made-length, newest_first, Made}
use Rattle.history.proofs.Tied.{Taken, Tie, grow, eighth}
use Rattle.history.proofs.Holds.{demand3, chip-is, tied}
use Rattle.demand3_reads.specs.Shown.{whole_read, whole_read_in, Sent, bit_shown, shown_by, fallen, sent_by, sent_at_start, said_at, read_at, sent_at, shown_at}
use Rattle.demand3_reads.proofs.Bytes.{read_of, read-part, read_made, heard-read, Quiet, quiet-more, quiet-heard}

-- ---- the tie

abbrev QuietIn : Chip → Option (List Bool) → Type 0
QuietIn k none = Unit {0}
QuietIn k (some bs) = Quiet k bs

-- No byte was taken, or all of it was shown.
abbrev Over : Option Sent → Type 0
Over none = Unit {0}
Over (some s) = 8 < s.falls

-- The phase, enable's level, the bits of the stretch and the read under way in it.
abbrev Told : Chip → Phase → Bool → Option (List Bool) → Option Sent → Type 0
Told k p true o r = (p ≡ Idle) × (r ≡ none)
Told k Idle false o r = ⊥
Told k (Listening ys n v) false o r = r ≡ none
Told k (Sending y n) false o r = QuietIn k o × (r ≡ some (record { byte = y; falls = n })) × (n < 9)
Told k Ignoring false o r = QuietIn k o × Over r

-- ---- what it shows

over-shown : (r : Option Sent) → Over r → true ≡ shown_by r
over-shown none l = refl
over-shown (some s) l = simp (ne_eqb s.falls 0 (λ e. omega arith), lt-ltb 8 s.falls l)

sending-shown : (y n : ℕ) → n < 9 → cond (eqb n 0) true (eqb (y / 2 ^ (8 - n) % 2) 1) ≡ bit_shown y n
sending-shown y n l = ap (λ (t : Bool). cond (eqb n 0) true (cond t true (eqb (y / 2 ^ (8 - n) % 2) 1))) (sym (le-ltb 8 n (omega arith)))

told-shown : (k : Chip) (p : Phase) (e : Bool) (o : Option (List Bool)) (r : Option Sent) → Told k p e o r → shown_level p ≡ shown_by r
unfolding shown_level
told-shown k p true o r (q, z) = ap shown_level q ∙ sym (ap shown_by z)
told-shown k Idle false o r i = absurd i
told-shown k (Listening ys n v) false o r z = sym (ap shown_by z)
told-shown k (Sending y n) false o r (q, z, l) = sending-shown y n l ∙ sym (ap shown_by z)
told-shown k Ignoring false o r (q, l) = over-shown r l

-- ---- one entry

-- The read under way after an entry, by the levels, the bits after it and the bytes said: what `sent_at` does.
abbrev sent_next : Chip → (Target → ℕ) → Bool → Bool → Bool → Bool → Option (List Bool) → Option Sent → Option Sent
sent_next k said e' e c c' o r =
    cond (not e && not e') (sent_by (cond ((not e && not e') && (not c && c')) (whole_read_in k o) none) said ((not e && not e') && (c && not c')) r) none

quiet-push : (k : Chip) (x : Bool) (o : Option (List Bool)) → QuietIn k o → QuietIn k (push x o)
quiet-push k x none q = tt
quiet-push k x (some bs) q = quiet-more k bs x q

quiet_none : (k : Chip) (x : Bool) (o : Option (List Bool)) → QuietIn k o → whole_read_in k (push x o) ≡ none
quiet_none k x none q = refl
quiet_none k x (some bs) q = q [] x

over-fallen : (r : Option Sent) → Over r → Over (fallen r)
over-fallen none l = tt
over-fallen (some s) l = omega arith

fall-sending : (k : Chip) (y n : ℕ) (o : Option (List Bool)) (r : Option Sent) (t : Bool) → eqb n 8 ≡ t → QuietIn k o
    → r ≡ some (record { byte = y; falls = n }) → n < 9 → Told k (cond t Ignoring (Sending y (n + 1))) false o (fallen r)
fall-sending k y n o r true e q z l = (q, subst Over (sym (ap fallen z)) (omega (arith, eqb-true n 8 e)))
fall-sending k y n o r false e q z l = (q, ap fallen z, omega (arith, eqb-false n 8 e))

-- A byte is whole: bs are the bits with its last one, w is the byte.
byte-told : (k : Chip) (s : Store) (said : Target → ℕ) (ys : Bytes) (w : ℕ) (bs : List Bool) (r : Option Sent) (v : Verdict) → hear k ys w ≡ v
    → Made bs (w ∷ newest_first ys) → ((a : Target) → TargetInRange k a → fetch a (act (write_of v w) s) ≡ said a) → r ≡ none
    → Told k (byte_phase s ys w v) false (some bs) (sent_by (read_of v) said false r)
unfolding act
byte-told k s said ys w bs r More e m F z = z
byte-told k s said ys w bs r (Reads t) e m F z =
    (quiet-heard k ys w bs m (ap is_more e), ap (λ (y : ℕ). some (record { byte = y; falls = 0 })) (sym (F t (subst (Sound k) e (hear-sound k ys w)))), omega arith)
byte-told k s said ys w bs r (Writes t) e m F z = (quiet-heard k ys w bs m (ap is_more e), subst Over (sym z) tt)
byte-told k s said ys w bs r Ignored e m F z = (quiet-heard k ys w bs m (ap is_more e), subst Over (sym z) tt)

rise-listening : (k : Chip) (s : Store) (said : Target → ℕ) (ys : Bytes) (n v : ℕ) (b : Bool) (o : Option (List Bool)) (r : Option Sent) (t : Bool) → eqb n 7 ≡ t
    → let w = 2 * v + bit_number b in ((a : Target) → TargetInRange k a → fetch a (act (cond t (write_of (hear k ys w) w) none) s) ≡ said a) → Taken ys n v o → r ≡ none
    → Told k (cond t (byte_phase s ys w (hear k ys w)) (Listening ys (n + 1) w)) false (push b o) (sent_by (whole_read_in k (push b o)) said false r)
rise-listening k s said ys n v b none r t q F i z = absurd i
rise-listening k s said ys n v b (some bs) r true q F i z =
    let w : ℕ = 2 * v + bit_number b in
    let m : Made (b ∷ bs) (w ∷ newest_first ys) = eighth ys n v b bs (eqb-true n 7 q) i in
    subst (λ (x : Option Target). Told k (byte_phase s ys w (hear k ys w)) false (some (b ∷ bs)) (sent_by x said false r))
    (sym (read_made k (w ∷ newest_first ys) (b ∷ bs) m ∙ heard-read k ys w))
    (byte-told k s said ys w (b ∷ bs) r (hear k ys w) refl m F z)
rise-listening k s said ys n v b (some bs) r false q F (l, m, f, i) z =
    ap (λ (x : Option Target). sent_by x said false r)
    (read-part k (b ∷ bs) (λ y. omega (arith, eqb-false n 7 q, made-length (newest_first ys) (drop n bs) m, length-drop n bs)))
    ∙ z

-- A rise while the chip sends or ignores.
rise-later : (k : Chip) (said : Target → ℕ) (p : Phase) (b : Bool) (o : Option (List Bool)) (r : Option Sent) → QuietIn k o → Told k p false (push b o) r
    → Told k p false (push b o) (sent_by (whole_read_in k (push b o)) said false r)
rise-later k said p b o r q i = subst (λ (x : Option Target). Told k p false (push b o) (sent_by x said false r)) (sym (quiet_none k b o q)) i

-- One entry keeps the tie; F: what the store has of a target after the entry is what is said of it.
told-step : (s : Store) (said : Target → ℕ) (p : Phase) (e' e c c' d : Bool) (o : Option (List Bool)) (r : Option Sent)
    → ((a : Target) → TargetInRange s.chip a → fetch a (act (acts s.chip p (edge_of e' e c c' d)) s) ≡ said a) → Tie s.chip p e o → Told s.chip p e o r
    → Told s.chip (next s p (edge_of e' e c c' d)) e' (grow e' e c c' d o) (sent_next s.chip said e' e c c' (grow e' e c c' d o) r)
unfolding next acts
told-step s said p true true c c' d o r F j i = (refl, refl)
told-step s said p true false c c' d o r F j i = (refl, refl)
told-step s said p false true c c' d o r F j i = refl
told-step s said p false false false false d o r F j i = i
told-step s said p false false true true d o r F j i = i
told-step s said Idle false false true false d o r F j i = absurd i
told-step s said (Listening ys n v) false false true false d o r F j i = ap fallen i
told-step s said (Sending y n) false false true false d o r F j (q, z, l) = fall-sending s.chip y n o r (eqb n 8) refl q z l
told-step s said Ignoring false false true false d o r F j (q, l) = (q, over-fallen r l)
told-step s said Idle false false false true d o r F j i = absurd i
told-step s said (Listening ys n v) false false false true d o r F j i = rise-listening s.chip s said ys n v d o r (eqb n 7) refl F j i
told-step s said (Sending y n) false false false true d o r F j (q, z, l) =
    rise-later s.chip said (Sending y n) d o r q (quiet-push s.chip d o q, z, l)
told-step s said Ignoring false false false true d o r F j (q, l) = rise-later s.chip said Ignoring d o r q (quiet-push s.chip d o q, l)

-- ---- the start

told-start : (k : Chip) (p : Phase) (e : Bool) → Parts p e → Told k p e (begun_by p) (sent_at_start p)
told-start k Idle true i = (refl, refl)
told-start k (Listening ys n v) true i = absurd (false≢true (sym i.0))
told-start k (Sending y n) true i = absurd (false≢true (sym i.0))
told-start k Ignoring true i = absurd (false≢true (sym i))
told-start k Idle false i = absurd (false≢true i)
told-start k (Listening ys n v) false i = refl
told-start k (Sending y n) false i = (tt, refl, i.1)
told-start k Ignoring false i = (tt, tt)

-- ---- every history

module _ (c : Clock) (w : Wires) (ok : Accepted c w) where
  abbrev S : Start
  S = start_of c w

  abbrev R : Option Sent
  R = sent_at_start c.phase

  -- What the store has of a target is what the history says of it: demand 3.
  fetched : (h : History) (a : Target) → TargetInRange c.store.chip a → fetch a (store_after c w h) ≡ said_at S R h a
  unfolding fetch
  fetched h (Seconds k) l = ap (λ (x : ℕ). x / 256 ^ k % 256) (demand3 c w ok h).store.seconds
  fetched h Test l = (demand3 c w ok h).store.test
  fetched h Protect l = refl
  fetched h (Cell i) l = (demand3 c w ok h).store.cells i l

  told : (h : History) → Told c.store.chip (clock_after c w h).phase (wires_at S h).enable (rises S h) (sent_at S R h)
  unfolding clock_after step_wires between rises wires_at read_at sent_at
  told [] = told-start c.store.chip c.phase w.enable (parts c.store.chip c.phase w.enable ok.phase)
  told (e ∷ h) =
      let k : Chip = (store_after c w h).chip in
      let o : Option (List Bool) = rises S h in
      let said : Target → ℕ = said_at S R (e ∷ h) in
      subst
      (λ (k : Chip). Told k (clock_after c w (e ∷ h)).phase e.wires.enable (rises S (e ∷ h))
      (sent_next k said e.wires.enable (wires_at S h).enable (wires_at S h).dataclock e.wires.dataclock (rises S (e ∷ h)) (sent_at S R h)))
      (chip-is c w ok h)
      (told-step (with_event e.event (store_after c w h)) said (clock_after c w h).phase e.wires.enable (wires_at S h).enable
      (wires_at S h).dataclock e.wires.dataclock e.wires.dataline o (sent_at S R h)
      (λ a l. fetched (e ∷ h) a (subst (λ (k : Chip). TargetInRange k a) (chip-is c w ok h) l))
      (tied c w ok h)
      (subst (λ (k : Chip). Told k (clock_after c w h).phase (wires_at S h).enable o (sent_at S R h)) (sym (chip-is c w ok h)) (told h)))

  -- After every history from every accepted start the chip shows what the history says.
  pub shows : (h : History) → shown_level (clock_after c w h).phase ≡ shown_at S R h
  unfolding shown_at
  shows h = told-shown c.store.chip (clock_after c w h).phase (wires_at S h).enable (rises S h) (sent_at S R h) (told h)
