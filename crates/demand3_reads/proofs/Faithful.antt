-- What the definition of the data line says in document 01's words: a byte taken is shown by the falls after it, and nothing else is shown.
use mathlib.Core.Path.{◌≡◌, refl, sym, ap, subst, ◌∙◌}
use mathlib.Core.Bool.{Bool, true, false, cond, not, ◌&&◌, false≢true}
use mathlib.Core.List.{List, [], ◌∷◌, ◌++◌}
use mathlib.Core.Option.{Option, none, some}
use Prim.Native.Nat.{ℕ, suc, ◌+◌, ◌≤◌}
use native.Mathlib.Omega.{arith}
use lib.Dec.{eqb}
use lib.ListN.{length, take, drop, length-append}
use lib.Seq.{drop_at}
use borrow.Author.Tests.{eqb-true, eqb-false}
use Rattle.levels.proofs.Laws.{both}
use Rattle.clock_spec.specs.Command.{bit_number, num}
use Rattle.clock_spec.specs.Patterns.{meant, extend}
use Rattle.clock_spec.specs.declared.Chip.{Chip}
use Rattle.clock_spec.specs.declared.Target.{Target}
use Rattle.clock_spec.specs.declared.Command.{Command}
use Rattle.clock_spec.specs.declared.Command.TheVariants.{Write, Read, Extended, Illegal}
use Rattle.clock_spec.specs.declared.Wires.{Wires}
use Rattle.history.specs.History.{Start, Entry, History, together, is_rise, push, wires_at, rises}
use Rattle.demand3_reads.specs.Shown.{is_fall, read_by, whole_read, whole_read_in, Sent, bit_shown, shown_by, fallen, sent_by, said_at, read_at, sent_at, shown_at}
use Rattle.demand3_reads.proofs.Bytes.{is-8, is-16, not-8-16, Quiet, quiet-more}

-- ---- once a read is whole, no other comes in its stretch

abbrev IsNone : Option Target → Type 0
IsNone none = Unit {0}
IsNone (some t) = ⊥

read-once : (c : Command) (d : ℕ) (t : Target) → read_by c ≡ some t → read_by (extend c d) ≡ none
read-once (Write s) d t e = absurd (subst IsNone e tt)
read-once (Read s) d t e = refl
read-once (Extended z a) d t e = absurd (subst IsNone e tt)
read-once Illegal d t e = absurd (subst IsNone e tt)

quiet_read : (k : Chip) (bs : List Bool) (t : Target) → whole_read k bs ≡ some t → Quiet k bs
quiet_read k bs t e more b = go (eqb (length bs) 8) refl
  where
    l : List Bool
    l = b ∷ (more ++ bs)

    long : length l ≡ suc (length more + length bs)
    long = ap suc (length-append more bs)

    later : length bs ≡ 8 → (s : Bool) → eqb (length l) 16 ≡ s → whole_read k l ≡ none
    later h true q =
        let m : length l ≡ 16 = eqb-true (length l) 16 q in
        let d : drop 8 l ≡ bs = drop_at (b ∷ more) bs 8 (omega (arith, long, m, h)) in
        is-16 k l m ∙ ap (λ (x : List Bool). read_by (extend (meant k (num x)) (num (take 8 l)))) d
        ∙ read-once (meant k (num bs)) (num (take 8 l)) t (sym (is-8 k bs h) ∙ e)
    later h false q = not-8-16 k l (λ m. omega (arith, long, h, m)) (eqb-false (length l) 16 q)

    go2 : (length bs ≡ 8 → ⊥) → (s : Bool) → eqb (length bs) 16 ≡ s → whole_read k l ≡ none
    go2 n true q = let m : length bs ≡ 16 = eqb-true (length bs) 16 q in not-8-16 k l (λ x. omega (arith, long, m, x)) (λ x. omega (arith, long, m, x))
    go2 n false q = absurd (subst IsNone (sym (not-8-16 k bs n (eqb-false (length bs) 16 q)) ∙ e) tt)

    go : (s : Bool) → eqb (length bs) 8 ≡ s → whole_read k l ≡ none
    go true q = later (eqb-true (length bs) 8 q) (eqb (length l) 16) refl
    go false q = go2 (eqb-false (length bs) 8 q) (eqb (length bs) 16) refl

-- ---- the byte taken, and the falls after it

module _ (S : Start) (R : Option Sent) where
  -- The entries es, after those of h, are all in the stretch of its newest.
  abbrev pub InStretch : History → List Entry → Type 0
  InStretch h [] = Unit {0}
  InStretch h (e ∷ es) = (together (wires_at S (es ++ h)) e.wires ≡ true) × InStretch h es

  -- At none of them a read is whole.
  abbrev pub NoRead : History → List Entry → Type 0
  NoRead h [] = Unit {0}
  NoRead h (e ∷ es) = (read_at S R (e ∷ (es ++ h)) ≡ none) × NoRead h es

  no-fall : (f : Bool) (o : Option Sent) → o ≡ none → cond f (fallen o) o ≡ none
  no-fall true o z = ap fallen z
  no-fall false o z = z

  -- The falls among them.
  abbrev pub falls_since : History → List Entry → ℕ
  falls_since h [] = 0
  falls_since h (e ∷ es) = falls_since h es + bit_number (is_fall (wires_at S (es ++ h)) e.wires)

  -- The bits of the stretch hold no read to come.
  abbrev QuietIn : Option (List Bool) → Type 0
  QuietIn none = Unit {0}
  QuietIn (some bs) = Quiet S.chip bs

  quiet-in : (o : Option (List Bool)) (t : Target) → whole_read_in S.chip o ≡ some t → QuietIn o
  quiet-in none t e = tt
  quiet-in (some bs) t e = quiet_read S.chip bs t e

  quiet-push : (x : Bool) (o : Option (List Bool)) → QuietIn o → QuietIn (push x o) × (whole_read_in S.chip (push x o) ≡ none)
  quiet-push x none q = (tt, refl)
  quiet-push x (some bs) q = (quiet-more S.chip bs x q, q [] x)

  at_read : (g : History) (t : Target) → read_at S R g ≡ some t → QuietIn (rises S g) × (sent_at S R g ≡ some (record { byte = said_at S R g t; falls = 0 }))
  unfolding read_at sent_at
  at_read [] t e = absurd (subst IsNone e tt)
  at_read (e ∷ h) t q = go (is_rise (wires_at S h) e.wires) refl
    where
      a : Bool
      a = together (wires_at S h) e.wires

      go : (s : Bool) → is_rise (wires_at S h) e.wires ≡ s
          → QuietIn (rises S (e ∷ h)) × (sent_at S R (e ∷ h) ≡ some (record { byte = said_at S R (e ∷ h) t; falls = 0 }))
      go false r = absurd (subst IsNone (sym (ap (λ (s : Bool). cond s (whole_read_in S.chip (rises S (e ∷ h))) none) r) ∙ q) tt)
      go true r =
          let w : whole_read_in S.chip (rises S (e ∷ h)) ≡ some t = sym (ap (λ (s : Bool). cond s (whole_read_in S.chip (rises S (e ∷ h))) none) r) ∙ q in
          let b : a ≡ true = (both a (not (wires_at S h).dataclock && e.wires.dataclock) r).0 in (
            quiet-in (rises S (e ∷ h)) t w,
            ap (λ (s : Bool). cond s (sent_by (read_at S R (e ∷ h)) (said_at S R (e ∷ h)) (is_fall (wires_at S h) e.wires) (sent_at S R h)) none) b
                ∙ ap (λ (x : Option Target). sent_by x (said_at S R (e ∷ h)) (is_fall (wires_at S h) e.wires) (sent_at S R h)) q,
          )

  -- One entry more in the stretch.
  sent-step : (e : Entry) (h : History) (y n : ℕ) → together (wires_at S h) e.wires ≡ true → QuietIn (rises S h)
      → sent_at S R h ≡ some (record { byte = y; falls = n })
      → QuietIn (rises S (e ∷ h)) × (sent_at S R (e ∷ h) ≡ some (record { byte = y; falls = n + bit_number (is_fall (wires_at S h) e.wires) }))
  unfolding rises read_at sent_at
  sent-step e h y n a q z = go (is_rise (wires_at S h) e.wires) refl (is_fall (wires_at S h) e.wires) refl
    where
      x : Bool
      x = e.wires.dataline

      grown : (s : Bool) → is_rise (wires_at S h) e.wires ≡ s → rises S (e ∷ h) ≡ cond s (push x (rises S h)) (rises S h)
      grown s r =
          ap (λ (b : Bool). cond b (cond (is_rise (wires_at S h) e.wires) (push x (rises S h)) (rises S h)) (some [])) a
          ∙ ap (λ (b : Bool). cond b (push x (rises S h)) (rises S h)) r

      quiet-now : (s : Bool) → is_rise (wires_at S h) e.wires ≡ s → QuietIn (rises S (e ∷ h)) × (read_at S R (e ∷ h) ≡ none)
      quiet-now true r = (
        subst QuietIn (sym (grown true r)) (quiet-push x (rises S h) q).0,
        ap (λ (b : Bool). cond b (whole_read_in S.chip (rises S (e ∷ h))) none) r ∙ ap (whole_read_in S.chip) (grown true r) ∙ (quiet-push x (rises S h) q).1,
      )
      quiet-now false r = (subst QuietIn (sym (grown false r)) q, ap (λ (b : Bool). cond b (whole_read_in S.chip (rises S (e ∷ h))) none) r)

      counted : (f : Bool) → is_fall (wires_at S h) e.wires ≡ f
          → cond f (fallen (sent_at S R h)) (sent_at S R h) ≡ some (record { byte = y; falls = n + bit_number f })
      counted true r = ap fallen z
      counted false r = z ∙ ap (λ (m : ℕ). some (record { byte = y; falls = m })) (omega arith)

      go : (s : Bool) → is_rise (wires_at S h) e.wires ≡ s → (f : Bool) → is_fall (wires_at S h) e.wires ≡ f
          → QuietIn (rises S (e ∷ h)) × (sent_at S R (e ∷ h) ≡ some (record { byte = y; falls = n + bit_number (is_fall (wires_at S h) e.wires) }))
      go s r f u = (
        (quiet-now s r).0,
        ap (λ (b : Bool). cond b (sent_by (read_at S R (e ∷ h)) (said_at S R (e ∷ h)) (is_fall (wires_at S h) e.wires) (sent_at S R h)) none) a
            ∙ ap (λ (o : Option Target). sent_by o (said_at S R (e ∷ h)) (is_fall (wires_at S h) e.wires) (sent_at S R h)) (quiet-now s r).1
            ∙ counted (is_fall (wires_at S h) e.wires) refl,
      )

  sent-since : (g : History) (t : Target) → read_at S R g ≡ some t → (es : List Entry) → InStretch g es
      → QuietIn (rises S (es ++ g)) × (sent_at S R (es ++ g) ≡ some (record { byte = said_at S R g t; falls = falls_since g es }))
  sent-since g t q [] i = at_read g t q
  sent-since g t q (e ∷ es) (a, i) =
      let r = sent-since g t q es i in sent-step e (es ++ g) (said_at S R g t) (falls_since g es) a r.0 r.1

  -- "A legal read takes its byte at once, and the next eight falls show its bits 7 to 0; the line is undriven before the first and from the ninth": g is the
  -- history up to the rise at which the read is whole, es are later entries of its stretch.
  pub read-law : (g : History) (t : Target) → read_at S R g ≡ some t → (es : List Entry) → InStretch g es
      → shown_at S R (es ++ g) ≡ bit_shown (said_at S R g t) (falls_since g es)
  unfolding shown_at
  read-law g t q es i = ap shown_by (sent-since g t q es i).1

  -- Enable up, or just fallen: undriven.
  pub idle-law : (e : Entry) (h : History) → together (wires_at S h) e.wires ≡ false → shown_at S R (e ∷ h) ≡ true
  unfolding shown_at sent_at
  idle-law e h a =
      ap (λ (b : Bool). shown_by (cond b (sent_by (read_at S R (e ∷ h)) (said_at S R (e ∷ h)) (is_fall (wires_at S h) e.wires) (sent_at S R h)) none)) a

  -- In a stretch with no read whole so far: undriven.
  pub unread-law : (g : History) → sent_at S R g ≡ none → (es : List Entry) → InStretch g es → NoRead g es → shown_at S R (es ++ g) ≡ true
  unfolding shown_at sent_at
  unread-law g z es i n = ap shown_by (still g z es i n)
    where
      still : (g : History) → sent_at S R g ≡ none → (es : List Entry) → InStretch g es → NoRead g es → sent_at S R (es ++ g) ≡ none
      still g z [] i n = z
      still g z (e ∷ es) (a, i) (m, n) =
          ap (λ (b : Bool). cond b (sent_by (read_at S R (e ∷ (es ++ g))) (said_at S R (e ∷ (es ++ g))) (is_fall (wires_at S (es ++ g)) e.wires) (sent_at S R (es ++ g))) none) a
          ∙ ap (λ (o : Option Target). sent_by o (said_at S R (e ∷ (es ++ g))) (is_fall (wires_at S (es ++ g)) e.wires) (sent_at S R (es ++ g))) m
          ∙ no-fall (is_fall (wires_at S (es ++ g)) e.wires) (sent_at S R (es ++ g)) (still g z es i n)
