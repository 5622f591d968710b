-- Eight pulses of the keyboard's clock, with any waits between them.
use mathlib.Core.Path.{◌≡◌, refl, sym, ap, ap₂, subst, ◌∙◌}
use mathlib.Core.Bool.{Bool, true, false, cond, or-true}
use mathlib.Core.List.{List, [], ◌∷◌}
use Prim.Native.Nat.{ℕ, zero, suc, ◌+◌, ◌*◌, ◌/◌, ◌%◌, ◌<◌}
use native.Mathlib.Omega.{arith}
use native.Mathlib.Nat.{add_assoc, add-zero, zero-add}
use lib.ListN.{length}
use lib.Arith.{digits_div, digits_mod}
use borrow.Author.Tests.{lt-ltb}
use Rattle.via_bits.specs.Bytes.{bit}
use Rattle.via.specs.Setters.{with_sr, with_pulses}
use Rattle.via.specs.Via.{ticks}
use Rattle.via.specs.Shift.{shifted_of, pulse_of}
use Rattle.via.specs.EightPulses.{bits_of, pulsed, given, total, flagged, EightPulses}
use Rattle.via.specs.declared.Access.{Access}
use Rattle.via.specs.declared.Via.{Via}
use Rattle.via.proofs.Bits.{or-bit}
use Rattle.via.proofs.Waits.{waits, ticks-add}

-- ---- time passes beside the shift register
abbrev at : ℕ → ℕ → Via → Via
at k s v = with_pulses (with_sr v s) k

beside : (n k s : ℕ) (v : Via) → ticks n (at k s v) ≡ at k s (ticks n v)
beside n k s v = waits n (at k s v) ∙ sym (ap (at k s) (waits n v))

pulses-ticks : (n : ℕ) (v : Via) → (ticks n v).pulses ≡ v.pulses
pulses-ticks n v = ap (λ (u : Via). u.pulses) (waits n v)

sr-ticks : (n : ℕ) (v : Via) → (ticks n v).sr ≡ v.sr
sr-ticks n v = ap (λ (u : Via). u.sr) (waits n v)

acr-ticks : (n : ℕ) (v : Via) → (ticks n v).acr ≡ v.acr
acr-ticks n v = ap (λ (u : Via). u.acr) (waits n v)

-- ---- one pulse in a mode, out or in
abbrev mode : Bool → ℕ
mode out = cond out 7 3

-- the bit that register 10 takes, and the value
abbrev taken : Bool → ℕ → ℕ → ℕ
taken out s l = cond out (s / 128) l

abbrev up : Bool → ℕ → ℕ → ℕ
up out s l = s % 128 * 2 + taken out s l

in-mode : (out : Bool) (l : ℕ) (v : Via) → v.acr / 4 % 8 ≡ mode out
    → pulse_of l v ≡ record { via = shifted_of (taken out v.sr l) v; value = cond out (v.sr / 128) 0 }
unfolding pulse_of
in-mode true l v e = simp e
in-mode false l v e = simp e

-- the VIA when n ticks have passed since v, with this count and register 10
abbrev since : ℕ → ℕ → ℕ → Via → Via
since n k s v = at k s (ticks n v)

one : (out : Bool) (w l n k s : ℕ) (v : Via) → v.acr / 4 % 8 ≡ mode out
    → pulse_of l (ticks w (since n k s v)) ≡ record { via = shifted_of (taken out s l) (since (n + w) k s v); value = cond out (s / 128) 0 }
one out w l n k s v e =
    ap (pulse_of l) (beside w k s (ticks n v) ∙ ap (at k s) (sym (ticks-add n w v)))
    ∙ in-mode out l (since (n + w) k s v) (ap (λ (x : ℕ). x / 4 % 8) (acr-ticks (n + w) v) ∙ e)

early : (out : Bool) (l n k s : ℕ) (v : Via) → k < 7 → shifted_of (taken out s l) (since n k s v) ≡ since n (k + 1) (up out s l) v
unfolding shifted_of
early out l n k s v h = simp (lt-ltb k 7 h)

last : (out : Bool) (l n s : ℕ) (v : Via) → shifted_of (taken out s l) (since n 7 s v) ≡ at 0 (up out s l) (flagged n v)
unfolding shifted_of
last out l n s v = refl

-- ---- what is left of eight pulses, j of them before the last
abbrev ups : Bool → ℕ → List ℕ → ℕ
ups out s [] = s
ups out s (l ∷ ls) = ups out (up out s l) ls

abbrev outs : Bool → ℕ → List ℕ → List ℕ
outs out s [] = []
outs out s (l ∷ ls) = cond out (s / 128) 0 ∷ outs out (up out s l) ls

final : (out : Bool) (ws ls : List ℕ) (n s : ℕ) (v : Via) → v.acr / 4 % 8 ≡ mode out → length ws ≡ 1 → length ls ≡ 1
    → (pulsed ws ls (since n 7 s v) ≡ at 0 (ups out s ls) (flagged (n + total ws) v)) × (given ws ls (since n 7 s v) ≡ outs out s ls)
unfolding pulsed given total
final out [] ls n s v e a b = absurd (omega arith)
final out (w ∷ w' ∷ ws) ls n s v e a b = absurd (omega arith)
final out (w ∷ []) [] n s v e a b = absurd (omega arith)
final out (w ∷ []) (l ∷ l' ∷ ls) n s v e a b = absurd (omega arith)
final out (w ∷ []) (l ∷ []) n s v e a b =
    let p : pulse_of l (ticks w (since n 7 s v)) ≡ record { via = at 0 (up out s l) (flagged (n + w) v); value = cond out (s / 128) 0 } =
    one out w l n 7 s v e
    ∙ ap (λ (u : Via). record { via = u; value = cond out (s / 128) 0 }) (last out l (n + w) s v) in
    (ap (λ (x : Access). x.via) p ∙ ap (λ (x : ℕ). at 0 (up out s l) (flagged (n + x) v)) (sym (add-zero w)), ap (λ (x : Access). x.value ∷ []) p)

rest : (j : ℕ) (out : Bool) (ws ls : List ℕ) (n k s : ℕ) (v : Via) → v.acr / 4 % 8 ≡ mode out → j + k ≡ 7 → length ws ≡ suc j → length ls ≡ suc j
    → (pulsed ws ls (since n k s v) ≡ at 0 (ups out s ls) (flagged (n + total ws) v)) × (given ws ls (since n k s v) ≡ outs out s ls)
unfolding pulsed given total
rest zero out ws ls n k s v e h a b =
    let k7 : 7 ≡ k = omega arith in
    subst (λ (x : ℕ). (pulsed ws ls (since n x s v) ≡ at 0 (ups out s ls) (flagged (n + total ws) v)) × (given ws ls (since n x s v) ≡ outs out s ls)) k7
    (final out ws ls n s v e a b)
rest (suc j) out [] ls n k s v e h a b = absurd (omega arith)
rest (suc j) out (w ∷ ws) [] n k s v e h a b = absurd (omega arith)
rest (suc j) out (w ∷ ws) (l ∷ ls) n k s v e h a b =
    let p : pulse_of l (ticks w (since n k s v)) ≡ record { via = since (n + w) (k + 1) (up out s l) v; value = cond out (s / 128) 0 } =
    one out w l n k s v e
    ∙ ap (λ (u : Via). record { via = u; value = cond out (s / 128) 0 }) (early out l (n + w) k s v (omega arith)) in
    let q = rest j out ws ls (n + w) (k + 1) (up out s l) v e (omega arith) (omega arith) (omega arith) in (
      ap (λ (x : Access). pulsed ws ls x.via) p ∙ q.0 ∙ ap (λ (x : ℕ). at 0 (ups out (up out s l) ls) (flagged x v)) (add_assoc n w (total ws)),
      ap (λ (x : Access). x.value ∷ given ws ls x.via) p ∙ ap (λ (x : List ℕ). cond out (s / 128) 0 ∷ x) q.1,
    )

-- eight pulses from a count of 0
eight : (out : Bool) (ws ls : List ℕ) (v : Via) → v.acr / 4 % 8 ≡ mode out → v.pulses ≡ 0 → length ws ≡ 8 → length ls ≡ 8
    → (pulsed ws ls v ≡ with_sr (flagged (total ws) v) (ups out v.sr ls)) × (given ws ls v ≡ outs out v.sr ls)
unfolding ticks
eight out ws ls v e h a b =
    let q = rest 7 out ws ls 0 0 v.sr v e refl a b in
    let z : v ≡ since 0 0 v.sr v = ap (with_pulses v) h in
    let t : with_sr (flagged (total ws) v) (ups out v.sr ls) ≡ at 0 (ups out v.sr ls) (flagged (total ws) v) =
    ap (with_pulses (with_sr (flagged (total ws) v) (ups out v.sr ls))) (pulses-ticks (total ws) v ∙ h) in
    (ap (pulsed ws ls) z ∙ q.0 ∙ ap (λ (x : ℕ). at 0 (ups out v.sr ls) (flagged x v)) (zero-add (total ws)) ∙ sym t, ap (given ws ls) z ∙ q.1)

-- ---- the byte
-- register 10 by its bit 7 and the rest: what one pulse makes of it
moved : (out : Bool) (f l hi r b g : ℕ) → f ≡ hi * 128 + r → r < 128 → cond out hi l ≡ b → r * 2 + b ≡ g → (up out f l ≡ g) × (f / 128 ≡ hi)
moved out f l hi r b g e h t q =
    let low : f % 128 ≡ r = ap (λ (x : ℕ). x % 128) e ∙ digits_mod hi h in
    let top : f / 128 ≡ hi = ap (λ (x : ℕ). x / 128) e ∙ digits_div hi h in
    (ap₂ (λ (x y : ℕ). x * 2 + y) low (ap (λ (x : ℕ). cond out x l) top ∙ t) ∙ q, top)

join : (out : Bool) (f l g hi x : ℕ) (ls bs : List ℕ) → (up out f l ≡ g) × (f / 128 ≡ hi) → (ups out g ls ≡ x) × (outs out g ls ≡ bs)
    → (ups out f (l ∷ ls) ≡ x) × (outs out f (l ∷ ls) ≡ cond out hi 0 ∷ bs)
join out f l g hi x ls bs u r = (
  ap (λ (y : ℕ). ups out y ls) u.0 ∙ r.0,
  ap₂ (λ (y z : ℕ). cond out y 0 ∷ outs out z ls) u.1 u.0 ∙ ap (λ (y : List ℕ). cond out hi 0 ∷ y) r.1,
)

-- register 10, first s, takes the bits of x in turn and gives those of s
byte : (out : Bool) (s x a b c d e f g h : ℕ) → x < 256
    → cond out (s / 128) a ≡ x / 128 % 2 → cond out (s / 64 % 2) b ≡ x / 64 % 2 → cond out (s / 32 % 2) c ≡ x / 32 % 2 → cond out (s / 16 % 2) d ≡ x / 16 % 2
    → cond out (s / 8 % 2) e ≡ x / 8 % 2 → cond out (s / 4 % 2) f ≡ x / 4 % 2 → cond out (s / 2 % 2) g ≡ x / 2 % 2 → cond out (s % 2) h ≡ x % 2
    → (ups out s (a ∷ b ∷ c ∷ d ∷ e ∷ f ∷ g ∷ h ∷ []) ≡ x)
    × (outs out s (a ∷ b ∷ c ∷ d ∷ e ∷ f ∷ g ∷ h ∷ [])
    ≡ cond out (s / 128) 0 ∷ cond out (s / 64 % 2) 0 ∷ cond out (s / 32 % 2) 0 ∷ cond out (s / 16 % 2) 0 ∷ cond out (s / 8 % 2) 0 ∷ cond out (s / 4 % 2) 0
    ∷ cond out (s / 2 % 2) 0 ∷ cond out (s % 2) 0 ∷ [])
byte out s x a b c d e f g h k ta tb tc td te tf tg th =
    join out s a (s % 128 * 2 + x / 128) (s / 128) x (b ∷ c ∷ d ∷ e ∷ f ∷ g ∷ h ∷ []) (cond out (s / 64 % 2) 0 ∷ cond out (s / 32 % 2) 0 ∷ cond out (s / 16 % 2) 0 ∷ cond out (s / 8 % 2) 0 ∷ cond out (s / 4 % 2) 0 ∷ cond out (s / 2 % 2) 0 ∷ cond out (s % 2) 0 ∷ []) (moved out s a (s / 128) (s % 128) (x / 128 % 2) (s % 128 * 2 + x / 128) (omega arith) (omega arith) ta (omega arith))
    (join out (s % 128 * 2 + x / 128) b (s % 64 * 4 + x / 64) (s / 64 % 2) x (c ∷ d ∷ e ∷ f ∷ g ∷ h ∷ []) (cond out (s / 32 % 2) 0 ∷ cond out (s / 16 % 2) 0 ∷ cond out (s / 8 % 2) 0 ∷ cond out (s / 4 % 2) 0 ∷ cond out (s / 2 % 2) 0 ∷ cond out (s % 2) 0 ∷ []) (moved out (s % 128 * 2 + x / 128) b (s / 64 % 2) (s % 64 * 2 + x / 128) (x / 64 % 2) (s % 64 * 4 + x / 64) (omega arith) (omega arith) tb (omega arith))
    (join out (s % 64 * 4 + x / 64) c (s % 32 * 8 + x / 32) (s / 32 % 2) x (d ∷ e ∷ f ∷ g ∷ h ∷ []) (cond out (s / 16 % 2) 0 ∷ cond out (s / 8 % 2) 0 ∷ cond out (s / 4 % 2) 0 ∷ cond out (s / 2 % 2) 0 ∷ cond out (s % 2) 0 ∷ []) (moved out (s % 64 * 4 + x / 64) c (s / 32 % 2) (s % 32 * 4 + x / 64) (x / 32 % 2) (s % 32 * 8 + x / 32) (omega arith) (omega arith) tc (omega arith))
    (join out (s % 32 * 8 + x / 32) d (s % 16 * 16 + x / 16) (s / 16 % 2) x (e ∷ f ∷ g ∷ h ∷ []) (cond out (s / 8 % 2) 0 ∷ cond out (s / 4 % 2) 0 ∷ cond out (s / 2 % 2) 0 ∷ cond out (s % 2) 0 ∷ []) (moved out (s % 32 * 8 + x / 32) d (s / 16 % 2) (s % 16 * 8 + x / 32) (x / 16 % 2) (s % 16 * 16 + x / 16) (omega arith) (omega arith) td (omega arith))
    (join out (s % 16 * 16 + x / 16) e (s % 8 * 32 + x / 8) (s / 8 % 2) x (f ∷ g ∷ h ∷ []) (cond out (s / 4 % 2) 0 ∷ cond out (s / 2 % 2) 0 ∷ cond out (s % 2) 0 ∷ []) (moved out (s % 16 * 16 + x / 16) e (s / 8 % 2) (s % 8 * 16 + x / 16) (x / 8 % 2) (s % 8 * 32 + x / 8) (omega arith) (omega arith) te (omega arith))
    (join out (s % 8 * 32 + x / 8) f (s % 4 * 64 + x / 4) (s / 4 % 2) x (g ∷ h ∷ []) (cond out (s / 2 % 2) 0 ∷ cond out (s % 2) 0 ∷ []) (moved out (s % 8 * 32 + x / 8) f (s / 4 % 2) (s % 4 * 32 + x / 8) (x / 4 % 2) (s % 4 * 64 + x / 4) (omega arith) (omega arith) tf (omega arith))
    (join out (s % 4 * 64 + x / 4) g (s % 2 * 128 + x / 2) (s / 2 % 2) x (h ∷ []) (cond out (s % 2) 0 ∷ []) (moved out (s % 4 * 64 + x / 4) g (s / 2 % 2) (s % 2 * 64 + x / 4) (x / 2 % 2) (s % 2 * 128 + x / 2) (omega arith) (omega arith) tg (omega arith))
    (join out (s % 2 * 128 + x / 2) h x (s % 2) x [] [] (moved out (s % 2 * 128 + x / 2) h (s % 2) (x / 2) (x % 2) x refl (omega arith) th (omega arith)) (refl, refl))))))))

byte-in : (s x : ℕ) → x < 256 → (ups false s (bits_of x) ≡ x) × (outs false s (bits_of x) ≡ 0 ∷ 0 ∷ 0 ∷ 0 ∷ 0 ∷ 0 ∷ 0 ∷ 0 ∷ [])
byte-in s x k = byte false s x _ _ _ _ _ _ _ _ k refl refl refl refl refl refl refl refl

byte-out : (s : ℕ) (ls : List ℕ) → length ls ≡ 8 → s < 256 → (ups true s ls ≡ s) × (outs true s ls ≡ bits_of s)
byte-out s (a ∷ b ∷ c ∷ d ∷ e ∷ f ∷ g ∷ h ∷ []) n k =
    let top : s / 128 ≡ s / 128 % 2 = omega arith in
    let r = byte true s s a b c d e f g h k top refl refl refl refl refl refl refl in
    (r.0, r.1 ∙ ap (λ (x : ℕ). x ∷ s / 64 % 2 ∷ s / 32 % 2 ∷ s / 16 % 2 ∷ s / 8 % 2 ∷ s / 4 % 2 ∷ s / 2 % 2 ∷ s % 2 ∷ []) top)
byte-out s [] n k = absurd (omega arith)
byte-out s (a ∷ []) n k = absurd (omega arith)
byte-out s (a ∷ b ∷ []) n k = absurd (omega arith)
byte-out s (a ∷ b ∷ c ∷ []) n k = absurd (omega arith)
byte-out s (a ∷ b ∷ c ∷ d ∷ []) n k = absurd (omega arith)
byte-out s (a ∷ b ∷ c ∷ d ∷ e ∷ []) n k = absurd (omega arith)
byte-out s (a ∷ b ∷ c ∷ d ∷ e ∷ f ∷ []) n k = absurd (omega arith)
byte-out s (a ∷ b ∷ c ∷ d ∷ e ∷ f ∷ g ∷ []) n k = absurd (omega arith)
byte-out s (a ∷ b ∷ c ∷ d ∷ e ∷ f ∷ g ∷ h ∷ i ∷ ls) n k = absurd (omega arith)

pub eight-pulses : (v : Via) → EightPulses v
eight-pulses v =
    record {
      shift_in = λ ws x n z e k.
          let q = eight false ws (bits_of x) v e z n refl in
          let b = byte-in v.sr x k in
          (q.0 ∙ ap (with_sr (flagged (total ws) v)) b.0, q.1 ∙ b.1);
      shift_out = λ ws ls n l z e k.
          let q = eight true ws ls v e z n l in
          let b = byte-out v.sr ls l k in
          (q.0 ∙ ap (with_sr (flagged (total ws) v)) (b.0 ∙ sym (sr-ticks (total ws) v)), q.1 ∙ b.1);
      flag2 = λ n. or-bit 2 (ticks n v).flags 4 ∙ or-true (bit 2 (ticks n v).flags);
    }
