-- That the history's definitions say what document 01 says, in other words: a stretch as the list of its entries; a complete write as what the whole
-- stretch holds; the last write, and the last to protect, as a place in the history.
use mathlib.Core.Path.{◌≡◌, refl, sym, ap, ap₂, ◌∙◌}
use mathlib.Core.Bool.{Bool, true, false, cond, not, ◌&&◌, false≢true}
use mathlib.Core.List.{List, [], ◌∷◌, ◌++◌, append-nil}
use mathlib.Core.Option.{Option, none, some}
use Prim.Native.Nat.{ℕ, ◌+◌, ◌-◌, ◌≤◌}
use native.Mathlib.Omega.{arith}
use lib.Dec.{leb}
use lib.ListN.{length, take, drop, length-append}
use lib.Seq.{drop_at, drop-drop}
use borrow.Author.Tests.{eq-eqb, le-leb}
use Rattle.clock_spec.specs.Command.{num}
use Rattle.clock_spec.specs.Patterns.{meant, extend}
use Rattle.clock_spec.specs.Shared.{Written, write_by, bit7}
use Rattle.clock_spec.specs.declared.Chip.{Chip}
use Rattle.clock_spec.specs.declared.Target.{Target}
use Rattle.clock_spec.specs.declared.Target.TheVariants.{Seconds, Test, Protect, Cell}
use Rattle.clock_spec.specs.declared.Wires.{Wires}
use Rattle.history.specs.History.{Start, Entry, History, push, complete, protect_by, same_target, byte_to, wires_at, rises, ending_at, protect_at, ending_clear, last}
use Rattle.history.specs.Start.{fresh_start}
use Rattle.history.proofs.Bits.{is-16, is-24}

-- ---- the stretch

-- The bits of the rises among entries in a row of one stretch.
abbrev pub bits_in : List Wires → List Bool
bits_in [] = []
bits_in (w ∷ []) = []
bits_in (w' ∷ w ∷ ws) = cond (not w.dataclock && w'.dataclock) (w'.dataline ∷ bits_in (w ∷ ws)) (bits_in (w ∷ ws))

-- Bits after those that are begun.
abbrev pub ahead : List Bool → Option (List Bool) → Option (List Bool)
ahead bs none = none
ahead bs (some cs) = some (bs ++ cs)

module _ (S : Start) where
  -- The longest series of entries in a row with enable 0 that ends with the newest entry; none where enable is 1 there.
  unfoldable pub stretch : History → List Wires
  stretch [] = cond S.wires.enable [] (S.wires ∷ [])
  stretch (e ∷ h) = cond e.wires.enable [] (e.wires ∷ stretch h)

  -- The bits that were taken in it before the start.
  unfoldable pub opened : History → Option (List Bool)
  opened [] = cond S.wires.enable (some []) S.begun
  opened (e ∷ h) = cond e.wires.enable (some []) (opened h)

push-ahead : (b : Bool) (bs : List Bool) (o : Option (List Bool)) → push b (ahead bs o) ≡ ahead (b ∷ bs) o
push-ahead b bs none = refl
push-ahead b bs (some cs) = refl

none_ahead : (o : Option (List Bool)) → o ≡ ahead [] o
none_ahead none = refl
none_ahead (some cs) = refl

-- One more entry, both in the stretch: t says whether it is a rise.
grown : (t b : Bool) (bs : List Bool) (o r : Option (List Bool)) → r ≡ ahead bs o → cond t (push b r) r ≡ ahead (cond t (b ∷ bs) bs) o
grown true b bs o r q = ap (push b) q ∙ push-ahead b bs o
grown false b bs o r q = q

-- The wires w before and w' after, a and a' their enables; ws and o the stretch and the bits begun, if it goes back.
one_more : (w w' : Wires) (a a' : Bool) (ws : List Wires) (o r : Option (List Bool)) → (a ≡ false → r ≡ ahead (bits_in (w ∷ ws)) o)
    → cond (not a && not a') (cond ((not a && not a') && (not w.dataclock && w'.dataclock)) (push w'.dataline r) r) (some [])
    ≡ ahead (bits_in (cond a' [] (w' ∷ cond a [] (w ∷ ws)))) (cond a' (some []) (cond a (some []) o))
one_more w w' true true ws o r q = refl
one_more w w' false true ws o r q = refl
one_more w w' true false ws o r q = refl
one_more w w' false false ws o r q = grown (not w.dataclock && w'.dataclock) w'.dataline (bits_in (w ∷ ws)) o r (q refl)

low : (x : Wires) (a : Bool) (ws : List Wires) (o r : Option (List Bool)) → r ≡ ahead (bits_in (cond a [] (x ∷ ws))) (cond a (some []) o)
    → a ≡ false → r ≡ ahead (bits_in (x ∷ ws)) o
low x true ws o r q f = absurd (false≢true (sym f))
low x false ws o r q f = q

-- The rises of the newest entry's stretch are the bits in the list of its entries, after those begun at the start.
pub rises-are : (S : Start) (e : Entry) (h : History) → rises S (e ∷ h) ≡ ahead (bits_in (stretch S (e ∷ h))) (opened S (e ∷ h))
unfolding rises wires_at stretch opened
rises-are S e [] = one_more S.wires e.wires S.wires.enable e.wires.enable [] S.begun S.begun (λ f. none_ahead S.begun)
rises-are S e' (e ∷ h) =
    one_more e.wires e'.wires e.wires.enable e'.wires.enable (stretch S h) (opened S h) (rises S (e ∷ h))
    (low e.wires e.wires.enable (stretch S h) (opened S h) (rises S (e ∷ h)) (rises-are S e h))

-- From the fresh machine nothing is begun.
fresh-opened : (k : Chip) (h : History) → opened (fresh_start k) h ≡ some []
unfolding opened
fresh-opened k [] = refl
fresh-opened k (e ∷ h) = ap (cond e.wires.enable (some [])) (fresh-opened k h) ∙ either_way e.wires.enable
  where
    either_way : (a : Bool) → ◌≡◌ {A = Option (List Bool)} (cond a (some []) (some [])) (some [])
    either_way true = refl
    either_way false = refl

pub rises-fresh : (k : Chip) (e : Entry) (h : History) → rises (fresh_start k) (e ∷ h) ≡ some (bits_in (stretch (fresh_start k) (e ∷ h)))
rises-fresh k e h =
    let bs : List Bool = bits_in (stretch (fresh_start k) (e ∷ h)) in
    rises-are (fresh_start k) e h ∙ ap (ahead bs) (fresh-opened k (e ∷ h)) ∙ ap some (append-nil bs)

-- ---- the complete write

-- The first n bits of all those of a stretch.
abbrev pub first : ℕ → List Bool → List Bool
first n bs = drop (length bs - n) bs

-- The first bits are the same however the stretch goes on.
first_of : (n : ℕ) (more bs : List Bool) → n ≤ length bs → first n (more ++ bs) ≡ first n bs
first_of n more bs h =
    let i : length (more ++ bs) - n ≡ length more + (length bs - n) = omega (arith, length-append more bs) in
    ap (λ (j : ℕ). drop j (more ++ bs)) i ∙ sym (drop-drop (length bs - n) (length more) (more ++ bs))
    ∙ ap (drop (length bs - n)) (drop_at more bs (length more) refl)

first-is : (n m : ℕ) (more bs : List Bool) → length bs ≡ m + n → first n (more ++ bs) ≡ drop m bs
first-is n m more bs h = let e : length bs - n ≡ m = omega arith in first_of n more bs (omega arith) ∙ ap (λ (j : ℕ). drop j bs) e

-- What a whole stretch holds: by its first eight bits a write of bits 9 to 16, where it has at least sixteen rises.
abbrev pub held : Chip → List Bool → Option Written
held k bs = cond (leb 16 (length bs)) (write_by (meant k (num (first 8 bs))) (num (take 8 (first 16 bs)))) none

-- W-206: by its first sixteen bits a write of bits 17 to 24, where it has at least 24 rises.
abbrev pub held_long : Chip → List Bool → Option Written
held_long k bs = cond (leb 24 (length bs)) (write_by (extend (meant k (num (first 8 bs))) (num (take 8 (first 16 bs)))) (num (take 8 (first 24 bs)))) none

-- It is the write that is complete at the sixteenth rise, or at the 24th, however the stretch goes on.
pub held-is : (k : Chip) (more bs : List Bool) → length bs ≡ 16 → held k (more ++ bs) ≡ complete k bs
held-is k more bs h =
    ap (λ (t : Bool). cond t (write_by (meant k (num (first 8 (more ++ bs)))) (num (take 8 (first 16 (more ++ bs))))) none)
    (le-leb 16 (length (more ++ bs)) (omega (arith, length-append more bs)))
    ∙ ap₂ (λ (x y : List Bool). write_by (meant k (num x)) (num (take 8 y))) (first-is 8 8 more bs h) (first-is 16 0 more bs h)
    ∙ sym (is-16 k bs h)

pub held-long-is : (k : Chip) (more bs : List Bool) → length bs ≡ 24 → held_long k (more ++ bs) ≡ complete k bs
held-long-is k more bs h =
    ap (λ (t : Bool). cond t (write_by (extend (meant k (num (first 8 (more ++ bs)))) (num (take 8 (first 16 (more ++ bs))))) (num (take 8 (first 24 (more ++ bs))))) none)
    (le-leb 24 (length (more ++ bs)) (omega (arith, length-append more bs)))
    ∙ ap₂ (λ (x y : List Bool). write_by (extend (meant k (num x)) (num (take 8 y))) (num (take 8 (first 24 (more ++ bs))))) (first-is 8 16 more bs h) (first-is 16 8 more bs h)
    ∙ ap (λ (y : List Bool). write_by (extend (meant k (num (drop 16 bs))) (num (take 8 (drop 8 bs)))) (num (take 8 y))) (first-is 24 0 more bs h)
    ∙ sym (is-24 k bs h)

-- ---- the last write

-- No complete write to t ends with protect clear in the entries es after h.
abbrev goes_to : Target → Option Written → Bool
goes_to t none = false
goes_to t (some w) = same_target t w.to

not-to : (t : Target) (o : Option Written) (d : ℕ) → goes_to t o ≡ false → byte_to t o d ≡ d
not-to t none d q = refl
not-to t (some w) d q = ap (λ (x : Bool). cond x w.byte d) q

same_self : (t : Target) → same_target t t ≡ true
same_self (Seconds k) = eq-eqb k k refl
same_self Test = refl
same_self Protect = refl
same_self (Cell i) = eq-eqb i i refl

module _ (S : Start) where
  abbrev pub NoneTo : Target → History → List Entry → Type 0
  NoneTo t h [] = Unit {0}
  NoneTo t h (e ∷ es) = (goes_to t (ending_clear S (e ∷ (es ++ h))) ≡ false) × NoneTo t h es

  last-since : (t : Target) (d : ℕ) (h : History) (es : List Entry) → NoneTo t h es → last S t d (es ++ h) ≡ last S t d h
  unfolding last
  last-since t d h [] q = refl
  last-since t d h (e ∷ es) (q, k) = not-to t (ending_clear S (e ∷ (es ++ h))) (last S t d (es ++ h)) q ∙ last-since t d h es k

  -- A write of b to t that ended at an entry with protect clear, and none such since: b is the byte of the last.
  pub last-is : (t : Target) (d b : ℕ) (e : Entry) (h : History) (es : List Entry)
      → ending_clear S (e ∷ h) ≡ some (record { to = t; byte = b }) → NoneTo t (e ∷ h) es → last S t d (es ++ (e ∷ h)) ≡ b
  unfolding last
  last-is t d b e h es q k =
      last-since t d (e ∷ h) es k ∙ ap (λ (o : Option Written). byte_to t o (last S t d h)) q ∙ ap (λ (x : Bool). cond x b (last S t d h)) (same_self t)

  -- None at all: what it was at the start.
  pub last-never : (t : Target) (d : ℕ) (es : List Entry) → NoneTo t [] es → last S t d (es ++ []) ≡ d
  unfolding last
  last-never t d es k = last-since t d [] es k

-- ---- protect

not-protect : (o : Option Written) (p : Bool) → goes_to Protect o ≡ false → protect_by o p ≡ p
not-protect none p q = refl
not-protect (some w) p q = go w.to q
  where
    go : (t : Target) → same_target Protect t ≡ false → protect_by (some (record { to = t; byte = w.byte })) p ≡ p
    go (Seconds k) q = refl
    go Test q = refl
    go Protect q = absurd (false≢true (sym q))
    go (Cell i) q = refl

module _ (S : Start) where
  -- No complete write to protect ends in the entries es after h, whatever protect was.
  abbrev pub NoProtect : History → List Entry → Type 0
  NoProtect h [] = Unit {0}
  NoProtect h (e ∷ es) = (goes_to Protect (ending_at S (e ∷ (es ++ h))) ≡ false) × NoProtect h es

  -- None at all: what it was at the start, or at h.
  pub protect-since : (h : History) (es : List Entry) → NoProtect h es → protect_at S (es ++ h) ≡ protect_at S h
  unfolding protect_at
  protect-since h [] q = refl
  protect-since h (e ∷ es) (q, k) = not-protect (ending_at S (e ∷ (es ++ h))) (protect_at S (es ++ h)) q ∙ protect-since h es k

  -- A write of b to protect that ended at an entry, and none since: bit 7 of b.
  pub protect-is-last : (b : ℕ) (e : Entry) (h : History) (es : List Entry)
      → ending_at S (e ∷ h) ≡ some (record { to = Protect; byte = b }) → NoProtect (e ∷ h) es → protect_at S (es ++ (e ∷ h)) ≡ bit7 b
  unfolding protect_at
  protect-is-last b e h es q k = protect-since (e ∷ h) es k ∙ ap (λ (o : Option Written). protect_by o (protect_at S h)) q
