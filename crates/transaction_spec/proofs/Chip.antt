-- What a transaction's items do to the chip, by the three levels alone. No port, no byte and no machine is in it: each law is computed.
use Prim.Native.Nat.{ℕ, zero, suc, ◌+◌, ◌*◌, ◌/◌, ◌%◌, ◌<◌}
use mathlib.Core.Path.{◌≡◌, refl, ap, ◌∙◌}
use mathlib.Core.Bool.{Bool, true, false, cond}
use mathlib.Core.List.{List, [], ◌∷◌, ◌++◌}
use mathlib.Core.Option.{some}
use native.Mathlib.Omega.{arith}
use lib.Dec.{eqb}
use Rattle.clock_spec.specs.Command.{either, bit_number}
use Rattle.clock_spec.specs.Store.{act, fetch}
use Rattle.clock_spec.specs.Phase.{edge_of, shown_level, by_first, by_second, by_third, hear, byte_phase, write_of}
use Rattle.clock_spec.specs.Patterns.{bits_high_first, meant, second_meant, extend}
use Rattle.clock_spec.specs.declared.Command.{Command}
use Rattle.clock_spec.specs.declared.Command.TheVariants.{Extended}
use Rattle.clock_spec.specs.declared.Target.{Target}
use Rattle.clock_spec.specs.declared.Store.{Store}
use Rattle.clock_spec.specs.declared.Chip.{Chip}
use Rattle.clock_spec.specs.declared.Bytes.{Bytes}
use Rattle.clock_spec.specs.declared.Bytes.TheVariants.{Nothing, One, Two}
use Rattle.clock_spec.specs.declared.Verdict.{Verdict}
use Rattle.clock_spec.specs.declared.Verdict.TheVariants.{More, Reads, Writes}
use Rattle.clock_spec.specs.declared.Phase.{Phase}
use Rattle.clock_spec.specs.declared.Phase.TheVariants.{Idle, Listening, Sending, Ignoring}
use Rattle.clock.specs.Step.{next, acts}
use Rattle.transaction_spec.specs.declared.Act.{Act}
use Rattle.transaction_spec.specs.declared.Act.TheVariants.{Port, Side, Look}
use Rattle.transaction_spec.specs.Acts.{sends, called, second_sent, closing, data_acts}

-- The output bits of enable, data-clock and data, whether data is an output, and the chip.
pub record Held : Type 0 where
  pub e : Bool
  pub c : Bool
  pub b : Bool
  pub x : Bool
  pub phase : Phase
  pub store : Store

abbrev pub held : Bool → Bool → Bool → Bool → Phase → Store → Held
held e c b x p s = record { e = e; c = c; b = b; x = x; phase = p; store = s }

abbrev pub after : Held → Bool → Bool → Bool → Bool → Held
after h e c b x =
    let g = edge_of e h.e h.c c (cond x b (shown_level h.phase)) in
    held e c b x (next h.store h.phase g) (act (acts h.store.chip h.phase g) h.store)

abbrev pub moved : Held → Act → Held
moved h (Port e c b) = after h e c b h.x
moved h (Side x) = after h h.e h.c h.b x
moved h Look = after h h.e h.c h.b h.x

abbrev pub ran : Held → List Act → Held
ran h [] = h
ran h (a ∷ xs) = ran (moved h a) xs

pub ran-join : (h : Held) (xs ys : List Act) → ran h (xs ++ ys) ≡ ran (ran h xs) ys
ran-join h [] ys = refl
ran-join h (a ∷ xs) ys = ran-join (moved h a) xs ys

-- The level of the data line at each look.
abbrev pub seen : Held → List Act → List Bool
seen h [] = []
seen h (Port e c b ∷ xs) = seen (moved h (Port e c b)) xs
seen h (Side x ∷ xs) = seen (moved h (Side x)) xs
seen h (Look ∷ xs) = cond h.x h.b (shown_level h.phase) ∷ seen (moved h Look) xs

-- ---- a byte's bits are the byte

pub flag : (x : ℕ) → bit_number (eqb (x % 2) 1) ≡ x % 2
flag x = go (x % 2) (omega arith)
  where
    go : (n : ℕ) → n < 2 → bit_number (eqb n 1) ≡ n
    go zero h = refl
    go (suc zero) h = refl
    go (suc (suc n)) h = absurd (omega arith)

-- The value that the chip makes of a byte's bits.
abbrev valued : ℕ → List Bool → ℕ
valued v [] = v
valued v (b ∷ bs) = valued (2 * v + bit_number b) bs

abbrev value : ℕ → ℕ
value c = valued 0 (bits_high_first 8 c)

pub value-is : (c : ℕ) → c < 256 → value c ≡ c
value-is c h =
    let e7 : 2 * 0 + c / 128 % 2 ≡ c / 128 = omega arith in
    let e6 : 2 * (c / 128) + c / 64 % 2 ≡ c / 64 = omega arith in
    let e5 : 2 * (c / 64) + c / 32 % 2 ≡ c / 32 = omega arith in
    let e4 : 2 * (c / 32) + c / 16 % 2 ≡ c / 16 = omega arith in
    let e3 : 2 * (c / 16) + c / 8 % 2 ≡ c / 8 = omega arith in
    let e2 : 2 * (c / 8) + c / 4 % 2 ≡ c / 4 = omega arith in
    let e1 : 2 * (c / 4) + c / 2 % 2 ≡ c / 2 = omega arith in
    let e0 : 2 * (c / 2) + c / 1 % 2 ≡ c = omega arith in
    simp (flag, e7, e6, e5, e4, e3, e2, e1, e0)

-- ---- a byte: eight rises, whatever bytes came before it

-- The chip after the byte v, by its verdict; b is the last level put on the data line.
abbrev after_hear : Store → Bytes → Bool → ℕ → Verdict → Held
after_hear s bs b v w = held false true b true (byte_phase s bs v w) (act (write_of w v) s)

abbrev low_bit : ℕ → Bool
low_bit v = eqb (v / 1 % 2) 1

heard : (s : Store) (bs : Bytes) (c b : Bool) (v : ℕ)
    → ran (held false c b true (Listening bs 0 0) s) (sends (bits_high_first 8 v)) ≡ after_hear s bs (low_bit v) (value v) (hear s.chip bs (value v))
unfolding next acts act shown_level
heard s bs true b v = refl
heard s bs false b v = refl

heard-as : (s : Store) (bs : Bytes) (c b : Bool) (v : ℕ) (w : Verdict) → v < 256 → hear s.chip bs v ≡ w
    → ran (held false c b true (Listening bs 0 0) s) (sends (bits_high_first 8 v)) ≡ after_hear s bs (low_bit v) v w
heard-as s bs c b v w h e =
    heard s bs c b v
    ∙ ap (λ (n : ℕ). after_hear s bs (low_bit v) n (hear s.chip bs n)) (value-is v h)
    ∙ ap (λ (x : Verdict). after_hear s bs (low_bit v) v x) e

-- ---- eight falls

sent : (s : Store) (y d : ℕ) (b : Bool)
    → (ran (held false true b true (Sending y 0) s) (data_acts true d) ≡ held true true false false Idle s)
    × (seen (held false true b true (Sending y 0) s) (data_acts true d) ≡ bits_high_first 8 y)
unfolding next acts act shown_level
sent s y d b = (refl, refl)

-- ---- the command, of one byte or of two

-- What the command's bytes mean to a chip.
abbrev pub Means : Chip → Bool → Bool → ℕ → ℕ → Target → Type 0
Means k false z c e t = meant k c ≡ either z t
Means k true z c e t = (meant k c ≡ Extended z (c % 8)) × (second_meant z (c % 8) e ≡ either z t)

abbrev command_bytes : Bool → ℕ → ℕ → Bytes
command_bytes false c e = One c
command_bytes true c e = Two c e

-- A legal read has taken its byte, a legal write waits for its own.
abbrev commanded : Store → Bool → Bool → ℕ → ℕ → Target → Phase
commanded s l true c e t = Sending (fetch t s) 0
commanded s l false c e t = Listening (command_bytes l c e) 0 0

abbrev last_bit : Bool → ℕ → ℕ → Bool
last_bit false c e = low_bit c
last_bit true c e = low_bit e

abbrev free : Store → Held
free s = held true false false true Idle s

lowered : (s : Store) (c : ℕ) → ran (free s) (called c) ≡ ran (held false false false true (Listening Nothing 0 0) s) (sends (bits_high_first 8 c))
unfolding next acts act
lowered s c = refl

first-heard : (s : Store) (c : ℕ) (w : Verdict) → c < 256 → hear s.chip Nothing c ≡ w → ran (free s) (called c) ≡ after_hear s Nothing (low_bit c) c w
first-heard s c w h e = lowered s c ∙ heard-as s Nothing false false c w h e

short-heard : (s : Store) (z : Bool) (c e : ℕ) (t : Target) → c < 256 → meant s.chip c ≡ either z t
    → ran (free s) (called c) ≡ held false true (low_bit c) true (commanded s false z c e t) s
unfolding hear act
short-heard s true c e t h m = first-heard s c (Reads t) h (ap by_first m)
short-heard s false c e t h m = first-heard s c More h (ap by_first m)

long-heard : (s : Store) (z : Bool) (c e : ℕ) (t : Target) → c < 256 → e < 256
    → meant s.chip c ≡ Extended z (c % 8) → second_meant z (c % 8) e ≡ either z t
    → ran (ran (free s) (called c)) (second_sent true e) ≡ held false true (low_bit e) true (commanded s true z c e t) s
unfolding hear act
long-heard s z c e t h k m n =
    ap (λ (x : Held). ran x (second_sent true e)) (first-heard s c More h (ap by_first m))
    ∙ go z (ap (λ (x : Command). by_second x e) m ∙ ap by_first n)
  where
    go : (y : Bool) → by_second (meant s.chip c) e ≡ by_first (either y t)
        → ran (held false true (low_bit c) true (Listening (One c) 0 0) s) (second_sent true e) ≡ held false true (low_bit e) true (commanded s true y c e t) s
    go true i = heard-as s (One c) true (low_bit c) e (Reads t) k i
    go false i = heard-as s (One c) true (low_bit c) e More k i

called_is : (s : Store) (l z : Bool) (c e : ℕ) (t : Target) → c < 256 → e < 256 → Means s.chip l z c e t
    → ran (ran (free s) (called c)) (second_sent l e) ≡ held false true (last_bit l c e) true (commanded s l z c e t) s
called_is s false z c e t h k m = short-heard s z c e t h m
called_is s true z c e t h k (m, n) = long-heard s z c e t h k m n

-- ---- whole transactions, enable up before and after

-- After a legal write command the next byte completes it.
writes : (k : Chip) (l : Bool) (c e d : ℕ) (t : Target) → Means k l false c e t → hear k (command_bytes l c e) d ≡ Writes t
unfolding hear
writes k false c e d t m = ap (λ (x : Command). by_second x d) m
writes k true c e d t (m, n) = ap (λ (x : Command). by_third (extend x e)) m ∙ ap by_third n

closed : (b : Bool) (u : Store) → ran (held false true b true Ignoring u) closing ≡ held true true false true Idle u
unfolding next acts act
closed b u = refl

taken : (s : Store) (bs : Bytes) (d : ℕ) (b : Bool) (t : Target) → d < 256 → hear s.chip bs d ≡ Writes t
    → ran (held false true b true (Listening bs 0 0) s) (data_acts false d) ≡ held true true false true Idle (act (some (record { to = t; byte = d })) s)
taken s bs d b t h e =
    ran-join (held false true b true (Listening bs 0 0) s) (sends (bits_high_first 8 d)) closing
    ∙ ap (λ (x : Held). ran x closing) (heard-as s bs true b d (Writes t) h e)
    ∙ closed (low_bit d) (act (some (record { to = t; byte = d })) s)

-- The items after the opening.
abbrev pub body : Bool → Bool → ℕ → ℕ → ℕ → List Act
body z l c e d = called c ++ (second_sent l e ++ data_acts z d)

parted : (s : Store) (z l : Bool) (c e d : ℕ) → ran (free s) (body z l c e d) ≡ ran (ran (ran (free s) (called c)) (second_sent l e)) (data_acts z d)
parted s z l c e d = ran-join (free s) (called c) (second_sent l e ++ data_acts z d) ∙ ran-join (ran (free s) (called c)) (second_sent l e) (data_acts z d)

pub wrote : (s : Store) (l : Bool) (c e d : ℕ) (t : Target) → c < 256 → e < 256 → d < 256 → Means s.chip l false c e t
    → ran (free s) (body false l c e d) ≡ held true true false true Idle (act (some (record { to = t; byte = d })) s)
wrote s l c e d t h k g m =
    parted s false l c e d
    ∙ ap (λ (x : Held). ran x (data_acts false d)) (called_is s l false c e t h k m)
    ∙ taken s (command_bytes l c e) d (last_bit l c e) t g (writes s.chip l c e d t m)

pub seen-join : (h : Held) (xs ys : List Act) → seen h (xs ++ ys) ≡ seen h xs ++ seen (ran h xs) ys
seen-join h [] ys = refl
seen-join h (Port e c b ∷ xs) ys = seen-join (moved h (Port e c b)) xs ys
seen-join h (Side x ∷ xs) ys = seen-join (moved h (Side x)) xs ys
seen-join h (Look ∷ xs) ys = ap (◌∷◌ (cond h.x h.b (shown_level h.phase))) (seen-join (moved h Look) xs ys)

unseen : (h : Held) (l : Bool) (e : ℕ) → seen h (second_sent l e) ≡ []
unseen h true e = refl
unseen h false e = refl

pub read : (s : Store) (l : Bool) (c e d : ℕ) (t : Target) → c < 256 → e < 256 → Means s.chip l true c e t
    → (ran (free s) (body true l c e d) ≡ held true true false false Idle s)
    × (seen (free s) (body true l c e d) ≡ bits_high_first 8 (fetch t s))
read s l c e d t h k m =
    let q = called_is s l true c e t h k m in
    let z = sent s (fetch t s) d (last_bit l c e) in (
      parted s true l c e d ∙ ap (λ (x : Held). ran x (data_acts true d)) q ∙ z.0,
      seen-join (free s) (called c) (second_sent l e ++ data_acts true d)
          ∙ seen-join (ran (free s) (called c)) (second_sent l e) (data_acts true d)
          ∙ ap (λ (x : List Bool). x ++ seen (ran (ran (free s) (called c)) (second_sent l e)) (data_acts true d)) (unseen (ran (free s) (called c)) l e)
          ∙ ap (λ (x : Held). seen x (data_acts true d)) q
          ∙ z.1,
    )
