-- The clock's parts: as long as the layout says, and read back what was written.
use Prim.Native.Nat.{ℕ, ◌+◌, ◌≤◌, ◌<◌}
use mathlib.Core.Path.{◌≡◌, refl, sym, ap, ap₂, subst, ◌∙◌}
use mathlib.Core.Bool.{Bool, true, false, cond, ◌&&◌, and-true, not, false≢true}
use mathlib.Core.List.{List, [], ◌∷◌, ◌++◌}
use native.Mathlib.Omega.{arith}
use native.Mathlib.Nat.{le_of_eq}
use lib.Dec.{eqb, ltb}
use lib.ListN.{length, get_or, take, drop, replicate, length-append, length-drop, length-replicate, take-append-drop, drop_of_length-le}
use lib.Seq.{take_all, take_at, take-suc, drop_at, get_or_at, length-take-le}
use borrow.Author.Tests.{ltb-true, eq-eqb}
use Rattle.levels.specs.Levels.{all_below}
use Rattle.levels.proofs.Laws.{both}
use Rattle.octets.specs.Octets.{put_at}
use Rattle.octets.proofs.Laws.{put-length}
use Rattle.clock_spec.specs.Command.{cells_of, Legal}
use Rattle.clock_spec.specs.Patterns.{meant}
use Rattle.clock_spec.specs.Phase.{by_second, hear, is_more, few_bits, more_follows, accepted_phase}
use Rattle.clock_spec.specs.Store.{unused_clear}
use Rattle.clock_spec.proofs.CommandRange.{meant-legal}
use Rattle.clock_spec.specs.declared.Chip.{Chip}
use Rattle.clock_spec.specs.declared.Chip.TheVariants.{First, Later}
use Rattle.clock_spec.specs.declared.Command.{Command}
use Rattle.clock_spec.specs.declared.Command.TheVariants.{Write, Read, Extended, Illegal}
use Rattle.clock_spec.specs.declared.Bytes.{Bytes}
use Rattle.clock_spec.specs.declared.Bytes.TheVariants.{Nothing, One, Two}
use Rattle.clock_spec.specs.declared.Phase.{Phase}
use Rattle.clock_spec.specs.declared.Phase.TheVariants.{Idle, Listening, Sending, Ignoring}
use Rattle.clock_spec.specs.declared.Store.{Store}
use Rattle.clock.specs.declared.Clock.{Clock}
use Rattle.image_spec.specs.Layout.{phase_length, registers_length, cells_length, more_cells, tail_length, same_bytes}
use Rattle.image_spec.proofs.Numbers.{flag-back, back32, width32}
use Rattle.image_spec.proofs.Parts.{whole, same_more}
use Rattle.image_spec.proofs.Equal.{same_refl}
use Rattle.image_spec.specs.ClockLayout.{phase_bytes, second_byte, phase_by, phase_of, tail_room, tail_bytes, tail_of, register_bytes, store_of, cells_read, second_of, clock_of, StoreTyped}

pub phase-long : (p : Phase) → length (phase_bytes p) ≡ phase_length
unfolding phase_bytes
phase-long Idle = refl
phase-long (Listening Nothing n v) = refl
phase-long (Listening (One c) n v) = refl
phase-long (Listening (Two c d) n v) = refl
phase-long (Sending y n) = refl
phase-long Ignoring = refl

phase-back : (p : Phase) → phase_of (phase_bytes p) (second_byte p) ≡ p
unfolding phase_by phase_bytes second_byte
phase-back Idle = refl
phase-back (Listening Nothing n v) = refl
phase-back (Listening (One c) n v) = refl
phase-back (Listening (Two c d) n v) = refl
phase-back (Sending y n) = refl
phase-back Ignoring = refl

-- ---- the first chip has no second command byte

abbrev is_first : Chip → Bool
is_first First = true
is_first Later = false

none-follows : (c : Command) (d : ℕ) → Legal First c → is_more (by_second c d) ≡ true → ⊥
none-follows (Write t) d l h = false≢true h
none-follows (Read t) d l h = false≢true h
none-follows (Extended z a) d l h = false≢true (sym (ap is_first l.0))
none-follows Illegal d l h = false≢true h

no_second : (p : Phase) (e : Bool) → accepted_phase First p e ≡ true → second_byte p ≡ 0
unfolding accepted_phase second_byte more_follows hear
no_second Idle e h = refl
no_second (Listening Nothing n v) e h = refl
no_second (Listening (One c) n v) e h = refl
no_second (Listening (Two c d) n v) e h =
    let f : more_follows First (Two c d) ≡ true = (both (more_follows First (Two c d)) (few_bits n v) (both (not e) (more_follows First (Two c d) && few_bits n v) h).1).0 in
    absurd (none-follows (meant First c) d (meant-legal First c) (both (ltb c 256 && ltb d 256) (is_more (hear First (One c) d)) f).1)
no_second (Sending y n) e h = refl
no_second Ignoring e h = refl

-- ---- the tail

pub tail-long : (k : Chip) (p : Phase) (cells : List ℕ) → length cells ≡ 256 → length (tail_bytes k p cells) ≡ tail_length k
unfolding tail_bytes
tail-long First p cells l = refl
tail-long Later p cells l =
    let n : length (tail_room p cells) ≡ 237 = omega (arith, length-append (drop cells_length cells) (second_byte p ∷ []), length-drop cells_length cells) in
    ap length (take_all 237 (tail_room p cells) (le_of_eq n)) ∙ n

zeros : (l : List ℕ) → all_below 1 l ≡ true → l ≡ replicate (length l) 0
unfolding all_below
zeros [] h = refl
zeros (x ∷ l) h =
    let p = both (ltb x 1) (all_below 1 l) h in
    let z : x ≡ 0 = omega (arith, ltb-true x 1 p.0) in
    ap₂ (λ (y : ℕ) (r : List ℕ). y ∷ r) z (zeros l p.1)

-- What is read of the tail that was written.
pub record TailBack (k : Chip) (p : Phase) (cells : List ℕ) : Type 0 where
  pub more : take more_cells (tail_of (tail_bytes k p cells)) ≡ drop (cells_of First) cells
  pub second : get_or (tail_of (tail_bytes k p cells)) more_cells 0 ≡ second_byte p

tail-back : (k : Chip) (p : Phase) (e : Bool) (cells : List ℕ) → length cells ≡ 256 → all_below 1 (drop (cells_of k) cells) ≡ true → accepted_phase k p e ≡ true
    → TailBack k p cells
unfolding tail_bytes tail_of
tail-back First p e cells l u a =
    let n : length (drop cells_length cells) ≡ 236 = omega (arith, length-drop cells_length cells) in
    record {
      more = sym (zeros (drop cells_length cells) u ∙ ap (λ (j : ℕ). replicate j 0) n);
      second = sym (no_second p e a);
    }
tail-back Later p e cells l u a =
    let n : length (drop cells_length cells) ≡ 236 = omega (arith, length-drop cells_length cells) in
    let m : length (tail_room p cells) ≡ 237 = omega (arith, length-append (drop cells_length cells) (second_byte p ∷ [])) in
    let t : take 237 (tail_room p cells) ≡ tail_room p cells = take_all 237 (tail_room p cells) (le_of_eq m) in
    let w : put_at (replicate 237 0) 0 (take 237 (tail_room p cells)) ≡ tail_room p cells =
    ap (put_at (replicate 237 0) 0) t ∙ whole (replicate 237 0) (tail_room p cells) (length-replicate {A = ℕ} 237 0 ∙ sym m) in
    record {
      more = ap (take 236) w ∙ take_at (drop cells_length cells) (second_byte p ∷ []) 236 n;
      second = ap (λ (x : List ℕ). get_or x 236 0) w ∙ get_or_at (drop cells_length cells) (second_byte p) [] 0 236 n;
    }

-- ---- the tail's very bytes

-- Without a second command byte read there is none in the phase.
second_none : (k c n v : ℕ) → second_byte (phase_by k c 0 n v) ≡ 0
unfolding phase_by second_byte
second_none k c n v = go (eqb k 0) (eqb k 1) (eqb k 2) (eqb k 3) (eqb k 5)
  where
    go : (h i j l m : Bool)
        → second_byte (cond h Idle (cond i (Listening Nothing n v) (cond j (Listening (One c) n v) (cond l (Sending v n) (cond m (Listening (Two c 0) n v) Ignoring))))) ≡ 0
    go true i j l m = refl
    go false true j l m = refl
    go false false true l m = refl
    go false false false true m = refl
    go false false false false true = refl
    go false false false false false = refl

-- The cells of the tail stand as they are read, so that it goes by the second command byte.
pub tail-exact : (k : Chip) (b first t : List ℕ) → length first ≡ cells_length → length t ≡ tail_length k
    → same_bytes (tail_bytes k (phase_of b (second_of t)) (cells_read first t)) t ≡ eqb (second_byte (phase_of b (second_of t))) (second_of t)
unfolding tail_bytes tail_of same_bytes
tail-exact First b first [] l n = sym (eq-eqb _ 0 (second_none (get_or b 0 0) (get_or b 1 0) (get_or b 2 0) (get_or b 3 0)))
tail-exact First b first (x ∷ t) l n = absurd (omega (arith, n))
tail-exact Later b first t l n =
    let w : put_at (replicate 237 0) 0 t ≡ t = whole (replicate 237 0) t (length-replicate {A = ℕ} 237 0 ∙ sym n) in
    let y : ℕ = second_byte (phase_of b (second_of t)) in
    let x : List ℕ = take 236 t in
    let m : length x ≡ 236 = length-take-le 236 t (omega (arith, n)) in
    let r : drop cells_length (cells_read first t) ≡ x = drop_at first (take 236 (put_at (replicate 237 0) 0 t)) cells_length l ∙ ap (take 236) w in
    let u : length (x ++ (y ∷ [])) ≡ 237 = omega (arith, length-append x (y ∷ []), m) in
    let d : get_or t 236 0 ≡ second_of t = ap (λ (z : List ℕ). get_or z 236 0) (sym w) in
    let whole-t : t ≡ x ++ (second_of t ∷ []) = sym (take_all 237 t (le_of_eq n)) ∙ take-suc t 236 0 (omega (arith, n)) ∙ ap (λ (z : ℕ). x ++ (z ∷ [])) d in
    ap (λ (z : List ℕ). same_bytes (take 237 (z ++ (y ∷ []))) t) r
    ∙ ap (λ (z : List ℕ). same_bytes z t) (take_all 237 (x ++ (y ∷ [])) (le_of_eq u))
    ∙ ap (same_bytes (x ++ (y ∷ []))) whole-t
    ∙ same_more x x (y ∷ []) (second_of t ∷ []) refl
    ∙ ap (λ (z : Bool). z && (eqb y (second_of t) && true)) (same_refl x)
    ∙ and-true (eqb y (second_of t))

-- ---- the whole

pub registers-long : (s : Store) → length (register_bytes s) ≡ registers_length
unfolding register_bytes
registers-long s = refl

store-back : (s : Store) → StoreTyped s → store_of s.chip (register_bytes s) s.cells ≡ s
unfolding register_bytes store_of
store-back s t = simp (back32 s.seconds t.0, flag-back)

pub clock-back : (c : Clock) (e : Bool) → StoreTyped c.store → accepted_phase c.store.chip c.phase e ≡ true → unused_clear c.store ≡ true
    → clock_of c.store.chip (phase_bytes c.phase) (register_bytes c.store) (take cells_length c.store.cells) (tail_bytes c.store.chip c.phase c.store.cells) ≡ c
unfolding unused_clear clock_of
clock-back c e t a u =
    let b = tail-back c.store.chip c.phase e c.store.cells t.1 u a in
    let cells : cells_read (take cells_length c.store.cells) (tail_bytes c.store.chip c.phase c.store.cells) ≡ c.store.cells =
    ap (λ (x : List ℕ). take cells_length c.store.cells ++ x) b.more ∙ take-append-drop cells_length c.store.cells in
    ap₂ (λ (p : Phase) (s : Store). record { phase = p; store = s })
    (ap (phase_of (phase_bytes c.phase)) b.second ∙ phase-back c.phase)
    (ap (store_of c.store.chip (register_bytes c.store)) cells ∙ store-back c.store t)

pub store-typed : (k : Chip) (b cells : List ℕ) → length cells ≡ 256 → StoreTyped (store_of k b cells)
unfolding store_of
store-typed k b cells e = (width32 b 2, e)

pub tail-most : (k : Chip) → tail_length k ≤ more_cells + 1
tail-most First = omega arith
tail-most Later = omega arith

-- Cells are read as many as the struct has.
pub read-long : (k : Chip) (first t : List ℕ) → length first ≡ cells_length → length t ≡ tail_length k → length (cells_read first t) ≡ 256
unfolding tail_of
read-long k first t l h =
    let r : List ℕ = replicate 237 0 in
    let n : length r ≡ 237 = length-replicate {A = ℕ} 237 0 in
    let q : length (put_at r 0 t) ≡ 237 = put-length r 0 t (omega (arith, tail-most k)) ∙ n in
    omega (arith, length-append first (take 236 (put_at r 0 t)), length-take-le 236 (put_at r 0 t) (omega arith))

-- The cells that the chip does not have are read as 0.
pub read-clear : (k : Chip) (b first t : List ℕ) → length first ≡ cells_length → length t ≡ tail_length k → unused_clear (store_of k b (cells_read first t)) ≡ true
unfolding unused_clear store_of tail_of all_below
read-clear First b first [] l n = ap (all_below 1) (drop_at first (take 236 (put_at (replicate 237 0) 0 [])) cells_length l)
read-clear First b first (x ∷ t) l n = absurd (omega (arith, n))
read-clear Later b first t l n = ap (all_below 1) (drop_of_length-le (cells_read first t) (le_of_eq (read-long Later first t l n)))
