-- What the entry's contract says of a call, and how its code comes to it; W-209's promise of calls.
use Prim.Native.Nat.{ℕ, ◌+◌, ◌*◌, ◌/◌, ◌≤◌, ◌<◌}
use mathlib.Core.Path.{◌≡◌, refl, sym, ap, ap₂, subst, subst⁻¹, ◌∙◌}
use mathlib.Core.Bool.{Bool, true, false, cond}
use mathlib.Core.List.{List}
use native.Mathlib.Omega.{arith}
use lib.ListN.{length, take, drop, get_or}
use lib.Dec.{eqb, ltb}
use Rattle.machine_spec.specs.declared.Machine.{Machine}
use Rattle.machine_spec.specs.Machine.{wires, accepted_of}
use Rattle.run_spec.specs.Outcome.{Out}
use Rattle.image_spec.specs.Image.{machine_of, valid_image}
use Rattle.image_spec.specs.Layout.{via_at, via_length}
use Rattle.image_spec.specs.ViaLayout.{via_of}
use Rattle.entry_spec.specs.Call.{call_of}
use Rattle.entry_spec.proofs.Call.{is-run}
use Rattle.transaction_spec.specs.declared.Ask.{Ask}
use Rattle.transaction_spec.specs.declared.Ask.TheVariants.{WriteCell, WriteSeconds, WriteProtect, ReadCell, ReadSeconds}
use Rattle.transaction_spec.specs.Acts.{items}
use Rattle.transaction_spec.specs.Asked.{byte_of, has_of, acts_of, size_of, count_of}
use Rattle.transaction_spec.specs.Promise.{answers_of, Does}
use Rattle.transaction_writer.specs.Writer.{writer_answer, buffer_after}
use Rattle.transaction_writer.proofs.Runs.{first-bytes, written-does}
use Rattle.std.specs.Prelude.{Option, Some, None, Result, Ok, Err}
use Rattle.std.proofs.Common.{Fits, w8}
use Rattle.std.specs.Option.{ok_or}
use Rattle.std.specs.Result.{result_err, result_unwrap_or}
use Rattle.std.proofs.lemmas.List.{get_or-take, get_or-drop}
use Rattle.refusal.specs.Numbers.{number_of}
use Rattle.refusal.specs.Numbers as Numbers
use Rattle.refusal.specs.declared.Refusal.{Refusal}
use Rattle.refusal.specs.declared.Refusal.TheVariants.{OutOfRange, NoRoom, NotAccepted, TransactionOpen}
use Rattle.transaction_entry.specs.Call.{placed_of, request_of, answer_of, buffer_of, result_of, output_of, stop_of, written_of, CallDoes}

-- ---- a byte in is a byte asked for

abbrev byte_in : Option Ask → ℕ
byte_in (Some a) = byte_of a
byte_in None = 0

byte-by : (p f w r u v : Bool) (n d : ℕ) → d < 256
    → byte_in (cond p (Some (WriteProtect d)) (cond f (cond w (Some (WriteCell n d)) (cond r (Some (ReadCell n)) (cond u (Some (WriteSeconds n d)) (cond v (Some (ReadSeconds n)) None)))) None)) < 256
unfolding byte_of
byte-by true f w r u v n d h = h
byte-by false true true r u v n d h = h
byte-by false true false true u v n d h = omega arith
byte-by false true false false true v n d h = h
byte-by false true false false false true n d h = omega arith
byte-by false true false false false false n d h = omega arith
byte-by false false w r u v n d h = omega arith

pub byte_small : (ask number value : ℕ) → value < 256 → byte_in (request_of ask number value) < 256
unfolding request_of placed_of
byte_small ask number value h = byte-by (eqb ask 5) (ltb number 256) (eqb ask 1) (eqb ask 2) (eqb ask 3) (eqb ask 4) number value h

-- ---- the promise

-- 0 is no refusal's number.
none-refused : (x y e f : Bool) (k : ℕ) → stop_of (cond x (cond y (cond e (cond f (Err NoRoom) (Ok k)) (Err TransactionOpen)) (Err OutOfRange)) (Err NotAccepted)) ≡ 0
    → cond x (cond y (cond e (cond f (Err NoRoom) (Ok k)) (Err TransactionOpen)) (Err OutOfRange)) (Err NotAccepted) ≡ Ok k
unfolding stop_of
none-refused true true true false k h = refl
none-refused true true true true k h = absurd (omega (arith, h))
none-refused true true false f k h = absurd (omega (arith, h))
none-refused true false e f k h = absurd (omega (arith, h))
none-refused false y e f k h = absurd (omega (arith, h))

wrote : (m : Machine) (a : Ask) (room : ℕ) → stop_of (writer_answer m a room) ≡ 0 → writer_answer m a room ≡ Ok (size_of a)
unfolding writer_answer
wrote m a room h = none-refused (accepted_of m) (has_of m.clock.store.chip a) (wires m).enable (ltb room (size_of a)) (size_of a) h

module _ (i d : List ℕ) (e : valid_image i ≡ true) (p : (machine_of i).via.ports.dirb < 256) where
  -- a transaction that is written, run
  abbrev DoneBy : Ask → List ℕ → ℕ → Type 0
  DoneBy a l room = Does (machine_of i) a (call_of i l room) (answers_of (machine_of i) (items ((machine_of i).via.ports.outb / 8) ((machine_of i).via.ports.dirb / 8) (acts_of a)))

  does-by : (a : Ask) → byte_of a < 256 → writer_answer (machine_of i) a (length d) ≡ Ok (size_of a) → (room : ℕ) → 8 * count_of a ≤ room
      → DoneBy a (take (size_of a) (buffer_after (machine_of i) a d)) room
  does-by a b w room l =
      let t : List ℕ = take (size_of a) (buffer_after (machine_of i) a d) in
      subst⁻¹ (λ (o : Out). Does (machine_of i) a o (answers_of (machine_of i) (items ((machine_of i).via.ports.outb / 8) ((machine_of i).via.ports.dirb / 8) (acts_of a)))) (is-run i t room e)
      (written-does (machine_of i) a d (size_of a) w room l b p)

  whole : (a : Ask) → byte_of a < 256 → writer_answer (machine_of i) a (length d) ≡ Ok (size_of a) → CallDoes i (Some a) (written_of (Ok (size_of a))) (buffer_after (machine_of i) a d)
  unfolding written_of
  whole a b w =
      record {
        valid = e;
        ask = a;
        known = refl;
        size = refl;
        bytes = first-bytes (machine_of i) a d (size_of a) w;
        does = does-by a b w;
      }

  promise : (q : Option Ask) → byte_in q < 256 → stop_of (answer_of (machine_of i) q (length d)) ≡ 0
      → CallDoes i q (written_of (answer_of (machine_of i) q (length d))) (buffer_of (machine_of i) q d)
  unfolding answer_of buffer_of stop_of
  promise None b h = absurd (omega (arith, h))
  promise (Some a) b h =
      let w : writer_answer (machine_of i) a (length d) ≡ Ok (size_of a) = wrote (machine_of i) a (length d) h in
      subst⁻¹ (λ (x : Result ℕ Refusal). CallDoes i (Some a) (written_of x) (buffer_after (machine_of i) a d)) w (whole a b w)

-- ---- the ways out of `answer`

abbrev refusal_in : Result Ask Refusal → Refusal
refusal_in (Ok a) = OutOfRange
refusal_in (Err r) = r

module _ (i d : List ℕ) where
  -- what it answers and leaves
  abbrev pub Left : Option Ask → Result ℕ Refusal → List ℕ → Type 0
  Left q r o = (r ≡ result_of i q (length d)) × (o ≡ output_of i q d)

  pub not-valid : valid_image i ≡ false → (q : Option Ask) → Left q (Err NotAccepted) d
  unfolding result_of output_of
  not-valid e q = (simp e, simp e)

  module _ (e : valid_image i ≡ true) where
    pub none-asked : (q : Option Ask) (r : Refusal) → ok_or q OutOfRange ≡ Err r → Left q (Err r) d
    unfolding result_of output_of answer_of buffer_of
    none-asked None r h = let l : OutOfRange ≡ r = ap refusal_in h in (simp (← l, e), simp e)
    none-asked (Some a) r h = cc

    pub asked : (q : Option Ask) (a : Ask) → ok_or q OutOfRange ≡ Ok a → (m : Machine) → m ≡ machine_of i → (r : Result ℕ Refusal) → r ≡ writer_answer m a (length d)
        → (o : List ℕ) → o ≡ buffer_after m a d → Left q r o
    unfolding result_of output_of answer_of buffer_of
    asked None a h m f r p o g = cc
    asked (Some b) a h m f r p o g =
        let l : b ≡ a = ap (λ (x : Result Ask Refusal). result_unwrap_or x a) h in
        (p ∙ simp (e, f, l), g ∙ simp (e, f, l))

-- ---- the ways out of `transaction`

module _ (i : List ℕ) (q : Option Ask) (d : List ℕ) where
  -- all that the contract says
  abbrev pub Post : ℕ → ℕ → List ℕ → Type 0
  Post r w o = (r ≡ stop_of (result_of i q (length d))) × ((w ≡ written_of (result_of i q (length d))) × ((o ≡ output_of i q d) × (r ≡ 0 → CallDoes i q w o)))

  pub refused : valid_image i ≡ false → Post 7 0 d
  unfolding result_of output_of stop_of written_of
  refused e = (simp e, (simp e, (simp e, λ h. absurd (omega (arith, h)))))

  pub answered : valid_image i ≡ true → (m : Machine) → m ≡ machine_of i → m.via.ports.dirb < 256 → byte_in q < 256 → (k : Option Ask) → k ≡ q
      → (x : Result ℕ Refusal) → x ≡ answer_of m k (length d) → (o : List ℕ) → o ≡ buffer_of m k d → (r w : ℕ) → r ≡ stop_of x → w ≡ written_of x → Post r w o
  unfolding result_of output_of
  answered e m em p b k ek x ex o eo r w er ew =
      let y : x ≡ answer_of (machine_of i) q (length d) = ex ∙ ap₂ (λ (n : Machine) (z : Option Ask). answer_of n z (length d)) em ek in
      let f : o ≡ buffer_of (machine_of i) q d = eo ∙ ap₂ (λ (n : Machine) (z : Option Ask). buffer_of n z d) em ek in
      let s : r ≡ stop_of (answer_of (machine_of i) q (length d)) = er ∙ ap stop_of y in
      let t : w ≡ written_of (answer_of (machine_of i) q (length d)) = ew ∙ ap written_of y in
      let g : (machine_of i).via.ports.dirb < 256 = subst (λ (n : Machine). n.via.ports.dirb < 256) em p in (
        s ∙ simp e,
        (t ∙ simp e, (f ∙ simp e, λ h. subst⁻¹ (λ (n : ℕ). CallDoes i q n o) t (subst⁻¹ (λ (l : List ℕ). CallDoes i q (written_of (answer_of (machine_of i) q (length d))) l) f (promise i d e g q b (sym s ∙ h))))),
      )

  -- What `answer` answers and leaves, as numbers.
  pub posted : (valid_image i ≡ true → (machine_of i).via.ports.dirb < 256) → byte_in q < 256 → (x : Result ℕ Refusal) → x ≡ result_of i q (length d) → (o : List ℕ) → o ≡ output_of i q d
      → (r w : ℕ) → r ≡ stop_of x → w ≡ written_of x → Post r w o
  unfolding result_of output_of
  posted p b x ex o eo r w er ew = go (valid_image i) refl
    where
      go : (v : Bool) → valid_image i ≡ v → Post r w o
      go true e = answered e (machine_of i) refl (p e) b q refl x (ex ∙ simp e) o (eo ∙ simp e) r w er ew
      go false e = (er ∙ ap stop_of ex, (ew ∙ ap written_of ex, (eo, λ h. absurd (omega (arith, h, er ∙ ap stop_of ex ∙ sym (refused e).0)))))

-- ---- numbers

-- The number of a refusal, by the refusal that a result has.
pub stop_is : (x : Result ℕ Refusal) → Numbers.stop_of (result_err x) ≡ stop_of x
unfolding stop_of
stop_is (Ok n) = refl
stop_is (Err r) = refl

pub written_is : (x : Result ℕ Refusal) → result_unwrap_or x 0 ≡ written_of x
unfolding written_of
written_is (Ok n) = refl
written_is (Err r) = refl

-- Bytes have bytes for port B's directions.
pub dirb_small : (i : List ℕ) → ((k : ℕ) → Fits w8 (get_or i k 0)) → (machine_of i).via.ports.dirb < 256
unfolding machine_of via_of
dirb_small i h = subst⁻¹ (λ n. n < 256) (within via_length via_at 2 (omega arith)) (omega (arith, h 6))
  where
    within : (n a k : ℕ) → k < n → get_or (take n (drop a i)) k 0 ≡ get_or i (a + k) 0
    within n a k l = get_or-take n (drop a i) k 0 l ∙ get_or-drop a i k 0
