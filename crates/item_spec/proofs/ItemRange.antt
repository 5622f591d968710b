-- What the decoder lets through is within range, and of bytes within width.
use Prim.Native.Nat.{ℕ, ◌+◌, ◌≤◌, ◌<◌}
use mathlib.Core.Path.{◌≡◌, refl, subst}
use mathlib.Core.Bool.{Bool, true, false, cond}
use mathlib.Core.List.{List, [], ◌∷◌}
use native.Mathlib.Omega.{arith}
use lib.ListN.{length, get_or}
use lib.Dec.{ltb, eqb}
use Rattle.std.specs.Prelude.{Option, Some, None, Result, Ok, Err}
use Rattle.refusal.specs.declared.Refusal.{Refusal}
use Rattle.refusal.specs.declared.Refusal.TheVariants.{WrongLength, OutOfRange}
use borrow.Author.Tests.{ltb-false, eqb-true, eqb-false}
use Rattle.octets.specs.Octets.{le32_of, Bytes}
use Rattle.units.specs.declared.WaitTicks.{WaitTicks}
use Rattle.octets.proofs.Laws.{le16-width, le32-width}
use Rattle.item_spec.specs.Addresses.{found_of}
use Rattle.item_spec.specs.Items.{of_length, at_address, record_wait, read_from, write_to, read_record, write_record, power_record, plain_item, plain_record, LocationInRange, ItemInRange, ItemInWidth}
use Rattle.item_spec.specs.Ranged.{at_most, line_record, is_retired, sense_record, disk_record, pulse_record}
use Rattle.item_spec.specs.Many.{counted_record, many_at, many_record, single, ManyInRange, ManyInWidth}
use Rattle.item_spec.specs.Kinds.{is_kind, one, many, decoded_of}
use Rattle.item_spec.specs.declared.Item.{Item}
use Rattle.item_spec.specs.declared.Many.{Many}
use Rattle.item_spec.specs.declared.Decoded.{Decoded}
use Rattle.item_spec.specs.declared.Decoded.TheVariants.{One}
use Rattle.item_spec.specs.declared.Plain.{Plain}
use Rattle.item_spec.specs.declared.Location.{Location}
use Rattle.item_spec.specs.declared.Location.TheVariants.{Via, Iwm}
use Rattle.item_spec.proofs.Addresses.{found-via, found-iwm}

-- P holds of what is not refused
abbrev pub Accepted : {T : Type 0} → (T → Type 0) → Result T Refusal → Type 0
Accepted P (Ok x) = P x
Accepted P (Err r) = Unit {0}

-- P holds of the item, Q of the many writes, if there is one
abbrev pub Good : (Item → Type 0) → (Many → Type 0) → Result Decoded Refusal → Type 0
Good P Q (Ok (One x)) = P x
Good P Q (Ok (Decoded.Many x)) = Q x
Good P Q (Err r) = Unit {0}

-- the two bytes of VB, SE and RS
abbrev pub plain_kind : Plain → List ℕ
plain_kind Plain.Blank = 86 ∷ 66 ∷ []
plain_kind Plain.Second = 83 ∷ 69 ∷ []
plain_kind Plain.Reset = 82 ∷ 83 ∷ []

module _ {T : Type 0} (P : T → Type 0) where
  pub good-cond : (t : Bool) (x y : Result T Refusal) → Accepted P x → Accepted P y → Accepted P (cond t x y)
  good-cond true x y g h = g
  good-cond false x y g h = h

  pub good-sized : (s : List ℕ) (n : ℕ) (x : Result T Refusal) → Accepted P x → Accepted P (of_length s n x)
  good-sized s n x g = good-cond (eqb (length s) n) x (Err WrongLength) g tt

  pub good-up_to : (v most : ℕ) (x : Result T Refusal) → (v ≤ most → Accepted P x) → Accepted P (at_most v most x)
  good-up_to v most x g = go (ltb most v) refl
    where
      go : (t : Bool) → ltb most v ≡ t → Accepted P (cond t (Err OutOfRange) x)
      go true e = tt
      go false e = g (ltb-false _ _ e)

  pub good_placed : (a : ℕ) (f : Location → Result T Refusal) → ((l : Location) → found_of a ≡ Some l → LocationInRange l → Accepted P (f l)) → Accepted P (at_address (found_of a) f)
  good_placed a f p = go (found_of a) refl
    where
      go : (x : Option Location) → found_of a ≡ x → Accepted P (at_address x f)
      go (Some (Via r)) e = p (Via r) e (found-via a r e).0
      go (Some (Iwm k)) e = p (Iwm k) e (found-iwm a k e).0
      go None e = tt

-- an MW by its count and its length
good-counted : (Q : Many → Type 0) (s : List ℕ) (x : Many) → (10 ≤ length s → length s ≤ 73 → Q x) → Accepted Q (counted_record s x)
unfolding counted_record
good-counted Q s x q = go (eqb (get_or s 8 0) 0) (ltb 64 (get_or s 8 0)) (eqb (length s) (9 + get_or s 8 0)) refl refl refl
  where
    go : (a b c : Bool) → eqb (get_or s 8 0) 0 ≡ a → ltb 64 (get_or s 8 0) ≡ b → eqb (length s) (9 + get_or s 8 0) ≡ c
        → Accepted Q (cond a (Err OutOfRange) (cond b (Err OutOfRange) (cond c (Ok x) (Err WrongLength))))
    go true b c p q r = tt
    go false true c p q r = tt
    go false false false p q r = tt
    go false false true p u r =
        let l : length s ≡ 9 + get_or s 8 0 = eqb-true _ _ r in
        let h : get_or s 8 0 ≤ 64 = ltb-false _ _ u in
        let k : get_or s 8 0 ≡ 0 → ⊥ = eqb-false _ _ p in
        q (omega arith) (omega arith)

pub good-many : (Q : Many → Type 0) (s : List ℕ) → ((l : Location) → found_of (le32_of s 4) ≡ Some l → LocationInRange l → 10 ≤ length s → length s ≤ 73 → Q (many_at s l)) → Accepted Q (many_record s)
unfolding many_record
good-many Q s q =
    good-cond Q (ltb (length s) 9) _ _ tt
    (good_placed Q (le32_of s 4) (λ l. counted_record s (many_at s l)) (λ l e h. good-counted Q s (many_at s l) (q l e h)))

module _ (P : Item → Type 0) (Q : Many → Type 0) where
  good-one : (r : Result Item Refusal) → Accepted P r → Good P Q (one r)
  good-one (Ok x) g = g
  good-one (Err r) g = tt

  good-of_many : (r : Result Many Refusal) → Accepted Q r → Good P Q (many r)
  good-of_many (Ok x) g = g
  good-of_many (Err r) g = tt

  -- of a record known to be of the kind
  good-kind : (t : Bool) (x y : Result Decoded Refusal) → (t ≡ true → Good P Q x) → Good P Q y → Good P Q (cond t x y)
  good-kind true x y g h = g refl
  good-kind false x y g h = h

  -- the table of kinds, once for every P and Q
  pub good-all : (s : List ℕ) → (is_kind s (82 ∷ 68 ∷ []) ≡ true → Accepted P (read_record s)) → (is_kind s (87 ∷ 82 ∷ []) ≡ true → Accepted P (write_record s))
      → ((k : Plain) → is_kind s (plain_kind k) ≡ true → Accepted P (plain_record s k)) → (is_kind s (73 ∷ 78 ∷ []) ≡ true → Accepted P (line_record s)) → (is_kind s (83 ∷ 78 ∷ []) ≡ true → Accepted P (sense_record s))
      → (is_kind s (80 ∷ 87 ∷ []) ≡ true → Accepted P (power_record s)) → (is_kind s (68 ∷ 73 ∷ []) ≡ true → Accepted P (disk_record s)) → (is_kind s (77 ∷ 87 ∷ []) ≡ true → Accepted Q (many_record s))
      → (is_kind s (75 ∷ 67 ∷ []) ≡ true → Accepted P (pulse_record s)) → Good P Q (decoded_of s)
  unfolding decoded_of
  good-all s rd wr plain line sn pw di mw kc =
      good-kind (is_kind s (82 ∷ 68 ∷ [])) _ _ (λ k. good-one _ (rd k))
      (good-kind (is_kind s (87 ∷ 82 ∷ [])) _ _ (λ k. good-one _ (wr k))
      (good-kind (is_kind s (86 ∷ 66 ∷ [])) _ _ (λ k. good-one _ (plain Plain.Blank k))
      (good-kind (is_kind s (83 ∷ 69 ∷ [])) _ _ (λ k. good-one _ (plain Plain.Second k))
      (good-kind (is_kind s (73 ∷ 78 ∷ [])) _ _ (λ k. good-one _ (line k))
      (good-kind (is_kind s (83 ∷ 78 ∷ [])) _ _ (λ k. good-one _ (sn k))
      (good-kind (is_kind s (82 ∷ 83 ∷ [])) _ _ (λ k. good-one _ (plain Plain.Reset k))
      (good-kind (is_kind s (80 ∷ 87 ∷ [])) _ _ (λ k. good-one _ (pw k))
      (good-kind (is_kind s (68 ∷ 73 ∷ [])) _ _ (λ k. good-one _ (di k))
      (good-kind (is_kind s (77 ∷ 87 ∷ [])) _ _ (λ k. good-of_many _ (mw k))
      (good-kind (is_kind s (75 ∷ 67 ∷ [])) _ _ (λ k. good-one _ (kc k)) tt))))))))))

plain-range : (k : Plain) (w : WaitTicks) → ItemInRange (plain_item k w)
plain-range Plain.Blank w = tt
plain-range Plain.Second w = tt
plain-range Plain.Reset w = tt

read-range : (l : Location) (w : WaitTicks) → LocationInRange l → ItemInRange (read_from l w)
read-range (Via r) w h = h
read-range (Iwm k) w h = h

write-range : (l : Location) (w : WaitTicks) (v : ℕ) → LocationInRange l → ItemInRange (write_to l w v)
write-range (Via r) w v h = h
write-range (Iwm k) w v h = h

in-range : (s : List ℕ) → Good ItemInRange (ManyInRange s) (decoded_of s)
unfolding read_record write_record line_record sense_record power_record disk_record pulse_record plain_record
in-range s =
    good-all ItemInRange (ManyInRange s) s
    (λ kind. good-sized ItemInRange s 8 _ (good_placed ItemInRange (le32_of s 4) (λ l. Ok (read_from l (record_wait s))) (λ l e h. read-range l (record_wait s) h)))
    (λ kind. good-sized ItemInRange s 9 _ (good_placed ItemInRange (le32_of s 4) (λ l. Ok (write_to l (record_wait s) (get_or s 8 0))) (λ l e h. write-range l (record_wait s) (get_or s 8 0) h)))
    (λ k kind. good-sized ItemInRange s 4 _ (plain-range k (record_wait s)))
    (λ kind. good-sized ItemInRange s 6 _ (good-up_to ItemInRange (get_or s 4 0) 6 _ (λ a. good-up_to ItemInRange (get_or s 5 0) 1 _ (λ b. (omega arith, omega arith)))))
    (λ kind. good-sized ItemInRange s 7 _ (good-up_to ItemInRange (get_or s 4 0) 1 _ (λ a. good-up_to ItemInRange (get_or s 5 0) 15 _ (λ b. good-up_to ItemInRange (get_or s 6 0) 1 _ (λ c. good-cond ItemInRange (is_retired (get_or s 5 0)) _ _ tt (omega arith, omega arith, omega arith))))))
    (λ kind. good-sized ItemInRange s 8 _ tt)
    (λ kind. good-sized ItemInRange s 8 _
    (good-up_to ItemInRange (get_or s 4 0) 1 _ (λ a. good-up_to ItemInRange (get_or s 5 0) 1 _ (λ b. good-up_to ItemInRange (get_or s 6 0) 1 _ (λ c. good-up_to ItemInRange (get_or s 7 0) 1 _ (λ d. (omega arith, omega arith, omega arith, omega arith)))))))
    (λ kind. good-many (ManyInRange s) s (λ l e h least most. record { wait = refl; found = e; number = h; least = least; most = most }))
    (λ kind. good-sized ItemInRange s 5 _ (good-up_to ItemInRange (get_or s 4 0) 1 _ (λ a. omega arith)))

-- every item that the decoder lets through is in range
pub decoded-range : (s : List ℕ) (x : Item) → decoded_of s ≡ Ok (One x) → ItemInRange x
decoded-range s x e = subst (Good ItemInRange (ManyInRange s)) e (in-range s)

-- and every MW
pub many-range : (s : List ℕ) (x : Many) → decoded_of s ≡ Ok (Decoded.Many x) → ManyInRange s x
many-range s x e = subst (Good ItemInRange (ManyInRange s)) e (in-range s)

plain-width : (k : Plain) (w : WaitTicks) → w.0 < 65536 → ItemInWidth (plain_item k w)
plain-width Plain.Blank w h = h
plain-width Plain.Second w h = h
plain-width Plain.Reset w h = h

read-width : (l : Location) (w : WaitTicks) → w.0 < 65536 → ItemInWidth (read_from l w)
read-width (Via r) w h = h
read-width (Iwm k) w h = h

write-width : (l : Location) (w : WaitTicks) (v : ℕ) → w.0 < 65536 → v < 256 → ItemInWidth (write_to l w v)
write-width (Via r) w v h k = (h, k)
write-width (Iwm l) w v h k = (h, k)

in-width : (s : List ℕ) → Bytes s → Good ItemInWidth ManyInWidth (decoded_of s)
unfolding read_record write_record line_record sense_record power_record disk_record pulse_record plain_record
in-width s bs =
    let w : (record_wait s).0 < 65536 = le16-width s 2 bs in
    good-all ItemInWidth ManyInWidth s
    (λ kind. good-sized ItemInWidth s 8 _ (good_placed ItemInWidth (le32_of s 4) (λ l. Ok (read_from l (record_wait s))) (λ l e h. read-width l (record_wait s) w)))
    (λ kind. good-sized ItemInWidth s 9 _ (good_placed ItemInWidth (le32_of s 4) (λ l. Ok (write_to l (record_wait s) (get_or s 8 0))) (λ l e h. write-width l (record_wait s) (get_or s 8 0) w (bs 8))))
    (λ k kind. good-sized ItemInWidth s 4 _ (plain-width k (record_wait s) w))
    (λ kind. good-sized ItemInWidth s 6 _ (good-up_to ItemInWidth (get_or s 4 0) 6 _ (λ a. good-up_to ItemInWidth (get_or s 5 0) 1 _ (λ b. w))))
    (λ kind. good-sized ItemInWidth s 7 _ (good-up_to ItemInWidth (get_or s 4 0) 1 _ (λ a. good-up_to ItemInWidth (get_or s 5 0) 15 _ (λ b. good-up_to ItemInWidth (get_or s 6 0) 1 _ (λ c. good-cond ItemInWidth (is_retired (get_or s 5 0)) _ _ tt w)))))
    (λ kind. good-sized ItemInWidth s 8 _ (w, le32-width s 4 bs))
    (λ kind. good-sized ItemInWidth s 8 _
    (good-up_to ItemInWidth (get_or s 4 0) 1 _ (λ a. good-up_to ItemInWidth (get_or s 5 0) 1 _ (λ b. good-up_to ItemInWidth (get_or s 6 0) 1 _ (λ c. good-up_to ItemInWidth (get_or s 7 0) 1 _ (λ d. w))))))
    (λ kind. good-many ManyInWidth s (λ l e h least most. w))
    (λ kind. good-sized ItemInWidth s 5 _ (good-up_to ItemInWidth (get_or s 4 0) 1 _ (λ a. w)))

-- of a record of bytes, the item's wait, value and seconds are within their widths
pub decoded-width : (s : List ℕ) (x : Item) → Bytes s → decoded_of s ≡ Ok (One x) → ItemInWidth x
decoded-width s x bs e = subst (Good ItemInWidth ManyInWidth) e (in-width s bs)

pub many-width : (s : List ℕ) (x : Many) → Bytes s → decoded_of s ≡ Ok (Decoded.Many x) → ManyInWidth x
many-width s x bs e = subst (Good ItemInWidth ManyInWidth) e (in-width s bs)

-- each single WR of an MW is in range and in width where the MW is
pub single-range : (x : Many) → LocationInRange x.to → (w : WaitTicks) (v : ℕ) → ItemInRange (single x w v)
single-range x h w v = write-range x.to w v h

pub single-width : (x : Many) (w : WaitTicks) (v : ℕ) → w.0 < 65536 → v < 256 → ItemInWidth (single x w v)
single-width x w v h k = write-width x.to w v h k
