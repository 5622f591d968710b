-- Where the values of a record stand: there is always one; of a WR it is its value, of an MW they are its values.
use Prim.Native.Nat.{ℕ, ◌-◌, ◌≤◌, ◌<◌}
use mathlib.Core.Path.{◌≡◌, refl, ap, subst⁻¹, ◌∙◌}
use mathlib.Core.Bool.{Bool, true, false, cond}
use mathlib.Core.List.{List, [], ◌∷◌}
use native.Mathlib.Omega.{arith}
use lib.ListN.{length, get_or, drop, length-drop, drop_of_length-le}
use lib.Seq.{drop-cons}
use lib.Dec.{eqb}
use Rattle.std.specs.Prelude.{Result, Ok, Err}
use Rattle.refusal.specs.declared.Refusal.{Refusal}
use Rattle.refusal.specs.declared.Refusal.TheVariants.{WrongLength}
use borrow.Author.Tests.{eqb-true}
use Rattle.octets.specs.Octets.{le32_of}
use Rattle.item_spec.specs.Items.{at_address, record_wait, read_from, write_to, read_record, write_record, power_record, plain_item, plain_record}
use Rattle.item_spec.specs.Ranged.{is_retired, line_record, sense_record, disk_record, pulse_record}
use Rattle.item_spec.specs.Many.{values_of}
use Rattle.item_spec.specs.Kinds.{is_kind, decoded_of}
use Rattle.levels.proofs.Laws.{both}
use Rattle.item_spec.specs.Addresses.{found_of}
use Rattle.item_spec.specs.declared.Item.{Item}
use Rattle.item_spec.specs.declared.Item.TheVariants.{ReadVia, ReadIwm, WriteVia, WriteIwm, Blank, Second, Line, Sense, Reset, Power, Disk, Pulse}
use Rattle.item_spec.specs.declared.Many.{Many}
use Rattle.item_spec.specs.declared.Plain.{Plain}
use Rattle.item_spec.specs.declared.Location.{Location}
use Rattle.item_spec.specs.declared.Location.TheVariants.{Via, Iwm}
use Rattle.units.specs.declared.WaitTicks.{WaitTicks}
use Rattle.item_spec.proofs.ItemRange.{Accepted, Good, plain_kind, good-cond, good-sized, good-up_to, good_placed, good-many, good-all}
use Rattle.item_decode.specs.Values.{values_in}

-- The values are a write's own one; of many writes, those of the record.
abbrev pub OneValue : List ℕ → Item → Type 0
OneValue vs (ReadVia w r) = Unit {0}
OneValue vs (ReadIwm w k) = Unit {0}
OneValue vs (WriteVia w r v) = vs ≡ v ∷ []
OneValue vs (WriteIwm w k v) = vs ≡ v ∷ []
OneValue vs (Blank w) = Unit {0}
OneValue vs (Second w) = Unit {0}
OneValue vs (Line w l v) = Unit {0}
OneValue vs (Sense w d r v) = Unit {0}
OneValue vs (Reset w) = Unit {0}
OneValue vs (Power w t) = Unit {0}
OneValue vs (Disk w d i l b) = Unit {0}
OneValue vs (Pulse w l) = Unit {0}

abbrev pub AllValues : List ℕ → Many → Type 0
AllValues s x = values_in s ≡ values_of s

-- Of the kinds MW alone begins with M.
begins : (s k : List ℕ) → is_kind s k ≡ true → get_or s 0 0 ≡ get_or k 0 0
unfolding is_kind
begins s k h = eqb-true (get_or s 0 0) (get_or k 0 0) (both (eqb (get_or s 0 0) (get_or k 0 0)) (eqb (get_or s 1 0) (get_or k 1 0)) h).0

values-at : (s k : List ℕ) (b : Bool) → is_kind s k ≡ true → eqb (get_or k 0 0) 77 ≡ b → values_in s ≡ drop (cond b 9 (length s - 1)) s
values-at s k b h e = ap (λ (t : Bool). drop (cond t 9 (length s - 1)) s) (ap (λ (n : ℕ). eqb n 77) (begins s k h) ∙ e)

one_value : (s : List ℕ) → length s ≡ 9 → values_in s ≡ drop (length s - 1) s → values_in s ≡ get_or s 8 0 ∷ []
one_value s e f =
    let n : length s - 1 ≡ 8 = omega arith in
    f ∙ ap (λ (n : ℕ). drop n s) n ∙ drop-cons s 8 0 (omega arith) ∙ ap (λ (l : List ℕ). get_or s 8 0 ∷ l) (drop_of_length-le s {i = 9} (omega arith))

plain-none : (vs : List ℕ) (k : Plain) (w : WaitTicks) → OneValue vs (plain_item k w)
plain-none vs Plain.Blank w = tt
plain-none vs Plain.Second w = tt
plain-none vs Plain.Reset w = tt

-- There is always a value, at the record's end.
some_at : (s vs : List ℕ) (n : ℕ) → vs ≡ drop n s → n < length s → 0 < length vs
some_at s vs n e h = subst⁻¹ (λ (l : List ℕ). 0 < length l) e (simp length-drop (omega arith))

module _ (s : List ℕ) (long : 2 ≤ length s) where
  abbrev One : Item → Type 0
  One i = OneValue (values_in s) i × (0 < length (values_in s))

  abbrev All : Many → Type 0
  All x = AllValues s x × (0 < length (values_in s))

  -- a kind that does not begin with M has its last byte there
  ends : (k : List ℕ) → eqb (get_or k 0 0) 77 ≡ false → is_kind s k ≡ true → 0 < length (values_in s)
  ends k e h = some_at s (values_in s) (length s - 1) (values-at s k false h e) (omega arith)

  written : is_kind s (87 ∷ 82 ∷ []) ≡ true → Accepted One (write_record s)
  unfolding write_record
  written kind = go (eqb (length s) 9) refl
    where
      to : Location → Result Item Refusal
      to l = Ok (write_to l (record_wait s) (get_or s 8 0))

      value : (l : Location) → values_in s ≡ get_or s 8 0 ∷ [] → OneValue (values_in s) (write_to l (record_wait s) (get_or s 8 0))
      value (Via r) v = v
      value (Iwm k) v = v

      go : (t : Bool) → eqb (length s) 9 ≡ t → Accepted One (cond t (at_address (found_of (le32_of s 4)) to) (Err WrongLength))
      go true e =
          let v : values_in s ≡ get_or s 8 0 ∷ [] = one_value s (eqb-true _ _ e) (values-at s (87 ∷ 82 ∷ []) false kind refl) in
          good_placed One (le32_of s 4) to (λ l f h. (value l v, ends (87 ∷ 82 ∷ []) refl kind))
      go false e = tt

  read : is_kind s (82 ∷ 68 ∷ []) ≡ true → Accepted One (read_record s)
  unfolding read_record
  read kind =
      good-sized One s 8 _
      (good_placed One (le32_of s 4) (λ l. Ok (read_from l (record_wait s))) (λ l f h. (none l, ends (82 ∷ 68 ∷ []) refl kind)))
    where
      none : (l : Location) → OneValue (values_in s) (read_from l (record_wait s))
      none (Via r) = tt
      none (Iwm k) = tt

  plain : (k : Plain) → is_kind s (plain_kind k) ≡ true → Accepted One (plain_record s k)
  unfolding plain_record
  plain k kind = good-sized One s 4 _ (plain-none (values_in s) k (record_wait s), ends (plain_kind k) (other k) kind)
    where
      other : (k : Plain) → eqb (get_or (plain_kind k) 0 0) 77 ≡ false
      other Plain.Blank = refl
      other Plain.Second = refl
      other Plain.Reset = refl

  pub values-right : Good (λ i. OneValue (values_in s) i × (0 < length (values_in s))) (λ x. AllValues s x × (0 < length (values_in s))) (decoded_of s)
  unfolding line_record sense_record power_record disk_record pulse_record
  values-right =
      good-all One All s
      read
      written
      plain
      (λ kind. good-sized One s 6 _ (good-up_to One (get_or s 4 0) 6 _ (λ a. good-up_to One (get_or s 5 0) 1 _ (λ b. (tt, ends (73 ∷ 78 ∷ []) refl kind)))))
      (λ kind. good-sized One s 7 _
      (good-up_to One (get_or s 4 0) 1 _
      (λ a. good-up_to One (get_or s 5 0) 15 _ (λ b. good-up_to One (get_or s 6 0) 1 _ (λ c. good-cond One (is_retired (get_or s 5 0)) _ _ tt (tt, ends (83 ∷ 78 ∷ []) refl kind))))))
      (λ kind. good-sized One s 8 _ (tt, ends (80 ∷ 87 ∷ []) refl kind))
      (λ kind. good-sized One s 8 _
      (good-up_to One (get_or s 4 0) 1 _
      (λ a. good-up_to One (get_or s 5 0) 1 _ (λ b. good-up_to One (get_or s 6 0) 1 _ (λ c. good-up_to One (get_or s 7 0) 1 _ (λ d. (tt, ends (68 ∷ 73 ∷ []) refl kind)))))))
      (λ kind. good-many All s (λ l e h least most. let v = values-at s (77 ∷ 87 ∷ []) true kind refl in (v, some_at s (values_in s) 9 v (omega arith))))
      (λ kind. good-sized One s 5 _ (good-up_to One (get_or s 4 0) 1 _ (λ a. (tt, ends (75 ∷ 67 ∷ []) refl kind))))
