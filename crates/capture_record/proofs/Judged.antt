-- What a record's kind and its item say of it.
use Rattle.std.proofs.Common.{ℕ, ◌≡◌, ◌-◌, ◌≤◌, ◌<◌, Bor, option_map, Bool, true, false, cond, List, [], ◌∷◌, Result, Ok, Err, Option, Some, None, length, get_or, take, drop, eqb, refl, sym, ap, ◌∙◌, arith, length-drop, take_all}
use Rattle.std.specs.Option.{MatchOption}
use Rattle.std.specs.Array.{IsFirstChunk}
use Rattle.refusal.specs.declared.Refusal.{Refusal}
use Rattle.refusal.specs.declared.Refusal.TheVariants.{CutRecord, UnknownKind, WrongLength, UnknownAddress, OutOfRange, NoRoom, NotAccepted, DiskMismatch, RetiredRegister, TransactionOpen, TooManyKeys}
use Rattle.refusal.specs.Numbers.{number_of}
use Rattle.item_spec.specs.declared.Item.{Item}
use Rattle.item_spec.specs.Items.{refusal_of}
use Rattle.item_spec.specs.Ranged.{line_record, sense_record}
use Rattle.item_spec.specs.Kinds.{is_kind, decoded_of}
use Rattle.item_spec.proofs.KindLaws.{kind-line, kind-sense, refusal-one, line-through}
use Rattle.capture_spec.specs.Capture.{body_of, retired_of, line0_of}
use Rattle.capture_spec.proofs.Walk.{rest_of}

-- the bytes after the length, as the code has them
abbrev pub after : List ℕ → List ℕ
after r = take (length r - 2) (drop 2 r)

not-nine : (e : Refusal) → (e ≡ RetiredRegister → ⊥) → eqb (number_of e) 9 ≡ false
not-nine CutRecord n = refl
not-nine UnknownKind n = refl
not-nine WrongLength n = refl
not-nine UnknownAddress n = refl
not-nine OutOfRange n = refl
not-nine NoRoom n = refl
not-nine NotAccepted n = refl
not-nine DiskMismatch n = refl
not-nine RetiredRegister n = absurd (n refl)
not-nine TransactionOpen n = refl
not-nine TooManyKeys n = refl

not-zero : (e : Refusal) → eqb (number_of e) 0 ≡ false
not-zero CutRecord = refl
not-zero UnknownKind = refl
not-zero WrongLength = refl
not-zero UnknownAddress = refl
not-zero OutOfRange = refl
not-zero NoRoom = refl
not-zero NotAccepted = refl
not-zero DiskMismatch = refl
not-zero RetiredRegister = refl
not-zero TransactionOpen = refl
not-zero TooManyKeys = refl

module _ (r : List ℕ) where
  pub no-sense : is_kind (after r) (83 ∷ 78 ∷ []) ≡ false → false ≡ retired_of r
  unfolding retired_of
  no-sense k = let k₁ : is_kind (body_of r) (83 ∷ 78 ∷ []) ≡ false = rw (rest_of r 2) at k in simp k₁

  pub no-line : is_kind (after r) (73 ∷ 78 ∷ []) ≡ false → false ≡ line0_of r
  unfolding line0_of
  no-line k = let k₁ : is_kind (body_of r) (73 ∷ 78 ∷ []) ≡ false = rw (rest_of r 2) at k in simp k₁

  module _ (x : Result Item Refusal) (k : is_kind (after r) (83 ∷ 78 ∷ []) ≡ true) (e : x ≡ sense_record (after r)) where
    by-refusal : eqb (refusal_of x) 9 ≡ retired_of r
    unfolding retired_of
    by-refusal =
        let k₁ : is_kind (body_of r) (83 ∷ 78 ∷ []) ≡ true = rw (rest_of r 2) at k in
        let e₁ : x ≡ sense_record (body_of r) = rw (rest_of r 2) at e in
        let d : refusal_of (decoded_of (body_of r)) ≡ refusal_of x = ap refusal_of (kind-sense (body_of r) k₁) ∙ refusal-one (sense_record (body_of r)) ∙ ap refusal_of (sym e₁) in
        simp (k₁, d)

    pub sense-nine : x ≡ Err RetiredRegister → true ≡ retired_of r
    sense-nine q = ap (λ (y : Result Item Refusal). eqb (refusal_of y) 9) (sym q) ∙ by-refusal

    pub sense-other : (f : Refusal) → x ≡ Err f → (f ≡ RetiredRegister → ⊥) → false ≡ retired_of r
    sense-other f q n = sym (not-nine f n) ∙ ap (λ (y : Result Item Refusal). eqb (refusal_of y) 9) (sym q) ∙ by-refusal

    pub sense-ok : (i : Item) → x ≡ Ok i → false ≡ retired_of r
    sense-ok i q = ap (λ (y : Result Item Refusal). eqb (refusal_of y) 9) (sym q) ∙ by-refusal

  module _ (x : Result Item Refusal) (k : is_kind (after r) (73 ∷ 78 ∷ []) ≡ true) (e : x ≡ line_record (after r)) where
    by-line : cond (eqb (refusal_of x) 0) (eqb (get_or r 6 0) 0) false ≡ line0_of r
    unfolding line0_of
    by-line =
        let k₁ : is_kind (body_of r) (73 ∷ 78 ∷ []) ≡ true = rw (rest_of r 2) at k in
        let e₁ : x ≡ line_record (body_of r) = rw (rest_of r 2) at e in
        let d : refusal_of (decoded_of (body_of r)) ≡ refusal_of x = ap refusal_of (kind-line (body_of r) k₁) ∙ refusal-one (line_record (body_of r)) ∙ ap refusal_of (sym e₁) in
        simp (k₁, d)

    pub line-refused : (f : Refusal) → x ≡ Err f → false ≡ line0_of r
    line-refused f q =
        ap (λ (b : Bool). cond b (eqb (get_or r 6 0) 0) false) (sym (not-zero f)) ∙ ap (λ (y : Result Item Refusal). cond (eqb (refusal_of y) 0) (eqb (get_or r 6 0) 0) false) (sym q) ∙ by-line

    pub line-ok : (i : Item) → x ≡ Ok i → eqb (get_or r 6 0) 0 ≡ line0_of r
    line-ok i q = ap (λ (y : Result Item Refusal). cond (eqb (refusal_of y) 0) (eqb (get_or r 6 0) 0) false) (sym q) ∙ by-line

    pub eight : (i : Item) → x ≡ Ok i → length r ≡ 8
    eight i q =
        let e₁ : x ≡ line_record (body_of r) = rw (rest_of r 2) at e in
        let l = line-through (body_of r) (ap refusal_of (sym e₁ ∙ q)) in
        let n : length (drop 2 r) ≡ 6 = l.0 in
        omega (arith, n, length-drop 2 r)

-- a list of nine bytes is its first nine
pub chunk : (o : Option (Bor (List ℕ))) (r : List ℕ) → length r ≡ 9 → MatchOption o (length r < 9) (λ y. IsFirstChunk r y.now 9) → option_map (λ (y : Bor (List ℕ)). y.now) o ≡ Some r
chunk None r e h = absurd (omega arith)
chunk (Some y) r e h = ap Some (h.same ∙ take_all 9 r (omega arith))
