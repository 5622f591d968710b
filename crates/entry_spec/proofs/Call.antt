-- What a shell may rely on in a call: request W-201.
use Rattle.std.specs.Prelude.{Some}
use Rattle.refusal.specs.Numbers.{stop_of}
use Rattle.refusal.specs.declared.Refusal.TheVariants.{NoRoom, NotAccepted}
use Prim.Native.Nat.{ℕ, ◌-◌, ◌<◌, ◌≤◌}
use mathlib.Core.Path.{◌≡◌, refl, sym, ap, subst⁻¹, ◌∙◌}
use mathlib.Core.Bool.{Bool, true, false, cond}
use mathlib.Core.List.{List, [], ◌∷◌, ◌++◌}
use native.Mathlib.Omega.{arith}
use lib.ListN.{length, take, drop, length-append, length-drop}
use lib.Seq.{take_at, drop_at}
use lib.Dec.{ltb}
use Rattle.levels.proofs.Laws.{no}
use Rattle.machine_spec.specs.declared.Machine.{Machine}
use Rattle.machine_spec.specs.Machine.{accepted_of}
use Rattle.run_spec.specs.Turn.{turn_of}
use Rattle.run_spec.specs.Outcome.{Piece, whole, broken, pieces, Out, halt, onto, on_piece, run_pieces, run_of, over}
use Rattle.run_spec.proofs.Users.{accepted-kept, answers-fit}
use Rattle.image_spec.specs.Image.{image_length, image_of, machine_of, valid_image, Typed}
use Rattle.image_spec.specs.Layout.{chip_of}
use Rattle.image_spec.proofs.Round.{valid-is, image-typed, saved-valid, restore-saved}
use Rattle.demand3.specs.Runs.{Run3}
use Rattle.demand3.proofs.Runs.{run3, accepted-clock}
use Rattle.entry_spec.specs.Call.{call_of, call_image, call_answers}

-- ---- images that an accepted state has, and others

-- An accepted state has this image.
pub record Has (i : List ℕ) (m : Machine) : Type 0 where
  pub typed : Typed m
  pub accepted : accepted_of m ≡ true
  pub image : image_of m ≡ i

-- "An image that no accepted state has."
abbrev pub NoState : List ℕ → Type 0
NoState i = (m : Machine) → Has i m → ⊥

pub valid-has : (i : List ℕ) → valid_image i ≡ true → Has i (machine_of i)
valid-has i e = let v = valid-is i e in record { typed = image-typed i v.long; accepted = v.accepted; image = v.saved }

pub has-valid : (i : List ℕ) (m : Machine) → Has i m → valid_image i ≡ true
has-valid i m h = sym (ap valid_image h.image) ∙ saved-valid m h.typed h.accepted

-- "Save then restore must give the same state."
pub has-state : (i : List ℕ) (m : Machine) → Has i m → machine_of i ≡ m
has-state i m h = sym (ap machine_of h.image) ∙ restore-saved m h.typed h.accepted

pub no-state : (i : List ℕ) → NoState i → valid_image i ≡ false
no-state i h = go (valid_image i) refl
  where
    go : (b : Bool) → valid_image i ≡ b → b ≡ false
    go true e = absurd (h (machine_of i) (valid-has i e))
    go false e = refl

-- ---- refusal 7

-- The stop number is 7, both counts are 0, and the buffers that could be written keep their bytes; the list is only read.
pub record Seven (i l d : List ℕ) : Type 0 where
  pub stop : (call_of i l (length d)).stop ≡ Some NotAccepted
  pub consumed : (call_of i l (length d)).consumed ≡ 0
  pub written : length (call_of i l (length d)).answers ≡ 0
  pub machine : (call_of i l (length d)).machine ≡ machine_of i
  pub image : call_image i l (length d) ≡ i
  pub answers : call_answers i l d ≡ d

pub seven : (i l d : List ℕ) → valid_image i ≡ false → Seven i l d
unfolding call_of call_image call_answers
seven i l d e = record { stop = simp e refl; consumed = simp e refl; written = simp e refl; machine = simp e refl; image = simp e refl; answers = simp e refl }

-- "An image that no accepted state has gets refusal 7 and all three buffers keep their bytes."
pub gets-seven : (i l d : List ℕ) → NoState i → Seven i l d
gets-seven i l d h = seven i l d (no-state i h)

-- "An image of an older length then gets refusal 7": any length but that of the layout.
pub other_length : (i l d : List ℕ) → (length i ≡ image_length (chip_of i) → ⊥) → Seven i l d
other_length i l d n = seven i l d (go (valid_image i) refl)
  where
    go : (t : Bool) → valid_image i ≡ t → valid_image i ≡ false
    go true e = absurd (n (valid-is i e).long)
    go false e = e

-- ---- every other image

-- The call is the run on the restored state.
pub is-run : (i l : List ℕ) (room : ℕ) → valid_image i ≡ true → call_of i l room ≡ run_of (machine_of i) l room
unfolding call_of
is-run i l room e = simp e

-- It leaves the image of the state reached.
pub image-left : (i l : List ℕ) (room : ℕ) → valid_image i ≡ true → call_image i l room ≡ image_of (call_of i l room).machine
unfolding call_image
image-left i l room e = simp e

-- With the image of an accepted state the call is the run from that state.
pub is-run-of : (i : List ℕ) (m : Machine) → Has i m → (l : List ℕ) (room : ℕ) → call_of i l room ≡ run_of m l room
is-run-of i m h l room = is-run i l room (has-valid i m h) ∙ ap (λ (x : Machine). run_of x l room) (has-state i m h)

-- Stop number and counts are those of the run from m; its answers stand in front, and the memory past them is as it was; the image left is that of
-- the state reached.
pub record Runs (m : Machine) (i l d : List ℕ) : Type 0 where
  pub stop : (call_of i l (length d)).stop ≡ (run_of m l (length d)).stop
  pub consumed : (call_of i l (length d)).consumed ≡ (run_of m l (length d)).consumed
  pub written : length (call_of i l (length d)).answers ≡ length (run_of m l (length d)).answers
  pub front : take (length (run_of m l (length d)).answers) (call_answers i l d) ≡ (run_of m l (length d)).answers
  pub rest : drop (length (run_of m l (length d)).answers) (call_answers i l d) ≡ drop (length (run_of m l (length d)).answers) d
  pub image : call_image i l (length d) ≡ image_of (run_of m l (length d)).machine

image-of : (i : List ℕ) (m : Machine) → Has i m → (l : List ℕ) (room : ℕ) → call_image i l room ≡ image_of (run_of m l room).machine
image-of i m h l room = image-left i l room (has-valid i m h) ∙ ap (λ (o : Out). image_of o.machine) (is-run-of i m h l room)

-- "The run callable with C linkage on numbers and byte slices: a lent state image, the list, the answers."
pub runs : (i : List ℕ) (m : Machine) → Has i m → (l d : List ℕ) → Runs m i l d
unfolding call_answers
runs i m h l d =
    let o : Out = run_of m l (length d) in
    let e : call_of i l (length d) ≡ o = is-run-of i m h l (length d) in
    let a : call_answers i l d ≡ over o d = ap (λ (x : Out). over x d) e in
    record {
      stop = ap (λ (x : Out). x.stop) e;
      consumed = ap (λ (x : Out). x.consumed) e;
      written = ap (λ (x : Out). length x.answers) e;
      front = ap (take (length o.answers)) a ∙ take_at o.answers (drop (length o.answers) d) (length o.answers) refl;
      rest = ap (drop (length o.answers)) a ∙ drop_at o.answers (drop (length o.answers) d) (length o.answers) refl;
      image = image-of i m h l (length d);
    }

-- The answer memory keeps its length, whatever the image.
pub answers-long : (i l d : List ℕ) → length (call_answers i l d) ≡ length d
unfolding call_answers
answers-long i l d = go (valid_image i) refl
  where
    go : (b : Bool) → valid_image i ≡ b → length (call_answers i l d) ≡ length d
    go true e =
        let a = (run_of (machine_of i) l (length d)).answers in
        let h : length a ≤ length d = answers-fit (machine_of i) l (length d) in
        let k : length (a ++ drop (length a) d) ≡ length d = simp (length-append, length-drop) (omega (arith, h)) in
        ap (λ (o : Out). length (over o d)) (is-run i l (length d) e) ∙ k
    go false e = ap length (seven i l d e).answers

-- ---- no other call gets 7

-- Going through the pieces of a list never stops with 7.
stops : (ps : List Piece) (m : Machine) (room : ℕ) → stop_of (run_pieces m ps room).stop < 7
unfolding run_pieces on_piece onto
stops [] m room = omega arith
stops (p ∷ ps) m room = go (ltb room 8) p (λ m₁. stops ps m₁ (room - 8))
  where
    go : (b : Bool) (p : Piece) → ((m₁ : Machine) → stop_of (run_pieces m₁ ps (room - 8)).stop < 7)
        → stop_of (cond b (halt m (Some NoRoom)) (on_piece m p (λ m₁. run_pieces m₁ ps (room - 8)))).stop < 7
    go true p rest = omega arith
    go false broken rest = omega arith
    go false (whole s) rest = rest (turn_of m s).machine

pub seven-invalid : (i l : List ℕ) (room : ℕ) → (call_of i l room).stop ≡ Some NotAccepted → valid_image i ≡ false
unfolding run_of
seven-invalid i l room h = go (valid_image i) refl
  where
    go : (b : Bool) → valid_image i ≡ b → b ≡ false
    go true e =
        let r : run_of (machine_of i) l room ≡ run_pieces (machine_of i) (pieces l) room = simp (valid-is i e).accepted in
        let k : 7 ≡ stop_of (run_pieces (machine_of i) (pieces l) room).stop = sym (ap stop_of h) ∙ ap (λ (o : Out). stop_of o.stop) (is-run i l room e ∙ r) in
        let s : stop_of (run_pieces (machine_of i) (pieces l) room).stop < 7 = stops (pieces l) (machine_of i) room in
        absurd (omega arith)
    go false e = refl

-- So 7 says that no accepted state has this image.
pub only-seven : (i l : List ℕ) (room : ℕ) → (call_of i l room).stop ≡ Some NotAccepted → NoState i
only-seven i l room e m h = no (sym (seven-invalid i l room e) ∙ has-valid i m h)

-- ---- the image left

-- The image left is that of the state reached, which is accepted: by `has-valid` and `has-state` it is valid again and gives that state back. A state
-- that code holds is always of the struct's type.
pub left : (i : List ℕ) (m : Machine) → Has i m → (l : List ℕ) (room : ℕ) → Typed (run_of m l room).machine → Has (call_image i l room) (run_of m l room).machine
left i m h l room t = record { typed = t; accepted = accepted-kept m l room h.accepted; image = sym (image-of i m h l room) }

pub restores : (i : List ℕ) (m : Machine) → Has i m → (l : List ℕ) (room : ℕ) → Typed (run_of m l room).machine
    → (machine_of (call_image i l room) ≡ (run_of m l room).machine) × (valid_image (call_image i l room) ≡ true)
restores i m h l room t =
    let k = left i m h l room t in
    (has-state (call_image i l room) (run_of m l room).machine k, has-valid (call_image i l room) (run_of m l room).machine k)

-- A later call goes on from the state that the one before reached.
pub goes_on : (i : List ℕ) (m : Machine) → Has i m → (l : List ℕ) (room : ℕ) → Typed (run_of m l room).machine → (k : List ℕ) (more : ℕ)
    → call_of (call_image i l room) k more ≡ run_of (run_of m l room).machine k more
goes_on i m h l room t k more = is-run-of (call_image i l room) (run_of m l room).machine (left i m h l room t) k more

-- ---- demand 3 after a restore

-- "After a restore, demand 3 reads: from the cells, seconds, protect, wires and half-made command in the image, instead of from fresh."
pub call3 : (i : List ℕ) → valid_image i ≡ true → (l : List ℕ) (room : ℕ) → Run3 (machine_of i) l room (call_of i l room).machine
call3 i e l room =
    let v = valid-is i e in
    let t = image-typed i v.long in
    subst⁻¹ (λ (o : Out). Run3 (machine_of i) l room o.machine) (is-run i l room e)
    (run3 (machine_of i) v.accepted (accepted-clock (machine_of i) v.accepted t.cells t.seconds) l room)
