-- The cut list of W-212 in two calls of the C entry, with images of every kind.
use Rattle.std.specs.Prelude.{Some, None, is_some}
use Rattle.refusal.specs.declared.Refusal.TheVariants.{NotAccepted}
use Prim.Native.Nat.{ℕ, ◌-◌}
use mathlib.Core.Path.{◌≡◌, refl, sym, ap, subst, ◌∙◌}
use mathlib.Core.Bool.{Bool, true, false, true≢false}
use mathlib.Core.List.{List, ◌++◌}
use lib.ListN.{length, drop, length-drop}
use Rattle.run_spec.specs.Outcome.{Out, onto, run_of, over}
use Rattle.image_spec.specs.Image.{image_of, machine_of, valid_image}
use Rattle.entry_spec.specs.Call.{call_of, call_image, call_answers}
use Rattle.entry_spec.proofs.Call.{is-run, image-left}
use Rattle.entry_spec.proofs.Entry.{one-run}
use Rattle.run_laws.specs.Laws.{room_left, JoinedAs, CutCall}
use Rattle.run_laws.proofs.Proved.{onto-joined, laws}

-- A call that stops with 0 had a valid image.
stop0-valid : (i l : List ℕ) (room : ℕ) → (call_of i l room).stop ≡ None → valid_image i ≡ true
unfolding call_of
stop0-valid i l room z = go (valid_image i) refl
  where
    go : (t : Bool) → valid_image i ≡ t → t ≡ true
    go true e = refl
    go false e =
        let s : (call_of i l room).stop ≡ Some NotAccepted = simp e refl in
        absurd (true≢false (ap is_some (sym s ∙ z)))

module _ (i left a b : List ℕ) (room : ℕ) (v : valid_image left ≡ valid_image i) (s : machine_of left ≡ (call_of i a room).machine) (z : (call_of i a room).stop ≡ None) where
  valid : valid_image i ≡ true
  valid = stop0-valid i a room z

  -- The first list is read to its end.
  first_read : (call_of i a room).consumed ≡ length a
  first_read =
      let r : call_of i a room ≡ run_of (machine_of i) a room = is-run i a room valid in
      ap (λ (o : Out). o.consumed) r ∙ (laws (machine_of i)).first_whole a room (sym (ap (λ (o : Out). o.stop) r) ∙ z)

  call-joined : JoinedAs (call_of i a room) (call_of left b (room_left room (call_of i a room))) (call_of i (a ++ b) room)
  unfolding room_left
  call-joined =
      let first : Out = call_of i a room in
      let second : Out = call_of left b (room - length first.answers) in
      subst (JoinedAs first second)
      (ap (λ (n : ℕ). onto first.answers n second) first_read ∙ sym (one-run i left a b room valid v s z))
      (onto-joined first second)

  call-image : call_image i (a ++ b) room ≡ call_image left b (room_left room (call_of i a room))
  call-image = image-left i (a ++ b) room valid ∙ ap image_of call-joined.machine ∙ sym (image-left left b (room_left room (call_of i a room)) (v ∙ valid))

  call-memory : (d : List ℕ) → length d ≡ room → call_answers i (a ++ b) d ≡ (call_of i a room).answers ++ call_answers left b (drop (length (call_of i a room).answers) d)
  unfolding call_answers room_left
  call-memory d h =
      let front : List ℕ = (call_of i a room).answers in
      let past : List ℕ = drop (length front) d in
      let n : length past ≡ room - length front = length-drop (length front) d ∙ ap (λ (x : ℕ). x - length front) h in
      ap (λ (x : ℕ). over (call_of i (a ++ b) x) d) h
      ∙ call-joined.memory d
      ∙ ap (λ (x : ℕ). front ++ over (call_of left b x) past) (sym n)

pub cut-call : (i : List ℕ) → CutCall i
cut-call i left a b room v s z =
    record { outcome = call-joined i left a b room v s z; image = call-image i left a b room v s z; memory = call-memory i left a b room v s z }
