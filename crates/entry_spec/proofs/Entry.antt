-- What the C entry's contract says of a call, and how its code comes to it.
use Rattle.std.specs.Prelude.{None}
use Rattle.refusal.specs.Numbers.{stop_of}
use Prim.Native.Nat.{ℕ, ◌-◌}
use mathlib.Core.Path.{◌≡◌, refl, sym, ap, subst⁻¹, ◌∙◌}
use mathlib.Core.Bool.{true, false}
use mathlib.Core.List.{List, ◌++◌}
use lib.ListN.{length}
use Rattle.levels.proofs.Laws.{no}
use Rattle.machine_spec.specs.declared.Machine.{Machine}
use Rattle.machine_spec.specs.Machine.{accepted_of}
use Rattle.run_spec.specs.declared.Ran.{Ran}
use Rattle.run_spec.specs.Outcome.{Out, onto, run_of, ran_of, over}
use Rattle.run_spec.proofs.Users.{accepted-kept}
use Rattle.run_spec.proofs.Joined.{cut_list}
use Rattle.image_spec.specs.Image.{image_of, machine_of, valid_image}
use Rattle.image_spec.proofs.Round.{valid-is}
use Rattle.demand3.specs.Runs.{Run3}
use Rattle.entry_spec.specs.Call.{call_of, call_image, call_answers}
use Rattle.entry_spec.proofs.Call.{seven, is-run, image-left, call3}

module _ (i l d : List ℕ) where
  -- all that the entry's contract says
  abbrev pub Post : ℕ → ℕ → ℕ → List ℕ → List ℕ → Type 0
  Post r c w i' d' =
      (r ≡ stop_of (call_of i l (length d)).stop)
      × ((c ≡ (call_of i l (length d)).consumed)
      × ((w ≡ length (call_of i l (length d)).answers)
      × ((i' ≡ call_image i l (length d))
      × ((d' ≡ call_answers i l d)
      × ((valid_image i' ≡ valid_image i)
      × ((machine_of i' ≡ (call_of i l (length d)).machine)
      × (valid_image i ≡ true → Run3 (machine_of i) l (length d) (machine_of i'))))))))

  -- Refusal 7: nothing is written.
  pub refused : valid_image i ≡ false → Post 7 0 0 i d
  refused e =
      let s = seven i l d e in
      (sym (ap stop_of s.stop), (sym s.consumed, (sym s.written, (sym s.image, (sym s.answers, (refl, (sym s.machine, λ h. no (sym e ∙ h))))))))

  -- Every other call is the run from the image's state, and leaves the image of the state reached.
  pub ran : valid_image i ≡ true → (m m' : Machine) → m ≡ machine_of i → m' ≡ (run_of m l (length d)).machine → (r : Ran) → r ≡ ran_of (run_of m l (length d)) → (d' : List ℕ) → d' ≡ over (run_of m l (length d)) d
      → (i' : List ℕ) → i' ≡ image_of m' → (accepted_of m' ≡ true → machine_of i' ≡ m') → (accepted_of m' ≡ true → valid_image i' ≡ true) → Post (stop_of r.stop) r.consumed r.written i' d'
  unfolding call_answers
  ran e m m' em en r er d' ed i' ei er' ev =
      let n : ℕ = length d in
      let a : accepted_of (run_of m l n).machine ≡ true = accepted-kept m l n (ap accepted_of em ∙ (valid-is i e).accepted) in
      let o : accepted_of m' ≡ true = ap accepted_of en ∙ a in
      let v : valid_image i' ≡ true = ev o in
      let q : run_of m l n ≡ call_of i l n = ap (λ (x : Machine). run_of x l n) em ∙ sym (is-run i l n e) in
      let k : r ≡ ran_of (call_of i l n) = er ∙ ap ran_of q in
      let f : m' ≡ (call_of i l n).machine = en ∙ ap (λ (x : Out). x.machine) q in
      let g : machine_of i' ≡ (call_of i l n).machine = er' o ∙ f in
      let h : Run3 (machine_of i) l n (machine_of i') = subst⁻¹ (λ (x : Machine). Run3 (machine_of i) l n x) g (call3 i e l n) in (
        ap (λ (x : Ran). stop_of x.stop) k,
        (
          ap (λ (x : Ran). x.consumed) k,
          (
            ap (λ (x : Ran). x.written) k,
            (ei ∙ ap image_of f ∙ sym (image-left i l n e), (ed ∙ ap (λ (o : Out). over o d) q, (v ∙ sym e, (g, λ y. h)))),
          ),
        ),
      )

-- ---- call after call is one run
-- i' is what the first call left of the valid image i, by two clauses of its contract.
module _ (i i' l k : List ℕ) (room : ℕ) (e : valid_image i ≡ true) (v : valid_image i' ≡ valid_image i) (s : machine_of i' ≡ (call_of i l room).machine) where
  -- The next call is the run from the state that the first reached.
  pub next-call : (more : ℕ) → call_of i' k more ≡ run_of (call_of i l room).machine k more
  next-call more = is-run i' k more (v ∙ e) ∙ ap (λ (m : Machine). run_of m k more) s

  -- And where the first came to the end of its list, the two are one call with both lists: answers joined, bytes consumed added, stop and state those of the second.
  pub one-run : (call_of i l room).stop ≡ None
      → call_of i (l ++ k) room ≡ onto (call_of i l room).answers (length l) (call_of i' k (room - length (call_of i l room).answers))
  one-run z =
      let r : call_of i l room ≡ run_of (machine_of i) l room = is-run i l room e in
      is-run i (l ++ k) room e
      ∙ cut_list (machine_of i) l k room (sym (ap (λ (o : Out). o.stop) r) ∙ z)
      ∙ sym (ap (λ (o : Out). onto o.answers (length l) (run_of o.machine k (room - length o.answers))) r)
      ∙ ap (onto (call_of i l room).answers (length l)) (sym (next-call (room - length (call_of i l room).answers)))
