-- What a shell may rely on in its first image: the fresh machine's, in lent room.
use Prim.Native.Nat.{ℕ, ◌+◌, ◌<◌, ◌≤◌}
use mathlib.Core.Path.{◌≡◌, refl, sym, ap, ◌∙◌}
use mathlib.Core.Bool.{Bool, true, false, cond}
use mathlib.Core.List.{List}
use native.Mathlib.Nat.{zero-add, le_of_eq}
use native.Mathlib.Omega.{arith}
use lib.ListN.{length, take, drop}
use lib.Seq.{take_all}
use lib.Dec.{ltb}
use borrow.Author.Tests.{lt-ltb, le-ltb, ne_eqb, ltb-true, ltb-false}
use Rattle.clock_spec.specs.Command.{cells_of}
use Rattle.clock_spec.specs.declared.Chip.{Chip}
use Rattle.clock_spec.specs.declared.Chip.TheVariants.{First, Later}
use Rattle.via.specs.Via.{fresh_via}
use Rattle.disk_lines.specs.Lines.{lines_off}
use Rattle.octets.specs.Octets.{put_at}
use Rattle.octets.proofs.Laws.{put-length, put-take, put-drop}
use Rattle.machine_spec.specs.Machine.{fresh_machine}
use Rattle.run_spec.specs.Outcome.{run_of}
use Rattle.image_spec.specs.Image.{image_length, image_of, Typed}
use Rattle.image_spec.proofs.Round.{image-long}
use Rattle.demand3.proofs.Runs.{fresh_ok}
use Rattle.entry_spec.specs.Call.{call_of, room_stop, room_image, fresh_stop, fresh_image, length_for}
use Rattle.entry_spec.proofs.Call.{Has, is-run-of}

module _ (k : Chip) where
  fresh-typed : Typed (fresh_machine k)
  unfolding fresh_via lines_off
  fresh-typed =
      record {
        via = (omega arith, omega arith);
        seconds = omega arith;
        cells = refl;
        lines = omega arith;
        inputs = refl;
        sense = refl;
        drives = (omega arith, omega arith, omega arith);
      }

  -- The fresh machine is accepted, and this is its image.
  pub fresh-has : Has (image_of (fresh_machine k)) (fresh_machine k)
  fresh-has = record { typed = fresh-typed; accepted = fresh_ok k; image = refl }

  pub fresh-long : length (image_of (fresh_machine k)) ≡ (image_length k)
  fresh-long = image-long (fresh_machine k) fresh-typed

  -- Refusal 6: a room shorter than an image keeps its bytes.
  pub short-room : (d : List ℕ) → length d < (image_length k) → (room_stop k d ≡ 6) × (room_image k d ≡ d)
  unfolding room_stop room_image
  short-room d h =
      let t : ltb (length d) (image_length k) ≡ true = lt-ltb (length d) (image_length k) h in
      (ap (λ (b : Bool). cond {A = ℕ} b 6 0) t, ap (λ (b : Bool). cond b d (put_at d 0 (image_of (fresh_machine k)))) t)

  put : (d : List ℕ) → (image_length k) ≤ length d → (room_stop k d ≡ 0) × (room_image k d ≡ put_at d 0 (image_of (fresh_machine k)))
  unfolding room_stop room_image
  put d h = simp (le-ltb (length d) (image_length k) h) (refl, refl)

  ends : 0 + length (image_of (fresh_machine k)) ≡ (image_length k)
  ends = zero-add (length (image_of (fresh_machine k))) ∙ fresh-long

  fits : (d : List ℕ) → (image_length k) ≤ length d → 0 + length (image_of (fresh_machine k)) ≤ length d
  fits d h = omega (arith, ends)

  -- Any other gets 0 and the fresh machine's image at its front, and what lies past it keeps its bytes.
  pub record Written (d : List ℕ) : Type 0 where
    pub stop : room_stop k d ≡ 0
    pub front : take (image_length k) (room_image k d) ≡ image_of (fresh_machine k)
    pub rest : drop (image_length k) (room_image k d) ≡ drop (image_length k) d

  pub written : (d : List ℕ) → (image_length k) ≤ length d → Written d
  written d h =
      let x : List ℕ = image_of (fresh_machine k) in
      let p = put d h in
      record {
        stop = p.0;
        front = ap (take (image_length k)) p.1 ∙ sym (ap (λ (n : ℕ). take n (put_at d 0 x)) ends) ∙ put-take d 0 x (fits d h);
        rest = ap (drop (image_length k)) p.1 ∙ sym (ap (λ (n : ℕ). drop n (put_at d 0 x)) ends) ∙ put-drop d 0 x (fits d h) ∙ ap (λ (n : ℕ). drop n d) ends;
      }

  -- The room's length stays, whatever it is.
  pub room-long : (d : List ℕ) → length (room_image k d) ≡ length d
  room-long d = go (ltb (length d) (image_length k)) refl
    where
      go : (b : Bool) → ltb (length d) (image_length k) ≡ b → length (room_image k d) ≡ length d
      go true e = ap length (short-room d (ltb-true _ _ e)).1
      go false e =
          let h : (image_length k) ≤ length d = ltb-false _ _ e in
          ap length (put d h).1 ∙ put-length d 0 (image_of (fresh_machine k)) (fits d h)

  -- A shell's first call, with a room of an image's length, is the run from the fresh machine.
  pub first-call : (d : List ℕ) → length d ≡ (image_length k) → (l : List ℕ) (room : ℕ) → call_of (room_image k d) l room ≡ run_of (fresh_machine k) l room
  first-call d n l room =
      let w = written d (omega (arith, n)) in
      let e : image_of (fresh_machine k) ≡ room_image k d = sym w.front ∙ take_all (image_length k) (room_image k d) (le_of_eq (room-long d ∙ n)) in
      is-run-of (room_image k d) (fresh_machine k) (record { typed = fresh-typed; accepted = fresh_ok k; image = e }) l room

-- By the number of cells: the chip's, and refusal 5 with the room as it was.
pub by-cells : (k : Chip) (d : List ℕ) → (fresh_stop (cells_of k) d ≡ room_stop k d) × (fresh_image (cells_of k) d ≡ room_image k d) × (length_for (cells_of k) ≡ image_length k)
unfolding fresh_stop fresh_image length_for
by-cells First d = (refl, refl, refl)
by-cells Later d = (refl, refl, refl)

pub no-chip : (cells : ℕ) (d : List ℕ) → (cells ≡ cells_of First → ⊥) → (cells ≡ cells_of Later → ⊥)
    → (fresh_stop cells d ≡ 5) × (fresh_image cells d ≡ d) × (length_for cells ≡ 0)
unfolding fresh_stop fresh_image length_for
no-chip cells d a b = simp (ne_eqb cells (cells_of First) a, ne_eqb cells (cells_of Later) b) (refl, refl, refl)
