-- The data line in a call of the C entry: the run's theorem, in the answer memory and in the image left.
use Rattle.std.specs.Prelude.{Ok}
use mathlib.Core.Path.{◌≡◌, ap, subst, subst⁻¹, ◌∙◌}
use mathlib.Core.Bool.{Bool, true, false, cond}
use mathlib.Core.List.{List, ◌∷◌, ◌++◌}
use Prim.Native.Nat.{ℕ, ◌+◌, ◌*◌, ◌≤◌}
use native.Mathlib.Omega.{arith}
use lib.ListN.{length, get_or, drop, get_or-append}
use Rattle.units.specs.declared.WaitTicks.{WaitTicks}
use Rattle.octets.specs.Octets.{Bytes}
use Rattle.via_bits.specs.Bytes.{bit}
use Rattle.item_spec.specs.declared.Item.TheVariants.{ReadVia}
use Rattle.item_spec.specs.declared.Decoded.TheVariants.{One}
use Rattle.item_spec.specs.Kinds.{decoded_of}
use Rattle.machine_spec.specs.declared.Machine.{Machine}
use Rattle.machine_spec.specs.Pins.{pin}
use Rattle.machine_spec.specs.Machine.{wires}
use Rattle.run_spec.specs.Outcome.{Piece, whole, Out, run_of, over}
use Rattle.run_spec.proofs.Users.{answers-fit}
use Rattle.image_spec.specs.Image.{machine_of, valid_image}
use Rattle.image_spec.specs.Layout.{via_at, via_length}
use Rattle.image_spec.specs.ViaLayout.{via_of}
use Rattle.image_spec.proofs.Round.{valid-is, image-typed}
use Rattle.entry_spec.specs.Call.{call_of, call_answers}
use Rattle.entry_spec.proofs.Call.{is-run}
use Rattle.demand3.specs.Runs.{answered_pieces}
use Rattle.demand3.proofs.Runs.{accepted-clock}
use Rattle.demand3_reads.specs.Runs.{machine_after_pieces, shown_after_pieces, line_after_pieces, RunShows}
use Rattle.demand3_reads.specs.Calls.{CallShows}
use Rattle.demand3_reads.proofs.Widths.{Narrow, take-bytes, drop-bytes}
use Rattle.demand3_reads.proofs.Runs.{run-shows}

-- The directions of an image of bytes are a byte.
image-narrow : (i : List ℕ) → Bytes i → Narrow (machine_of i)
unfolding machine_of via_of
image-narrow i bs = take-bytes via_length (drop via_at i) (drop-bytes via_at i bs) 2

-- A line whose direction is 0.
pin-input : (o d : ℕ) (x : Bool) → bit 0 d ≡ false → pin o d 1 x ≡ x
pin-input o d x e = ap (λ (t : Bool). cond t (bit 0 o) x) e

module _ (i l d : List ℕ) (e : valid_image i ≡ true) (bi : Bytes i) (bl : Bytes l) where
  abbrev m : Machine
  m = machine_of i

  abbrev o : Out
  o = run_of m l (length d)

  shows : RunShows m l (length d) o
  shows =
      let v = valid-is i e in
      let t = image-typed i v.long in
      run-shows m v.accepted (accepted-clock m v.accepted t.cells t.seconds) (image-narrow i bi) l bl (length d)

  memory : call_answers i l d ≡ over o d
  unfolding call_answers
  memory = ap (λ (x : Out). over x d) (is-run i l (length d) e)

  -- What an answer's byte is in the memory.
  stands : (ls is : List Piece) (p : Piece) → ls ++ (p ∷ is) ≡ answered_pieces l (length d) → get_or (call_answers i l d) (8 * length is + 4) 0 ≡ get_or o.answers (8 * length is + 4) 0
  stands ls is p q =
      ap (λ (x : List ℕ). get_or x (8 * length is + 4) 0) memory
      ∙ get_or-append o.answers (drop (length o.answers) d) 0 (8 * length is + 4) (omega (arith, shows.long ls is p q))

  seen : (ls is : List Piece) (s : List ℕ) (w : WaitTicks) → ls ++ (whole s ∷ is) ≡ answered_pieces l (length d) → decoded_of s ≡ Ok (One (ReadVia w 0))
      → bit 0 (get_or (call_answers i l d) (8 * length is + 4) 0) ≡ line_after_pieces m is
  seen ls is s w q f = ap (bit 0) (stands ls is (whole s) q) ∙ shows.reads ls is s w q f

  -- i' is what a call left of the image, by a clause of the entry's contract.
  pub call-shows : (i' : List ℕ) → machine_of i' ≡ (call_of i l (length d)).machine → CallShows i l d i'
  call-shows i' k =
      let r : machine_of i' ≡ o.machine = k ∙ ap (λ (x : Out). x.machine) (is-run i l (length d) e) in
      record {
        wire = subst⁻¹ (λ (x : Machine). (wires x).dataline ≡ pin x.via.ports.outb x.via.ports.dirb 1 (shown_after_pieces m (answered_pieces l (length d)))) r shows.wire;
        long = λ ls is p q. omega (arith, shows.long ls is p q, answers-fit m l (length d));
        reads = seen;
        input = λ ls is s w q f h. seen ls is s w q f ∙ pin-input (machine_after_pieces m is).via.ports.outb (machine_after_pieces m is).via.ports.dirb (shown_after_pieces m is) h;
      }
