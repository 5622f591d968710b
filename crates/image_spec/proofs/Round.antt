-- Save and restore: a state's image gives the state back, and a valid image is written again byte for byte.
use Prim.Native.Nat.{ℕ, ◌+◌}
use mathlib.Core.Path.{◌≡◌, refl, sym, ap, ap₂, ◌∙◌}
use mathlib.Core.Bool.{Bool, true, false, cond, ◌&&◌}
use mathlib.Core.List.{List, [], ◌∷◌, ◌++◌}
use native.Mathlib.Omega.{arith}
use lib.ListN.{length, take}
use lib.Seq.{length-take-le, take_at}
use lib.Dec.{eqb, ltb}
use borrow.Author.Tests.{eq-eqb, eqb-true, le-ltb}
use Rattle.levels.proofs.Laws.{no, both}
use Rattle.octets.specs.Octets.{put_at}
use Rattle.octets.proofs.Laws.{put-length}
use Rattle.image_spec.specs.Layout.{head_length, via_length, phase_length, registers_length, cells_length, lines_length, inputs_length, sense_length, drive_length, strobe_length}
use Rattle.image_spec.specs.Layout.{via_at, phase_at, registers_at, cells_at, lines_at, inputs_at, sense_at, internal_at, external_at, strobe_at, tail_at, tail_length, image_length, part, kind_letter, head_bytes, head_exact, chip_of, same_bytes}
use Rattle.image_spec.proofs.Parts.{sizes, joined, total, joined-long, laid, end-first, cut, pick, parted, same-cut, part-long}
use Rattle.image_spec.proofs.Equal.{same_refl, same-eq}
use Rattle.image_spec.specs.ViaLayout.{via_bytes, via_exact}
use Rattle.image_spec.proofs.ViaBack.{via-long, via-back, via-typed}
use Rattle.clock_spec.specs.declared.Chip.{Chip}
use Rattle.clock_spec.specs.declared.Chip.TheVariants.{First, Later}
use Rattle.clock_spec.specs.Store.{unused_clear}
use Rattle.clock.specs.declared.Clock.{Clock}
use Rattle.image_spec.specs.ClockLayout.{phase_bytes, second_byte, register_bytes, tail_bytes, store_of, cells_read, second_of, clock_of, registers_exact, StoreTyped}
use Rattle.image_spec.proofs.ClockBack.{phase-long, registers-long, tail-long, clock-back, store-typed, read-long, read-clear, tail-exact}
use Rattle.disk_spec.specs.declared.Drives.{Drives}
use Rattle.image_spec.specs.DriveLayout.{drive_bytes, strobe_bytes, drive_exact, strobe_exact}
use Rattle.image_spec.proofs.DriveBack.{drive-long, strobe-long, drives-back, drives-typed}
use Rattle.disk_lines.specs.declared.DiskLines.{DiskLines}
use Rattle.disk_lines.specs.Lines.{line_levels, lines_of}
use Rattle.disk_lines.proofs.Laws.{lines-back, lines-width}
use Rattle.machine_spec.specs.declared.Machine.{Machine}
use Rattle.machine_spec.specs.Machine.{wires, accepted_of}
use Rattle.machine_spec.proofs.MachineLaws as machine
use Rattle.image_spec.specs.Image.{image_of, machine_of, lines_exact, parts_exact, exact_image, valid_image, Typed}

-- the parts after the head and before the tail, and the length of each
abbrev middle_of : Machine → List (List ℕ)
middle_of m =
    via_bytes m.via
    ∷ phase_bytes m.clock.phase
    ∷ register_bytes m.clock.store
    ∷ take cells_length m.clock.store.cells
    ∷ line_levels m.disk
    ∷ m.inputs
    ∷ m.sense
    ∷ drive_bytes m.drives.internal
    ∷ drive_bytes m.drives.external
    ∷ strobe_bytes m.drives.strobe
    ∷ []

abbrev middle : List ℕ
middle = via_length ∷ phase_length ∷ registers_length ∷ cells_length ∷ lines_length ∷ inputs_length ∷ sense_length ∷ drive_length ∷ drive_length ∷ strobe_length ∷ []

-- with the tail
abbrev tail_in : Machine → List ℕ
tail_in m = tail_bytes m.clock.store.chip m.clock.phase m.clock.store.cells

abbrev parts_of : Machine → List (List ℕ)
parts_of m = middle_of m ++ (tail_in m ∷ [])

abbrev lengths : Chip → List ℕ
lengths k = middle ++ (tail_length k ∷ [])

levels-long : (d : DiskLines) → length (line_levels d) ≡ lines_length
unfolding line_levels
levels-long d = refl

middle-sized : (m : Machine) → Typed m → sizes (middle_of m) ≡ middle
middle-sized m t = simp (via-long, phase-long, registers-long, length-take-le cells_length m.clock.store.cells (omega (arith, t.cells)), levels-long, t.inputs, t.sense, drive-long, strobe-long)

tail-sized : (m : Machine) → Typed m → length (tail_in m) ≡ tail_length m.clock.store.chip
tail-sized m t = tail-long m.clock.store.chip m.clock.phase m.clock.store.cells t.cells

sized : (m : Machine) → Typed m → sizes (parts_of m) ≡ lengths m.clock.store.chip
sized m t = ap₂ (λ (ns : List ℕ) (n : ℕ). ns ++ (n ∷ [])) (middle-sized m t) (tail-sized m t)

parts : (m : Machine) → Typed m → cut via_at (lengths m.clock.store.chip) (image_of m) ≡ parts_of m
unfolding image_of head_bytes
parts m t = parted via_at (head_bytes m.clock.store.chip) (lengths m.clock.store.chip) (parts_of m) refl (sized m t)

pub image-long : (m : Machine) → Typed m → length (image_of m) ≡ image_length m.clock.store.chip
unfolding image_of head_bytes
image-long m t =
    let h : List ℕ = head_bytes m.clock.store.chip in
    let s : 4 + total (lengths m.clock.store.chip) ≡ image_length m.clock.store.chip = omega arith in
    joined-long h (parts_of m) ∙ ap (λ (ns : List ℕ). length h + total ns) (sized m t) ∙ s

-- ---- what the writer leaves

abbrev clock_put : Clock → List ℕ → List ℕ
clock_put c d = put_at (put_at (put_at d phase_at (phase_bytes c.phase)) registers_at (register_bytes c.store)) cells_at (take cells_length c.store.cells)

abbrev levels_put : Machine → List ℕ → List ℕ
levels_put m d = put_at (put_at (put_at d lines_at (line_levels m.disk)) inputs_at m.inputs) sense_at m.sense

abbrev drives_put : Drives → List ℕ → List ℕ
drives_put s d = put_at (put_at (put_at d internal_at (drive_bytes s.internal)) external_at (drive_bytes s.external)) strobe_at (strobe_bytes s.strobe)

-- the tail first, and then the parts in their order
pub image-saved : (d d₀ d₁ d₂ d₃ d₄ d₅ : List ℕ) (m : Machine) → length d ≡ image_length m.clock.store.chip → Typed m
    → d₀ ≡ put_at d tail_at (tail_in m) → d₁ ≡ put_at d₀ 0 (head_bytes m.clock.store.chip) → d₂ ≡ put_at d₁ via_at (via_bytes m.via) → d₃ ≡ clock_put m.clock d₂ → d₄ ≡ levels_put m d₃
    → d₅ ≡ drives_put m.drives d₄ → d₅ ≡ image_of m
unfolding image_of head_bytes
image-saved d d₀ d₁ d₂ d₃ d₄ d₅ m n t e₀ e₁ e₂ e₃ e₄ e₅ =
    let h : List ℕ = head_bytes m.clock.store.chip in
    let x : length (tail_in m) ≡ tail_length m.clock.store.chip = tail-sized m t in
    let p : length (put_at d tail_at (tail_in m)) ≡ length d = put-length d tail_at (tail_in m) (omega (arith, n, x)) in
    let f : length (joined h (middle_of m)) ≡ tail_at = joined-long h (middle_of m) ∙ ap (λ (ns : List ℕ). length h + total ns) (middle-sized m t) in
    e₅
    ∙ ap (drives_put m.drives) (e₄
    ∙ ap (levels_put m) (e₃ ∙ ap (clock_put m.clock) (e₂ ∙ ap (λ (y : List ℕ). put_at y via_at (via_bytes m.via)) (e₁ ∙ ap (λ (y : List ℕ). put_at y 0 h) e₀))))
    ∙ laid (put_at d tail_at (tail_in m)) 0 via_at h middle (middle_of m) refl (middle-sized m t) (omega (arith, p, n))
    ∙ end-first d tail_at (joined h (middle_of m)) (tail_in m) f (omega (arith, n, x))

-- ---- the state again

-- The kind says which chip it is.
chip-kind : (k : Chip) → cond (eqb (kind_letter k) (kind_letter Later)) Later First ≡ k
chip-kind First = refl
chip-kind Later = refl

chip-back : (m : Machine) → chip_of (image_of m) ≡ m.clock.store.chip
unfolding image_of head_bytes
chip-back m = chip-kind m.clock.store.chip

-- "Save then restore must give the same state."
pub restore-saved : (m : Machine) → Typed m → accepted_of m ≡ true → machine_of (image_of m) ≡ m
unfolding machine_of
restore-saved m t ok =
    let e : cut via_at (lengths m.clock.store.chip) (image_of m) ≡ parts_of m = parts m t in
    let a = machine.parts m ok in
    simp (
      chip-back m,
      ap (pick 0) e,
      ap (pick 1) e,
      ap (pick 2) e,
      ap (pick 3) e,
      ap (pick 4) e,
      ap (pick 5) e,
      ap (pick 6) e,
      ap (pick 7) e,
      ap (pick 8) e,
      ap (pick 9) e,
      ap (pick 10) e,
      via-back m.via t.via,
      lines-back m.disk t.lines,
      clock-back m.clock (wires m).enable (t.seconds, t.cells) a.phase a.unused,
      drives-back m.drives t.drives,
    )

-- Two accepted states with one image are one state.
pub one_state : (m n : Machine) → Typed m → Typed n → accepted_of m ≡ true → accepted_of n ≡ true → image_of m ≡ image_of n → m ≡ n
one_state m n t u a b e = sym (restore-saved m t a) ∙ ap machine_of e ∙ restore-saved n u b

-- ---- valid images

-- An accepted state's image is valid.
pub saved-valid : (m : Machine) → Typed m → accepted_of m ≡ true → valid_image (image_of m) ≡ true
unfolding valid_image exact_image
saved-valid m t ok =
    let n = image-long m t in
    simp (le-ltb (length (image_of m)) tail_at (omega arith), eq-eqb _ _ (n ∙ sym (ap image_length (chip-back m))), restore-saved m t ok, same_refl (image_of m), ok)

-- What a valid image is: as long as the layout, the image of the state that it stands for, and that state accepted.
pub record Valid (s : List ℕ) : Type 0 where
  pub long : length s ≡ image_length (chip_of s)
  pub saved : image_of (machine_of s) ≡ s
  pub accepted : accepted_of (machine_of s) ≡ true

-- The same of its bytes alone.
pub record Exact (s : List ℕ) : Type 0 where
  pub long : length s ≡ image_length (chip_of s)
  pub saved : image_of (machine_of s) ≡ s

pub exact-is : (s : List ℕ) → exact_image s ≡ true → Exact s
unfolding exact_image
exact-is s = enough (ltb (length s) tail_at)
  where
    judged : Bool → Bool
    judged b = cond b (same_bytes (image_of (machine_of s)) s) false

    go : (b : Bool) → eqb (length s) (image_length (chip_of s)) ≡ b → judged b ≡ true → Exact s
    go true e h = record { long = eqb-true _ _ e; saved = same-eq _ _ h }
    go false e h = no h

    enough : (b : Bool) → cond b false (judged (eqb (length s) (image_length (chip_of s)))) ≡ true → Exact s
    enough true h = no h
    enough false h = go (eqb (length s) (image_length (chip_of s))) refl h

pub valid-is : (s : List ℕ) → valid_image s ≡ true → Valid s
unfolding valid_image
valid-is s h =
    let p = both (exact_image s) (accepted_of (machine_of s)) h in
    let e = exact-is s p.0 in
    record { long = e.long; saved = e.saved; accepted = p.1 }

-- Whether an image is valid: by its bytes, and then by whether their state is accepted.
pub inexact : (s : List ℕ) → exact_image s ≡ false → valid_image s ≡ false
unfolding valid_image
inexact s e = ap (λ (b : Bool). b && accepted_of (machine_of s)) e

pub exact-then : (s : List ℕ) (m : Machine) (b : Bool) → exact_image s ≡ true → m ≡ machine_of s → accepted_of m ≡ b → valid_image s ≡ b
unfolding valid_image
exact-then s m b e i a = ap (λ (c : Bool). c && accepted_of (machine_of s)) e ∙ ap accepted_of (sym i) ∙ a

-- The state of an image of the right length is a value of the struct's type.
pub image-typed : (s : List ℕ) → length s ≡ image_length (chip_of s) → Typed (machine_of s)
unfolding machine_of clock_of
image-typed s n =
    let k : Chip = chip_of s in
    let first : List ℕ = part cells_at cells_length s in
    let t : List ℕ = part tail_at (tail_length k) s in
    let c : StoreTyped (machine_of s).clock.store =
    store-typed k (part registers_at registers_length s) (cells_read first t)
    (read-long k first t (part-long cells_at cells_length s (omega arith)) (part-long tail_at (tail_length k) s (omega arith))) in
    record {
      via = via-typed (part via_at via_length s);
      seconds = c.0;
      cells = c.1;
      lines = lines-width (part lines_at lines_length s);
      inputs = part-long inputs_at inputs_length s (omega arith);
      sense = part-long sense_at sense_length s (omega arith);
      drives = drives-typed (part internal_at drive_length s) (part external_at drive_length s) (part strobe_at strobe_length s);
    }

-- The cells that its chip does not have hold 0.
pub image-clear : (s : List ℕ) → length s ≡ image_length (chip_of s) → unused_clear (machine_of s).clock.store ≡ true
unfolding machine_of clock_of
image-clear s n =
    let k : Chip = chip_of s in
    read-clear k (part registers_at registers_length s) (part cells_at cells_length s) (part tail_at (tail_length k) s) (part-long cells_at cells_length s (omega (arith, n))) (part-long tail_at (tail_length k) s (omega (arith, n)))

-- The chip of an image's state is its kind's.
pub image-chip : (s : List ℕ) → (machine_of s).clock.store.chip ≡ chip_of s
unfolding machine_of clock_of store_of
image-chip s = refl

-- ---- part by part

-- what is left of the parts' answers, the clock's taken together
gathered : (h v p r l a b z t : Bool) → (h && (v && (p && (r && (true && (l && (true && (true && (a && (b && (z && (t && true)))))))))))) ≡ (h && v && (p && t && r) && l && (a && b && z))
gathered false v p r l a b z t = refl
gathered true false p r l a b z t = refl
gathered true true false r l a b z t = refl
gathered true true true false l a b z true = refl
gathered true true true false l a b z false = refl
gathered true true true true false a b z true = refl
gathered true true true true false a b z false = refl
gathered true true true true true false b z true = refl
gathered true true true true true false b z false = refl
gathered true true true true true true false z true = refl
gathered true true true true true true false z false = refl
gathered true true true true true true true false true = refl
gathered true true true true true true true false false = refl
gathered true true true true true true true true true = refl
gathered true true true true true true true true false = refl

-- The very bytes of the state that they stand for: each part's are. The cells, the IN lines and the sense levels stand as they are read.
pub exact-parts : (s : List ℕ) → length s ≡ image_length (chip_of s) → same_bytes (image_of (machine_of s)) s ≡ parts_exact s
unfolding machine_of image_of head_bytes clock_of store_of register_bytes
exact-parts s n =
    let k : Chip = chip_of s in
    let m : Machine = machine_of s in
    let first : List ℕ = part cells_at cells_length s in
    let t : List ℕ = part tail_at (tail_length k) s in
    let long : length first ≡ cells_length = part-long cells_at cells_length s (omega (arith, n)) in
    let cells : same_bytes (take cells_length (cells_read first t)) first ≡ true = ap (λ (x : List ℕ). same_bytes x first) (take_at first _ cells_length long) ∙ same_refl first in
    same-cut via_at (head_bytes k) (lengths k) (parts_of m) s refl (sized m (image-typed s n)) (n ∙ omega arith)
    ∙ simp (cells, same_refl (part inputs_at inputs_length s), same_refl (part sense_at sense_length s), tail-exact k (part phase_at phase_length s) first t long (part-long tail_at (tail_length k) s (omega (arith, n))))
    (gathered (head_exact k (part 0 head_length s)) (via_exact (part via_at via_length s)) (same_bytes (phase_bytes m.clock.phase) (part phase_at phase_length s)) (registers_exact (part registers_at registers_length s)) (lines_exact (part lines_at lines_length s))
    (drive_exact (part internal_at drive_length s)) (drive_exact (part external_at drive_length s)) (strobe_exact (part strobe_at strobe_length s)) (eqb (second_byte m.clock.phase) (second_of t)))
