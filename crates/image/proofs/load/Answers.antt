use Rattle.std.proofs.Common.{ℕ, ◌≡◌, List, ap, ap₂, ◌∙◌, arith}
use Rattle.clock_spec.specs.declared.Chip.{Chip}
use Rattle.image_spec.specs.Layout.{phase_at, phase_length, registers_at, registers_length, cells_at, cells_length, tail_at, tail_length, part, chip_of}
use Rattle.image_spec.specs.ClockLayout.{phase_of, second_of, cells_read, clock_of, store_of}
use Rattle.image_spec.specs.Image.{machine_of}
use Rattle.image_spec.proofs.Parts.{part-long}
use Rattle.image_layout.specs.Values.{phase_read, registers_read}
use Rattle.image.proofs.Laws.{phase-read, chip-head, rest-is, tail-is}
use Rattle.image.proofs.load.Goals as goal

pub returns : goal.returns
unfolding machine_of clock_of store_of
returns c =
    let s : List ℕ = c.args.image.now in
    let k : Chip = chip_of s in
    let p : List ℕ = part phase_at phase_length s in
    let chip : c.from_bytes-chip.result ≡ k = c.from_bytes-chip.ensures ∙ ap chip_of c.part.ensures ∙ chip-head s in
    let phase : c.from_bytes.result ≡ phase_of p (second_of (part tail_at (tail_length k) s)) =
    c.from_bytes.ensures ∙ ap phase_read c.phase_bytes.ensures ∙ phase-read p _ (part-long phase_at phase_length s (omega (arith, c.requires)))
    ∙ ap (λ (t : List ℕ). phase_of p (second_of t)) (tail-is k s c.requires) in
    let registers : c.from_bytes-protect.result ≡ registers_read (part registers_at registers_length s) = c.from_bytes-protect.ensures ∙ ap registers_read c.part-2.ensures in
    let cells : c.cells.result ≡ cells_read (part cells_at cells_length s) (part tail_at (tail_length k) s) = c.cells.ensures ∙ ap₂ cells_read c.part-3.ensures (rest-is s ∙ tail-is k s c.requires) in
    simp (
      chip,
      phase,
      registers,
      cells,
      c.from_bytes-2.ensures,
      c.from_bytes-3.ensures,
      c.from_bytes-4.ensures,
      c.from_bytes-5.ensures,
      c.from_bytes-6.ensures,
      c.part-4.ensures,
      c.part-5.ensures,
      c.part-6.ensures,
      c.part-7.ensures,
      c.part-8.ensures,
      c.part-9.ensures,
      c.part-10.ensures,
    )
