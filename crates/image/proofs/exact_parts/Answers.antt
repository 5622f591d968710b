use Rattle.std.proofs.Common.{ℕ, ◌≡◌, List, ap, ◌∙◌, arith}
use Rattle.clock_spec.specs.declared.Chip.{Chip}
use Rattle.image_spec.specs.Layout.{head_length, phase_at, phase_length, registers_at, registers_length, tail_at, tail_length, part, head_exact, chip_of, same_bytes}
use Rattle.image_spec.specs.ClockLayout.{second_of, phase_exact, registers_exact}
use Rattle.image_spec.proofs.Parts.{part-long}
use Rattle.image_layout.specs.Values.{phase_layout, phase_read, registers_layout, registers_read}
use Rattle.image.proofs.Laws.{phase-exact, registers-exact, chip-head, tail-is}
use Rattle.image.proofs.exact_parts.Goals as goal

pub returns : goal.returns
returns c =
    let s : List ℕ = c.args.image.now in
    let k : Chip = chip_of s in
    let p : List ℕ = part phase_at phase_length s in
    let head : c.exact_head-head.result ≡ head_exact k (part 0 head_length s) =
    c.exact_head-head.ensures ∙ ap (λ (i : Chip). head_exact i (part 0 head_length s)) (c.from_bytes.ensures ∙ ap chip_of c.part.ensures ∙ chip-head s) in
    let phase : c.exact-phase.result ≡ phase_exact p (second_of (part tail_at (tail_length k) s)) =
    c.exact-phase.ensures ∙ ap (λ (b : List ℕ). same_bytes (phase_layout (phase_read b)) b) c.phase_bytes.ensures
    ∙ phase-exact p _ (part-long phase_at phase_length s (omega (arith, c.requires)))
    ∙ ap (λ (t : List ℕ). phase_exact p (second_of t)) (tail-is k s c.requires) in
    let registers : c.exact-registers.result ≡ registers_exact (part registers_at registers_length s) =
    c.exact-registers.ensures ∙ ap (λ (b : List ℕ). same_bytes (registers_layout (registers_read b)) b) c.part-3.ensures ∙ registers-exact _ in
    simp (
      head,
      phase,
      registers,
      c.exact-via.ensures,
      c.exact-lines.ensures,
      c.exact-internal.ensures,
      c.exact-external.ensures,
      c.exact-strobe.ensures,
      c.part-2.ensures,
      c.part-4.ensures,
      c.part-5.ensures,
      c.part-6.ensures,
      c.part-7.ensures,
    )
