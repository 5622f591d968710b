use Rattle.std.proofs.Common.{ℕ, ◌≡◌, List, length, ap, ◌∙◌, arith, refl, rules}
use Rattle.octets.specs.Octets.{put_at}
use Rattle.image_spec.specs.Layout.{phase_at, registers_at, cells_at, lines_at, inputs_at, sense_at, internal_at, external_at, strobe_at, tail_at, tail_length, phase_length, part}
use Rattle.image_spec.specs.ClockLayout.{register_bytes}
use Rattle.image_spec.specs.Image.{image_of, machine_of, valid_image, Typed}
use Rattle.image_spec.proofs.Parts.{put_three}
use Rattle.image_spec.proofs.Round.{image-saved, restore-saved, saved-valid}
use Rattle.image_spec.proofs.ClockBack.{tail-long}
use Rattle.image.proofs.Laws.{phase-place, tail-put}
use Rattle.image.proofs.save.Goals as goal

pub returns : goal.returns
unfolding register_bytes
returns c =
    let a = c.args in
    let t : Typed a.m =
    record {
      via = search rules;
      seconds = search rules;
      cells = search rules;
      lines = search rules;
      inputs = search rules;
      sense = search rules;
      drives = search rules;
    } in
    let tail : List ℕ = c.put_tail.new.tail in
    let n : length tail ≡ tail_length a.m.clock.store.chip = ap length c.put_tail.ensures ∙ tail-long a.m.clock.store.chip a.m.clock.phase a.m.clock.store.cells t.cells in
    let e₀ = tail-put a.image.now tail (omega (arith, n, c.requires)) ∙ ap (put_at a.image.now tail_at) c.put_tail.ensures in
    let e : c.put-11.new.image ≡ image_of a.m =
    image-saved a.image.now _ c.put.new.image c.put-2.new.image c.put-5.new.image c.put-8.new.image c.put-11.new.image
    a.m c.requires t e₀ c.put.ensures c.put-2.ensures
    (put_three c.put-2.new.image phase_at registers_at cells_at c.put-3.ensures c.put-4.ensures c.put-5.ensures
    (c.part.ensures ∙ ap (part 0 phase_length) c.to_bytes-phase.ensures ∙ phase-place a.m.clock.phase) refl c.part-2.ensures)
    (put_three c.put-5.new.image lines_at inputs_at sense_at c.put-6.ensures c.put-7.ensures c.put-8.ensures refl refl refl)
    (put_three c.put-8.new.image internal_at external_at strobe_at c.put-9.ensures c.put-10.ensures c.put-11.ensures refl refl refl) in
    record {
      image_after = e;
      given_back = λ ok. ap machine_of e ∙ restore-saved a.m t ok;
      valid_after = λ ok. ap valid_image e ∙ saved-valid a.m t ok;
    }
