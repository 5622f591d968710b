use Rattle.std.proofs.Common.{ap, sym, ◌∙◌, rules, arith}
use Rattle.std.specs.Fn.{FnOnceReturnsAtMut}
use Rattle.keyboard.specs.Steps.{Stepped}
use Rattle.keyboard_image.specs.Image.{image_of}
use Rattle.keyboard_image.proofs.Round.{valid-is}
use Rattle.keyboard_entry.proofs.Shell.{called, uncalled, image-of, image-kept}
use Rattle.keyboard_entry.proofs.on_image.Goals as goal

pub returns-then-not-valid-clause-said : goal.returns-then-not-valid-clause-said
returns-then-not-valid-clause-said g c next does = sym (ap (λ (s : Stepped). s.response) (uncalled next c.args.image.now (sym c.if-not-valid.ensures)))

pub returns-then-not-valid-clause-image_after : goal.returns-then-not-valid-clause-image_after
returns-then-not-valid-clause-image_after g c next does = sym (image-kept next c.args.image.now (sym c.if-not-valid.ensures))

pub load-keyboard-requires : goal.load-keyboard-requires
load-keyboard-requires g c = (valid-is _ (sym c.if-not-valid.ensures)).long

pub save-requires : goal.save-requires
save-requires g c = let l = (valid-is _ (sym c.if-not-valid.ensures)).long in omega (arith, l)

pub returns-clause-said : goal.returns-clause-said
returns-clause-said g c next does =
    let k = c.load-keyboard.result in
    let steps : FnOnceReturnsAtMut g.F.FnOnce c.args.step k c.step-response.result c.step-response.new.arg2 = search rules in
    ap (λ (s : Stepped). s.response) (does k _ _ steps ∙ ap next c.load-keyboard.ensures ∙ sym (called next c.args.image.now (sym c.if-not-valid.ensures)))

pub returns-clause-image_after : goal.returns-clause-image_after
returns-clause-image_after g c next does =
    let k = c.load-keyboard.result in
    let v = sym c.if-not-valid.ensures in
    let steps : FnOnceReturnsAtMut g.F.FnOnce c.args.step k c.step-response.result c.step-response.new.arg2 = search rules in
    c.save.ensures.whole (valid-is _ v).long
    ∙ ap (λ (s : Stepped). image_of s.keyboard) (does k _ _ steps ∙ ap next c.load-keyboard.ensures)
    ∙ sym (image-of next c.args.image.now v)
