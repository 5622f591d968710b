use Rattle.std.proofs.Common.{◌≡◌, ◌++◌, drop, rules, sym, ◌∙◌}
use Rattle.octets.specs.Octets.{put_at}
use Rattle.octets.proofs.Laws.{put_whole}
use Rattle.keyboard_image.specs.Image.{image_of}
use Rattle.keyboard_image.proofs.Round.{image-long}
use Rattle.keyboard_image.proofs.save.Goals as goal

pub returns-clause-whole : goal.returns-clause-whole
returns-clause-whole c long =
    let k = c.args.keyboard in
    let front : c.copy_from_slice.new.self ++ drop 18 c.args.image.now ≡ put_at c.args.image.now 0 (image_of k) = search rules in
    front ∙ put_whole c.args.image.now (image_of k) (long ∙ sym (image-long k (search rules)))
