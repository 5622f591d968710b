use Rattle.std.proofs.Common.{◌∙◌}
use Rattle.image_spec.proofs.Round.{valid-is}
use Rattle.image.proofs.restored.Goals as goal

pub load-requires : goal.load-requires
load-requires c = (valid-is _ (c.save.ensures.valid_after c.requires.m_value)).long

pub returns-clause-value : goal.returns-clause-value
returns-clause-value c = c.load.ensures ∙ c.save.ensures.given_back c.requires.m_value
