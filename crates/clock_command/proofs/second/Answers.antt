use Rattle.std.proofs.Common.{◌≡◌, ◌∙◌, rules}
use Rattle.clock_spec.specs.declared.Command.TheVariants.{Illegal}
use Rattle.clock_command.specs.Decode.{second_of}
use Rattle.clock_command.proofs.Agrees.{second-agrees}
use Rattle.clock_command.proofs.second.Goals as goal

pub returns-then-byte-eq0 : goal.returns-then-byte-eq0
unfolding second_of
returns-then-byte-eq0 c =
    let a = c.args in
    let r : c.either_way.result ≡ second_of a.read a.high a.byte = search rules in
    r ∙ second-agrees a.read a.high a.byte (search rules)

pub returns-else-byte-lt128 : goal.returns-else-byte-lt128
unfolding second_of
returns-else-byte-lt128 c =
    let a = c.args in
    let r : Illegal ≡ second_of a.read a.high a.byte = search rules in
    r ∙ second-agrees a.read a.high a.byte (search rules)
