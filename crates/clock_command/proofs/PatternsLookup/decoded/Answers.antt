use Rattle.std.proofs.Common.{◌≡◌, ◌∙◌, rules, ◌%◌, leb}
use Rattle.clock_spec.specs.declared.Command.TheVariants.{Extended}
use Rattle.clock_command.specs.Decode.{decode}
use Rattle.clock_command.proofs.Agrees.{agrees}
use Rattle.clock_command.proofs.PatternsLookup.decoded.Goals as goal

pub returns-then-byte-eq56 : goal.returns-then-byte-eq56
unfolding decode
returns-then-byte-eq56 c =
    let a = c.args in
    let r : Extended (leb 128 a.byte) (a.byte % 8) ≡ decode a.chip a.byte = search rules in
    r ∙ agrees a.chip a.byte (search rules)

pub returns-else-eq : goal.returns-else-eq
unfolding decode
returns-else-eq c =
    let a = c.args in
    let r : c.short_command.result ≡ decode a.chip a.byte = search rules in
    r ∙ agrees a.chip a.byte (search rules)
