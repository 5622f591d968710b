use Rattle.std.proofs.Common.{◌∙◌, rules}
use Rattle.clock_command.specs.Table.{table}
use Rattle.clock_command.proofs.Agrees.{table-agrees}
use Rattle.clock_command.proofs.TableLookup.decoded.Goals as goal

pub returns : goal.returns
unfolding table
returns c = c.entry_meaning.ensures ∙ table-agrees c.args.chip c.args.byte (search rules)
