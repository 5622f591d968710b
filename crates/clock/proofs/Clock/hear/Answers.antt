use Rattle.std.proofs.Common.{sym, subst}
use Rattle.clock_spec.proofs.CommandRange.{Sound, hear-sound}
use Rattle.clock.proofs.Clock.hear.Goals as goal

pub fetch-requires : goal.fetch-requires
fetch-requires g c =
    let k = c.args.self.now.store.chip in
    subst (Sound k) (sym c.in-Reads.ensures) (hear-sound k c.args.bytes c.args.byte)

pub act-requires : goal.act-requires
act-requires g c =
    let k = c.args.self.now.store.chip in
    subst (Sound k) (sym c.in-Writes.ensures) (hear-sound k c.args.bytes c.args.byte)
