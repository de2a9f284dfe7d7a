use Rattle.std.proofs.Common.{refl}
use Rattle.mx_legal.proofs.VerdictLaws.{read_found}
use Rattle.mx_legal.proofs.failing.first_own_read.Goals as goal

pub returns : goal.returns
returns c = λ before.
    read_found c.reads_to_law.ensures c.args._session.now c.args._journal.now c.args._transcripts.now c.args.p c.args._access.now.deeds.items
    c.args._access.now.deeds.items c.args.wrong c.place_of.result refl c.requires.access.deeds c.requires.wrong c.place_of.ensures before
