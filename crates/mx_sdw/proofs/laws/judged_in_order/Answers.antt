use Rattle.mx_sdw.specs.Judging.{cell_of}
use Rattle.mx_sdw.proofs.JudgingLaws.{granted_is_allowed, allowed_is_granted, denied_is_first, first_is_denied}
use Rattle.mx_sdw.proofs.laws.judged_in_order.Goals as goal

pub returns-clause-granted : goal.returns-clause-granted
returns-clause-granted c =
    (granted_is_allowed c.args.desc.now c.args.op c.args.ring c.args.word (cell_of c.args.desc.now c.args.word), allowed_is_granted c.args.desc.now c.args.op c.args.ring c.args.word)

pub returns-clause-denied : goal.returns-clause-denied
returns-clause-denied c =
    λ denial. (denied_is_first denial c.args.desc.now c.args.op c.args.ring c.args.word, first_is_denied denial c.args.desc.now c.args.op c.args.ring c.args.word)
