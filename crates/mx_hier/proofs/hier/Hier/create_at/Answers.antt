use Rattle.std.proofs.Common.{refl}
use Rattle.mx_hier.specs.Who.{subject}
use Rattle.mx_hier.proofs.MakingLaws.{node_refused}
use Rattle.mx_hier.proofs.hier.Hier.create_at.Goals as goal

pub returns-in-Some-clause-answer : goal.returns-in-Some-clause-answer
returns-in-Some-clause-answer c =
    (node_refused c.args.self.now (subject c.args.who.now) c.args.at.now c.args.node c.in-Some.why c.in-Some.ensures.value, refl)
