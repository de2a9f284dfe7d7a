use Rattle.std.proofs.Common.{refl}
use Rattle.mx_hier.specs.Who.{subject}
use Rattle.mx_hier.proofs.MakingLaws.{dir_refused}
use Rattle.mx_hier.proofs.hier.Hier.create_dir_at.Goals as goal

pub returns-in-Some-clause-answer : goal.returns-in-Some-clause-answer
returns-in-Some-clause-answer c =
    (dir_refused c.args.self.now (subject c.args.who.now) c.args.at.now c.args.d1 c.args.d2 c.in-Some.why c.in-Some.ensures.value, refl)
