use Rattle.std.proofs.Common.{true, sym, ◌∙◌}
use Rattle.mx_hier.specs.Walks.{walk}
use Rattle.mx_hier.specs.Who.{subject}
use Rattle.mx_hier.proofs.FindLaws.{found, not_found}
use Rattle.mx_hier.proofs.hier.Hier.find_along.Goals as goal

pub returns-in-Ok-clause-value : goal.returns-in-Ok-clause-value
returns-in-Ok-clause-value c =
    c.accessible.ensures.value
    ∙ found c.args.self.now (subject c.args.who.now) (walk 10 c.args.self.now true 0 c.args.path) c.in-Ok.uid (sym c.in-Ok.ensures)

pub returns-in-Err-Refused-clause-value : goal.returns-in-Err-Refused-clause-value
returns-in-Err-Refused-clause-value c =
    not_found c.args.self.now (subject c.args.who.now) (walk 10 c.args.self.now true 0 c.args.path) c.in-Err-Refused.field-0-0
    (sym (rw c.in-Err-Refused.field-0-is at c.in-Err-Refused.ensures))
