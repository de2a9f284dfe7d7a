use Rattle.std.proofs.Common.{true, sym, ◌∙◌}
use Rattle.mx_hier.specs.Walks.{walk}
use Rattle.mx_hier.specs.Who.{subject}
use Rattle.mx_hier.proofs.FindLaws.{not_found}
use Rattle.mx_fresh.proofs.hierarchy.FreshHierarchy.find_along.Goals as goal

pub returns-in-Err : goal.returns-in-Err
returns-in-Err c =
    not_found c.args.self.now (subject c.args.who.now) (walk 10 c.args.self.now true 0 c.args.path.now) c.in-Err.field-0 (sym c.in-Err.is ∙ c.in_ok-uid.ensures)
