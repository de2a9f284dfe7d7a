use Rattle.std.proofs.Common.{sym, ◌∙◌}
use Rattle.mx_line.proofs.DirectLaws.{walk_ends_in}
use Rattle.mx_line.proofs.at_work.walked_end.Goals as goal

pub returns-in-Done-clause-taken : goal.returns-in-Done-clause-taken
returns-in-Done-clause-taken c =
    walk_ends_in c.args.control.now c.args.line.now c.args.walk.now c.in-Done.field-0 c.args.element.now c.end_at.result
    (sym c.want.ensures.value ∙ c.in-Done.is) c.end_at.ensures
