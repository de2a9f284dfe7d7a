use Rattle.mx_line.proofs.ProcessLaws.{ends_in}
use Rattle.mx_line.specs.declared.operands.Progress.TheVariants.{Before, Walking}
use Rattle.mx_line.proofs.processes.Process.plain_end.Goals as goal

pub returns-in-Before : goal.returns-in-Before
returns-in-Before c =
    ends_in c.args.self.now Before c.args.line.now c.args.element.now c.first_end.result c.in-Before.is c.first_end.ensures.taken
    c.first_end.ensures.good

pub returns-in-Walking : goal.returns-in-Walking
returns-in-Walking c =
    ends_in c.args.self.now (Walking c.in-Walking.walk) c.args.line.now c.args.element.now c.walked_end.result c.in-Walking.is
    c.walked_end.ensures.taken c.walked_end.ensures.good
