use Rattle.mx_line.proofs.ProcessLaws.{referring_in}
use Rattle.mx_line.proofs.processes.Process.refers.Goals as goal

pub returns-in-Walking : goal.returns-in-Walking
returns-in-Walking c =
    referring_in c.args.self.now c.args.line.now c.in-Walking.walk c.next_reference.result c.in-Walking.is c.next_reference.ensures.some
    c.next_reference.ensures.storable
