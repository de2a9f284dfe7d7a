use Rattle.mx_process.proofs.EntryLaws.{filled_so}
use Rattle.mx_process.proofs.entries.end_full.Goals as goal

pub returns-clause-filled : goal.returns-clause-filled
returns-clause-filled c =
    filled_so c.args.state.now c.end_line.new.state c.full-end.result c.full-end.ensures.end c.end_line.ensures.ended
