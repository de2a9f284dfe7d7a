use Rattle.mx_access.proofs.AllRowLaws.{told_from}
use Rattle.mx_access.proofs.access.answers_on.Goals as goal

pub returns : goal.returns
returns g c =
    told_from c.args.session.now c.args.entries.now c.args.transcripts.now c.in_ok-asked.asked.starts.items
    c.in_ok-told.told.items c.in_ok-asked.ensures.starts c.in_ok-told.ensures
