use Rattle.mx_legal.proofs.EntryLaws.{good_entries}
use Rattle.mx_legal.proofs.laws.good_entries_law.Goals as goal

pub returns : goal.returns
returns c = good_entries
