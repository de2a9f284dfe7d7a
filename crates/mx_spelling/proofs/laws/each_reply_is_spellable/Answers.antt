use Rattle.mx_spelling.proofs.JournalBounds.{reply_law}
use Rattle.mx_spelling.proofs.laws.each_reply_is_spellable.Goals as goal

pub returns : goal.returns
returns c = reply_law
