use Rattle.mx_spelling.proofs.JournalBounds.{spellable_law}
use Rattle.mx_spelling.proofs.laws.each_legal_run_is_spellable.Goals as goal

pub returns : goal.returns
returns c = spellable_law
