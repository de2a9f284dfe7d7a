use Rattle.mx_stores.proofs.ChoiceLaws.{choice_law}
use Rattle.mx_stores.proofs.laws.choice_law.Goals as goal

pub returns : goal.returns
returns c = choice_law
