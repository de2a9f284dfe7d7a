use Rattle.mx_ties.proofs.GoingLaws.{seen_law, miss_law, entered_law}
use Rattle.mx_ties.proofs.laws.going_law.Goals as goal

pub returns : goal.returns
returns c = record { seen = seen_law; missed = miss_law; entered = entered_law }
