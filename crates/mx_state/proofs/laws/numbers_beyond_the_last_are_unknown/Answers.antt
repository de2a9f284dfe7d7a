use Rattle.mx_state.proofs.Descriptors.{own_beyond}
use Rattle.mx_state.proofs.NumberedLaws.{unknown_law}
use Rattle.mx_state.proofs.laws.numbers_beyond_the_last_are_unknown.Goals as goal

pub returns : goal.returns
returns c = record { own = own_beyond; unknown = unknown_law }
