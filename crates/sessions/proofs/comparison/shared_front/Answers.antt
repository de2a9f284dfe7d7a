use Rattle.std.proofs.Common.{arith}
use Rattle.std.proofs.lemmas.List.{length-drop}
use Rattle.std.proofs.lemmas.List.Sums.{common_prefix_len-le}
use Rattle.sessions.proofs.comparison.shared_front.Goals as goal

pub returns-else-shared-other-clause-shared : goal.returns-else-shared-other-clause-shared
returns-else-shared-other-clause-shared c = grind (arith, common_prefix_len-le, length-drop)
