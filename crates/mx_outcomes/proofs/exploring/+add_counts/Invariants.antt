use Rattle.std.proofs.Common.{length}
use Rattle.mx_outcomes.proofs.exploring.+add_counts.Given as goal

abbrev pub decreases-add_counts : goal.decreases-add_counts
decreases-add_counts l = length l.scripts.now
