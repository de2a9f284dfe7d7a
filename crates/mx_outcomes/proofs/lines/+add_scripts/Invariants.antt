use Rattle.std.proofs.Common.{length}
use Rattle.mx_outcomes.proofs.lines.+add_scripts.Given as goal

abbrev pub decreases-add_scripts : goal.decreases-add_scripts
decreases-add_scripts l = length l.scripts.now
