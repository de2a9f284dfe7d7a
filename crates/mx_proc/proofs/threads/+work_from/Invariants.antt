use Rattle.std.proofs.Common.{vec_len}
use Rattle.mx_proc.proofs.threads.+work_from.Given as goal

abbrev pub decreases-work_from : goal.decreases-work_from
decreases-work_from g a = vec_len a.row.now
