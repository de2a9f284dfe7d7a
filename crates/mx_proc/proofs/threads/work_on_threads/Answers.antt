use Rattle.std.proofs.Common.{rules}
use Rattle.mx_proc.proofs.threads.work_on_threads.Goals as goal

pub scoped-requires : goal.scoped-requires
scoped-requires g c = record {
  at = λ a. (c.requires.place, (c.requires.awake, (search rules, search rules, search rules, search rules)));
}
