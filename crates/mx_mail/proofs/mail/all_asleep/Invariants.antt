use Rattle.std.proofs.Common.{◌≡◌, drop}
use Rattle.std.specs.List.{list_all}
use Rattle.mx_mail.specs.Taking.{is_asleep}
use Rattle.mx_mail.proofs.mail.all_asleep.Given as goal

-- all are asleep where all that are left are
abbrev pub invariant-loop-process : goal.invariant-loop-process
invariant-loop-process l = list_all is_asleep l.processes ≡ list_all is_asleep (drop l.process-index l.processes)
