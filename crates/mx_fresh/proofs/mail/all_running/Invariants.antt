use Rattle.std.proofs.Common.{◌≡◌}
use Rattle.mx_mail.specs.Processes.{all_running}
use Rattle.mx_fresh.proofs.mail.all_running.Given as goal

-- the processes so far
abbrev pub invariant-loop-process : goal.invariant-loop-process
invariant-loop-process l = l.mail.items ≡ all_running l._process
