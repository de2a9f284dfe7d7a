use Rattle.std.proofs.Common.{◌≡◌}
use Rattle.mx_mail.specs.Processes.{all_running}
use Rattle.mx_mail.proofs.mail.running_processes.Given as goal

-- the processes so far
abbrev pub invariant-loop : goal.invariant-loop
invariant-loop l = l.processes.items ≡ all_running l.counter
