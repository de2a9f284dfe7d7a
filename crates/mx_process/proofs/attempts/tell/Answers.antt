use Rattle.std.proofs.Common.{ap}
use Rattle.std.specs.Option.{option_map}
use Rattle.mx_process.proofs.attempts.tell.Goals as goal

pub denied-requires : goal.denied-requires
denied-requires g c = c.requires (g.A.Auditor.account c.in-Some-auditor.auditor) (ap (option_map g.A.Auditor.account) c.in-Some-auditor.is)
