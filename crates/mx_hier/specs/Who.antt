-- Who asks, as the program has him.
use Rattle.mx_hier.specs.declared.callers.Who.{Who}
use Rattle.mx_hier.specs.Callers.{Subject, Caller}

abbrev pub subject : Who → Subject
subject who = record { principal = who.principal.now; authorization = who.authorization; ring = who.ring }

abbrev pub caller : Who → Caller
caller who = record { subject = subject who; base = who.base.now }
