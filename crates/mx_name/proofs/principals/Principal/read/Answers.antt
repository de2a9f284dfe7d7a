use Rattle.std.proofs.Common.{sym}
use Rattle.mx_name.specs.Parts.{plain}
use Rattle.mx_name.proofs.TextLaws.{spelled_text}
use Rattle.mx_name.proofs.principals.Principal.read.Goals as goal

pub returns-in-None-clause-spelled : goal.returns-in-None-clause-spelled
returns-in-None-clause-spelled c = rw c.of.ensures (spelled_text c.args.text.now (plain c.in_ok-parts.parts) (sym c.in_ok-parts.ensures))
