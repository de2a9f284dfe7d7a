use Rattle.mx_name.specs.Principals.{IsPrincipal}
use Rattle.mx_name.proofs.TextLaws.{principal_again}
use Rattle.mx_name.proofs.principals.Principal.append_to.Goals as goal

pub returns-clause-again : goal.returns-clause-again
returns-clause-again c = let fits : IsPrincipal c.args.self.now = rw (← c.self.view_is) c.self.invariant in principal_again c.args.self.now fits
