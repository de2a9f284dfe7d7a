use Rattle.mx_name.specs.Identifiers.{IsAclId}
use Rattle.mx_name.proofs.TextLaws.{acl_id_again}
use Rattle.mx_name.proofs.identifiers.AclId.append_to.Goals as goal

pub returns-clause-again : goal.returns-clause-again
returns-clause-again c = let fits : IsAclId c.args.self.now = rw (← c.self.view_is) c.self.invariant in acl_id_again c.args.self.now fits
