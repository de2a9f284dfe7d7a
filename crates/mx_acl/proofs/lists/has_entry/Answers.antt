use Rattle.std.proofs.Common.{ap, ◌∙◌, is_some}
use Rattle.mx_acl.proofs.AclLaws.{found}
use Rattle.mx_acl.proofs.lists.has_entry.Goals as goal

pub returns : goal.returns
returns c = c.contains_key.ensures ∙ ap is_some (found c.args.id.now c.args.entries.now.entries)
