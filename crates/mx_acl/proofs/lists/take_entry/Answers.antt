use Rattle.std.proofs.Common.{not, ap, ◌∙◌, is_some}
use Rattle.std.specs.Ordering.{eq_by_cmp}
use Rattle.std.specs.FinMap.Entries.{find, is_sorted-where_key}
use Rattle.mx_name.specs.Identifiers.{PlainAclId}
use Rattle.mx_name.specs.IdentifierOrder.{id_cmp}
use Rattle.mx_acl.proofs.AclLaws.{found, taken_is, entry_taken}
use Rattle.mx_acl.proofs.lists.take_entry.Goals as goal

pub returns-clause-found : goal.returns-clause-found
returns-clause-found c = c.is_some.ensures ∙ ap is_some (c.shift_remove.ensures.value ∙ found c.args.id.now c.args.entries.now.entries)

pub returns-clause-taken : goal.returns-clause-taken
returns-clause-taken c = c.shift_remove.ensures.entries ∙ taken_is c.args.id.now c.args.entries.now.entries c.requires

pub returns-clause-sorted : goal.returns-clause-sorted
returns-clause-sorted c =
    rw (c.shift_remove.ensures.entries, taken_is c.args.id.now c.args.entries.now.entries c.requires)
    (is_sorted-where_key id_cmp (λ (other : PlainAclId). not (eq_by_cmp id_cmp c.args.id.now other)) c.args.entries.now.entries c.requires)

pub returns-clause-entries : goal.returns-clause-entries
returns-clause-entries c = λ other.
    ap (find id_cmp other) (returns-clause-taken c) ∙ entry_taken c.args.entries.now.entries c.args.id.now other
