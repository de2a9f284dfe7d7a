use Rattle.std.proofs.Common.{ap, ◌∙◌}
use Rattle.std.specs.Prelude.{T}
use Rattle.std.specs.FinMap.Entries.{is_sorted, find, length-put}
use Rattle.mx_name.specs.IdentifierOrder.{id_cmp}
use Rattle.mx_name.specs.OrderLaws.{id_total}
use Rattle.mx_acl.proofs.AclLaws.{in_order, strictly, set_is, entry_put}
use Rattle.mx_acl.proofs.lists.put_entry.Goals as goal

pub returns-clause-sorted : goal.returns-clause-sorted
returns-clause-sorted c =
    strictly c.insert_sorted.new.self.entries (c.in_ok-insert_sorted.ensures.sorted (in_order c.args.entries.now.entries c.requires)) c.insert_sorted.ensures.unique

pub returns-clause-ok : goal.returns-clause-ok
returns-clause-ok c =
    let sorted : T (is_sorted id_cmp c.insert_sorted.new.self.entries) =
    strictly c.insert_sorted.new.self.entries (c.in_ok-insert_sorted.ensures.sorted (in_order c.args.entries.now.entries c.requires)) c.insert_sorted.ensures.unique in
    set_is c.args.entries.now.entries c.insert_sorted.new.self.entries c.args.id c.args.modes c.requires sorted c.in_ok-insert_sorted.ensures.updates.0

pub returns-clause-entries : goal.returns-clause-entries
returns-clause-entries c = λ other.
    ap (find id_cmp other) (returns-clause-ok c) ∙ entry_put c.args.entries.now.entries c.args.id c.args.modes other

pub returns-clause-count : goal.returns-clause-count
returns-clause-count c = rw (returns-clause-ok c) (length-put id_cmp id_total c.args.id c.args.modes c.args.entries.now.entries c.requires)
