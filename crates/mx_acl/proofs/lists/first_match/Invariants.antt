use Rattle.std.proofs.Common.{◌≡◌}
use Rattle.std.specs.Prelude.{T}
use Rattle.std.specs.FinMap.Entries.{is_sorted}
use Rattle.mx_name.specs.IdentifierOrder.{id_cmp}
use Rattle.mx_acl.specs.Access.{deciding}
use Rattle.mx_acl.proofs.lists.first_match.Given as goal

-- the entries that are left are in order, and decide as all do
abbrev pub invariant-loop-id : goal.invariant-loop-id
invariant-loop-id l =
    T (is_sorted id_cmp l.id-iterator) × (deciding l.who l.entries.entries ≡ deciding l.who l.id-iterator)
