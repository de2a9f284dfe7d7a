use Rattle.std.proofs.Common.{subst, sym, rules, IsSorted}
use Rattle.std.specs.Ordering.{nat_cmp}
use Rattle.std.specs.Cmp.Lexicographic.{slice_cmp}
use Rattle.mx_hier.proofs.OrderLaws.{inserted}
use Rattle.mx_hier.proofs.kept.place.Goals as goal

pub returns-clause-sorted : goal.returns-clause-sorted
returns-clause-sorted c =
    subst (IsSorted (slice_cmp nat_cmp))
    (sym (inserted c.args.names.now.items c.insert-room.result c.insert-room.ensures.items (c.insert-room.ensures.succeeds (search rules)))) (search rules)
