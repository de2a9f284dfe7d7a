use Rattle.std.proofs.Common.{sym, ap, ◌+◌, ◌∙◌, subst, IsSorted, rules}
use Rattle.std.specs.List.{sum_by}
use Rattle.std.specs.Ordering.{nat_cmp}
use Rattle.std.specs.Cmp.Lexicographic.{slice_cmp}
use Rattle.mx_hier.proofs.OrderLaws.{left_sorted, taken_out}
use Rattle.mx_hier.proofs.kept.displace.Goals as goal

pub returns-clause-sorted : goal.returns-clause-sorted
returns-clause-sorted c =
    subst (IsSorted (slice_cmp nat_cmp)) (sym c.remove.ensures.items) (left_sorted c.position_of-at.result c.args.names.now.items c.requires.sorted)

pub returns-clause-all : goal.returns-clause-all
returns-clause-all c f =
    taken_out f c.args.name.now c.position_of-at.result c.args.names.now.items (search rules) (search rules)
    ∙ ap (λ names. f c.args.name.now + sum_by f names) (sym c.remove.ensures.items)
