use Rattle.std.proofs.Common.{ap, sym}
use Rattle.std.specs.Ordering.{nat_cmp, ordering_then}
use Rattle.mx_name.specs.Identifiers.{IsAclId, id_rank}
use Rattle.mx_name.proofs.TextOrder.{text_order}
use Rattle.mx_name.proofs.identifiers.kept_order.Goals as goal

pub returns : goal.returns
returns c =
    let a = c.args.a.now in
    let b = c.args.b.now in
    let a_fits : IsAclId a = rw (← c.a.view_is) c.a.invariant in
    let b_fits : IsAclId b = rw (← c.b.view_is) c.b.invariant in
    ap (ordering_then (nat_cmp (id_rank a) (id_rank b))) (sym (text_order a b a_fits b_fits))
