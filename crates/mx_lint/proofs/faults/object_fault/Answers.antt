use Rattle.mx_lint.proofs.ItemLaws.{opened_seen, seen_more}
use Rattle.mx_lint.proofs.faults.object_fault.Goals as goal

pub loop-rest-preserved : goal.loop-rest-preserved
loop-rest-preserved c =
    let h = opened_seen _ _ _ _ _ _ c.in-Some.is c.first_piece.ensures.pieces c.loop-rest.invariant in
    let too = rw c.in_default-2.is at c.in_ok-fault.ensures in
    seen_more _ _ _ _ _ _ _ h too
