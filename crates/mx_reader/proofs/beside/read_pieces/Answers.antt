use Rattle.std.proofs.Common.{subst, sym}
use Rattle.mx_reader.proofs.PartLaws.{ends, found, put_together}
use Rattle.mx_reader.specs.Parts.{AreParts, IsHead}
use Rattle.mx_reader.proofs.beside.read_pieces.Goals as goal

pub returns : goal.returns
returns g c =
    let head = c.cut_part.result.0.now in
    let parts = c.cut_part.result.1.now in
    put_together _ c.in-Some.text.now head parts c.in-Some-2.journal c.of.result
    (ends _ c.in-Some.text.now _ c.in-Some.ensures.cases.0 c.in-Some.ensures.cases.1) c.cut_part.ensures
    (found (IsHead head) _ _ _ c.in_ok-journal.was c.in-Some-2.is c.read_both-journal.ensures.head)
    (subst (AreParts 0 parts) (sym c.of.ensures)
    (found (λ all. AreParts 0 parts all.items) _ _ _ c.in_ok-parts.was c.in-Some-3.is c.read_both-journal.ensures.parts))
