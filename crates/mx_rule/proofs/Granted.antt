-- What is granted lies in the memory; what is denied, and what transfers, is over at once.
use Rattle.std.proofs.Common.{◌≡◌, ℕ, ◌+◌, ◌*◌, ◌<◌, true, false, ap, Some, None, Ok, Err, arith}
use Rattle.mx_sdw.specs.Admissible.{IsAdmissible}
use Rattle.mx_sdw.specs.Descriptors.{Descriptor}
use Rattle.mx_sdw.specs.Judging.{judgement, ring_after}
use Rattle.mx_sdw.specs.Operations.{transfers}
use Rattle.mx_sdw.specs.declared.denials.Denial.{Denial}
use Rattle.mx_sdw.specs.declared.descriptors.Cell.{Cell}
use Rattle.mx_sdw.specs.declared.operations.Op.{Op}
use Rattle.mx_sdw.proofs.JudgingLaws.{granted_is_allowed}
use Rattle.mx_core.specs.Judging.{at_once, at_once_by}
use Rattle.mx_core.specs.declared.elements.Outcome.TheVariants.{Denied, Entered}
use Rattle.mx_core.specs.declared.words.Asked.{Asked}

pub granted_within : (d : Descriptor) (op : Op) (ring word : ℕ) (cell : Cell) → IsAdmissible d
    → judgement d op ring word ≡ Ok cell → 64 * d.page + word < 65536
granted_within d op ring word cell admissible granted =
    let allowed = granted_is_allowed d op ring word cell granted in
    let under = allowed.bound in
    let most = (admissible.segment allowed.kind).cells in omega arith

pub denied_at_once : (d : Descriptor) (a : Asked) (denial : Denial) → judgement d a.op a.ring a.word ≡ Err denial
    → at_once d a ≡ Some (Denied denial)
denied_at_once d a denial e = ap (at_once_by d a (transfers a.op)) e

pub through_at_once : (d : Descriptor) (a : Asked) (cell : Cell) → judgement d a.op a.ring a.word ≡ Ok cell
    → transfers a.op ≡ true → at_once d a ≡ Some (Entered (ring_after d a.op a.ring))
through_at_once d a cell e through = λ i. at_once_by d a (through i) (e i)

pub waits_then : (d : Descriptor) (a : Asked) (cell : Cell) → judgement d a.op a.ring a.word ≡ Ok cell
    → transfers a.op ≡ false → at_once d a ≡ None
waits_then d a cell e through = λ i. at_once_by d a (through i) (e i)
