use Rattle.std.proofs.Common.{sym, Some, None}
use Rattle.mx_name.proofs.CutLaws.{cut_found}
use Rattle.mx_name.proofs.cutting.cut.Goals as goal

pub returns-in-Some-clause-cut : goal.returns-in-Some-clause-cut
returns-in-Some-clause-cut c = sym (cut_found c.args.mark c.args.text.now (Some c.in-Some.at) c.in-Some.ensures)

pub returns-in-None-clause-cut : goal.returns-in-None-clause-cut
returns-in-None-clause-cut c = sym (cut_found c.args.mark c.args.text.now None c.in-None.ensures)
