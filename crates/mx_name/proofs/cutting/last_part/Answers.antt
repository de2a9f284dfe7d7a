use Rattle.std.proofs.Common.{Some, None}
use Rattle.mx_name.proofs.CutLaws.{last_found}
use Rattle.mx_name.proofs.cutting.last_part.Goals as goal

pub returns-in-Some : goal.returns-in-Some
returns-in-Some c = last_found c.args.mark c.args.text.now (Some c.in-Some.at) c.in-Some.ensures

pub returns-in-None : goal.returns-in-None
returns-in-None c = last_found c.args.mark c.args.text.now None c.in-None.ensures
