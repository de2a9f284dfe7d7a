use Rattle.std.proofs.Common.{codes}
use Rattle.std.proofs.lemmas.Bool.Decides.{Decides-eqb}
use Rattle.std.proofs.lemmas.Slice.Eq.{strip_suffix_is}
use Rattle.mx_reader.proofs.EntryLaws.{before_found}
use Rattle.mx_reader.proofs.entries.before_blank.Goals as goal

pub returns : goal.returns
returns c =
    before_found c.args.text.now c.strip_suffix.result
    (strip_suffix_is Decides-eqb c.args.text.now (codes " ") c.strip_suffix.result c.strip_suffix.ensures.cases)
