use Rattle.mx_printed.proofs.PrintedLaws.{run_text_law}
use Rattle.mx_printed.proofs.laws.each_legal_run_has_both_texts.Goals as goal

pub returns : goal.returns
returns c = run_text_law
