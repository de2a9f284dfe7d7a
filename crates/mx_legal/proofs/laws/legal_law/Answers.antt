use Rattle.mx_legal.proofs.LegalLaws.{legal_law}
use Rattle.mx_legal.proofs.laws.legal_law.Goals as goal

pub returns : goal.returns
returns c = legal_law c.good_entries_law.ensures c.reads_to_law.ensures c.right_to_law.ensures c.right_reads_law.ensures c.setup_lines_law.ensures
