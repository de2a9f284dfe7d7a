use Rattle.mx_script.proofs.LengthLaws.{six_bytes_a_line, few_lines}
use Rattle.mx_script.proofs.laws.a_line_takes_six_bytes.Goals as goal

pub returns-clause-each : goal.returns-clause-each
returns-clause-each c = six_bytes_a_line

pub returns-clause-few : goal.returns-clause-few
returns-clause-few c = few_lines
