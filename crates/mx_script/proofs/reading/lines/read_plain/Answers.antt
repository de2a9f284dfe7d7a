use Rattle.std.proofs.Common.{sym}
use Rattle.mx_script.proofs.FirstLetters.{by_nothing}
use Rattle.mx_script.proofs.reading.lines.read_plain.Goals as goal

pub returns-in_default : goal.returns-in_default
returns-in_default c = sym (by_nothing c.args.line.now c.in_default.len_below)
