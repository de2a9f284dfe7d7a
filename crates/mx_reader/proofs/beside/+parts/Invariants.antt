use Rattle.std.proofs.Common.{◌+◌, ◌-◌, ◌*◌}
use Rattle.mx_reader.proofs.beside.+parts.Given as goal

abbrev pub decreases-read_parts : goal.decreases-read_parts
decreases-read_parts g l = 2 * (16 - l.number)

abbrev pub decreases-others : goal.decreases-others
decreases-others g l = 2 * (16 - l.next) + 1
