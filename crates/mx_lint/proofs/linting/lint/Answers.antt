use Rattle.std.proofs.Common.{rules}
use Rattle.mx_lint.proofs.linting.lint.Goals as goal

pub diagnose-requires : goal.diagnose-requires
diagnose-requires c = c.read_session.ensures.bad_line c.in-Err-BadLine.number (search rules)
