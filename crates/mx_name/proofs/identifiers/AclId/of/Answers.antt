use Rattle.std.proofs.Common.{arith}
use Rattle.mx_name.specs.Parts.{plain}
use Rattle.mx_name.proofs.IdLaws.{written_within}
use Rattle.mx_name.proofs.identifiers.AclId.of.Goals as goal

pub of-requires-3 : goal.of-requires-3
of-requires-3 c = let within = written_within (plain c.args.parts.now) c.requires in (omega arith, (within.2, omega (arith, within.2)))
