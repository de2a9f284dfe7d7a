use Rattle.std.proofs.Common.{rules}
use Rattle.session_files.proofs.RunLaws.{drill_ended_of}
use Rattle.session_files.proofs.runs.drill_once.Goals as goal

pub returns : goal.returns
returns g c = drill_ended_of _ c.args.number.now _ c.command.result (search rules) c.command.ensures
