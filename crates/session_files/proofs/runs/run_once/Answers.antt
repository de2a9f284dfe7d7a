use Rattle.std.proofs.Common.{rules}
use Rattle.session_files.proofs.RunLaws.{ended_of}
use Rattle.session_files.proofs.runs.run_once.Goals as goal

pub returns : goal.returns
returns g c = ended_of _ c.args.session.now c.command.result (search rules) c.command.ensures
