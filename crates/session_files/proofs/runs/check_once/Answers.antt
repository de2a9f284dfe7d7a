use Rattle.std.proofs.Common.{◌≡◌, ◌++◌, ℕ, List, IfOk, rules, subst}
use Rattle.session_files.proofs.RunLaws.{check_ended_of}
use Rattle.session_files.specs.Runs.{IsCheckEnded}
use Rattle.session_files.proofs.runs.check_once.Goals as goal

pub returns : goal.returns
returns g c =
    let same : c.deref.result.now ≡ c.args.session.now ++ c.args.run.now = search rules in
    subst (λ (both : List ℕ). IfOk c.command.result (IsCheckEnded both)) same
    (check_ended_of _ c.deref.result.now c.command.result (search rules) c.command.ensures)
