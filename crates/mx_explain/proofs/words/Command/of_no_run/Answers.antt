use Rattle.mx_explain.proofs.WordLaws.{not_drill}
use Rattle.mx_explain.proofs.words.Command.of_no_run.Goals as goal

pub returns-in-None-one_number : goal.returns-in-None-one_number
returns-in-None-one_number c = not_drill c.args.name.now _ c.in-drill.is c.in-None-one_number.ensures.value
