use Rattle.mx_legal.proofs.DeciderLaws.{step_found}
use Rattle.mx_legal.proofs.fronts.first_bad_step.Goals as goal

pub returns : goal.returns
returns c =
    step_found c.args.session.now c.args._journal.now c.args._transcripts.now c.args.p c.args.lines.now c.args.naming c.args.undone
    c.misnamed.result c.first_bad_initial-initial.result c.first_early_full-full.result c.earlier.result c.earlier-2.result c.earlier-3.result
    c.requires.lines c.requires.undone c.requires.naming c.misnamed.ensures c.first_bad_initial-initial.ensures
    c.first_early_full-full.ensures c.earlier.ensures c.earlier-2.ensures c.earlier-3.ensures
