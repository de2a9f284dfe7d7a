use Rattle.mx_legal.proofs.DeciderLaws.{initial_first}
use Rattle.mx_legal.proofs.fronts.first_bad_initial.Goals as goal

pub returns-then-p-eq0 : goal.returns-then-p-eq0
returns-then-p-eq0 c =
    initial_first c.args.session.now c.args.p c.setup_entries.result c.args.lines.now c.first_bad_setup.result c.if-p-eq0.true
    c.setup_entries.ensures c.first_bad_setup.ensures
