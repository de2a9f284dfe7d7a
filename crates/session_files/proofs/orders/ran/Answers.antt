use Rattle.mx_run.proofs.SpellingLaws.{spelled}
use Rattle.session_files.proofs.orders.ran.Goals as goal

pub returns-clause-spellable : goal.returns-clause-spellable
returns-clause-spellable g c =
    spelled c.args.session.now c.run_in_order.result c.scripts-scripts.ensures.session c.requires c.run_in_order.ensures.legal
