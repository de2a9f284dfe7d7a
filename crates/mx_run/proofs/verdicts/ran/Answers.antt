use Rattle.mx_run.proofs.SpellingLaws.{spelled}
use Rattle.mx_run.proofs.verdicts.ran.Goals as goal

pub returns-clause-spellable : goal.returns-clause-spellable
returns-clause-spellable g c = spelled c.args.session.now c.run.result c.scripts-scripts.ensures.session c.requires.text c.run.ensures.legal
