use Rattle.std.proofs.Common.{◌∙◌}
use Rattle.mx_hier.specs.Who.{caller}
use Rattle.mx_hier.proofs.DirectoryLaws.{directory_told, directory_refused}
use Rattle.mx_hier.proofs.hier.Hier.directory.Goals as goal

pub returns-in-Ok-clause-answer : goal.returns-in-Ok-clause-answer
returns-in-Ok-clause-answer c =
    directory_told c.args.self.now (caller c.args.who.now) c.args.path.now c.in_ok-path.path c.of.result c.in-Ok.field-0
    c.in_ok-path.ensures.answer (c.of.ensures ∙ c.names.ensures.value) c.in-Ok.ensures

pub returns-in-Err-clause-answer : goal.returns-in-Err-clause-answer
returns-in-Err-clause-answer c =
    directory_refused c.args.self.now (caller c.args.who.now) c.args.path.now c.in_ok-path.path c.of.result c.in-Err.error
    c.in_ok-path.ensures.answer (c.of.ensures ∙ c.names.ensures.value) c.in-Err.ensures
