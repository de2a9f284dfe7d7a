use Rattle.std.proofs.Common.{◌∙◌}
use Rattle.mx_acl.proofs.DecidingLaws.{decides, undecided}
use Rattle.mx_acl.proofs.lists.Acl.modes_of.Goals as goal

pub returns-clause-least : goal.returns-clause-least
returns-clause-least c = λ id modes is. c.decided.ensures.value ∙ decides c.args.self.now c.args.who.now c.decided.ensures.sorted id modes is

pub returns-clause-none : goal.returns-clause-none
returns-clause-none c = λ none. c.decided.ensures.value ∙ undecided c.args.self.now c.args.who.now c.decided.ensures.sorted none
