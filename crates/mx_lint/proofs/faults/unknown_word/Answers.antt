use Rattle.std.proofs.Common.{◌∙◌}
use Rattle.mx_lint.specs.declared.forms.Form.TheVariants as kind
use Rattle.mx_lint.proofs.faults.unknown_word.Goals as goal

pub returns-in-Start : goal.returns-in-Start
returns-in-Start c = λ version line e ends. (c.in-Start.is, λ same. c.requires kind.Header (e ∙ same))
