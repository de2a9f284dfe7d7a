use Rattle.std.proofs.Common.{ap, sym, subst}
use Rattle.mx_rule.specs.Codes.{IsCodable, word_by}
use Rattle.mx_rule.proofs.CodeLaws.{code_is_word, said_codable}
use Rattle.mx_rule.proofs.decoding.said.Goals as goal

pub view_in-requires : goal.view_in-requires
view_in-requires c = code_is_word c.args.found c.requires

pub returns-clause-codable : goal.returns-clause-codable
returns-clause-codable c =
    subst IsCodable (sym (ap word_by c.view_in.ensures)) (said_codable c.args.found c.requires)
