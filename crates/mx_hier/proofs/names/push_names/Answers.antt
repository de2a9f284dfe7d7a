use Rattle.std.proofs.Common.{ap, ◌∙◌, arith}
use Rattle.std.proofs.Math.ListN.{drop_of_length-le}
use Rattle.std.specs.List.{list_all}
use Rattle.mx_name.specs.Names.{is_free}
use Rattle.mx_hier.proofs.NameTextLaws.{behind_again}
use Rattle.mx_hier.proofs.names.push_names.Goals as goal

pub returns-clause-names : goal.returns-clause-names
returns-clause-names c =
    behind_again c.args.names.now
    (c.loop-name.invariant.1 ∙ ap (list_all (is_free 32)) (drop_of_length-le c.args.names.now (omega arith)))
