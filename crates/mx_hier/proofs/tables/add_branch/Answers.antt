use Rattle.std.proofs.Common.{List, [], ◌∷◌, ◌++◌, Option, Some, refl, ap, ◌∙◌}
use Rattle.mx_hier.specs.declared.branches.Branch.{Branch}
use Rattle.mx_hier.proofs.KeptLaws.{kept_as}
use Rattle.mx_hier.proofs.tables.add_branch.Goals as goal

pub returns-clause-kept : goal.returns-clause-kept
returns-clause-kept c =
    let names = c.give_name.new.names.items in
    kept_as c.push_reserved.new.self.items (c.args.slots.now.items ++ Some c.args.branch ∷ []) names names
    (c.push_reserved.ensures.items ∙ ap (λ (slots : List (Option Branch)). slots ++ Some c.args.branch ∷ []) c.give_name.ensures.same)
    refl c.in_ok-give_name.ensures.ok
