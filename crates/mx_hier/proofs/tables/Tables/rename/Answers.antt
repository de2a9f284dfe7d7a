use Rattle.std.proofs.Common.{ap, sym, ◌∙◌}
use Rattle.std.proofs.lemmas.Result.{on_ok_weaker}
use Rattle.mx_hier.specs.Branches.{uid_in}
use Rattle.mx_hier.specs.Listed.{Listed, with_name}
use Rattle.mx_hier.proofs.KeptLaws.{slot_listed, listed_changed}
use Rattle.mx_hier.proofs.tables.Tables.rename.Goals as goal

pub rename_branch-requires-clause-free : goal.rename_branch-requires-clause-free
rename_branch-requires-clause-free c = λ branch is.
    ap (λ (value : Listed). uid_in value.branches branch.parent c.args.name.now) c.self.view_is
    ∙ c.requires.free branch (sym (slot_listed c.self.inside.slots.items c.args.self.now c.args.uid c.self.invariant.keyed c.self.view_is) ∙ is)

pub returns-clause-ok : goal.returns-clause-ok
returns-clause-ok c =
    on_ok_weaker c.rename_branch.result
    (λ e. listed_changed c.self.inside.slots.items c.rename_branch.new.slots.items c.args.self.now c.args.uid (with_name c.args.name.now) c.self.invariant.keyed c.self.view_is e)
    c.rename_branch.ensures.ok
