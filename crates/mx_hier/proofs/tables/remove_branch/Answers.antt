use Rattle.std.proofs.Common.{ap, sym, ◌∙◌}
use Rattle.mx_hier.specs.Listed.{present}
use Rattle.mx_hier.proofs.SlotLaws.{emptied_is}
use Rattle.mx_hier.proofs.KeptLaws.{parent_within, removed}
use Rattle.mx_hier.proofs.tables.remove_branch.Goals as goal

pub remove_name-requires : goal.remove_name-requires
remove_name-requires c =
    parent_within c.args.slots.now.items c.args.names.now.items c.args.uid c.in-Some.branch c.requires (sym c.take_branch.ensures.value ∙ c.in-Some.is)

pub returns-in-Some-clause-kept : goal.returns-in-Some-clause-kept
returns-in-Some-clause-kept c =
    rw (c.take_branch.ensures.after, c.remove_name.ensures.after)
    (removed c.args.slots.now.items c.args.names.now.items c.args.uid c.in-Some.branch c.requires (sym c.take_branch.ensures.value ∙ c.in-Some.is) c.remove_name.ensures.unique)

pub returns-in-Some-clause-branches : goal.returns-in-Some-clause-branches
returns-in-Some-clause-branches c = ap present c.take_branch.ensures.after ∙ emptied_is c.args.slots.now.items c.args.uid c.requires.keyed

pub returns-in_default-clause-branches : goal.returns-in_default-clause-branches
returns-in_default-clause-branches c = ap present c.take_branch.ensures.after ∙ emptied_is c.args.slots.now.items c.args.uid c.requires.keyed
