use Rattle.std.proofs.Common.{◌∙◌, List, Option, ap, subst}
use Rattle.std.specs.Option.{IfSome}
use Rattle.mx_hier.specs.declared.branches.Branch.{Branch}
use Rattle.mx_hier.specs.Branches.{branch_of}
use Rattle.mx_hier.specs.Listed.{Listed, slot_of}
use Rattle.mx_hier.proofs.SlotLaws.{slot_is, slot_placed, behind, IsPlaced}
use Rattle.mx_hier.proofs.tables.Tables.get.Goals as goal

pub returns-clause-value : goal.returns-clause-value
returns-clause-value c =
    c.branch_at.ensures ∙ ap (λ (slots : List (Option Branch)). slot_of slots c.args.uid) c.deref.ensures.value
    ∙ slot_is c.self.inside.slots.items c.args.uid c.self.invariant.keyed ∙ ap (λ (value : Listed). branch_of value.branches c.args.uid) c.self.view_is

pub returns-clause-below : goal.returns-clause-below
returns-clause-below c =
    behind c.branch_at.result (slot_of c.self.inside.slots.items c.args.uid) (IsPlaced c.args.uid c.args.self.now.next)
    (c.branch_at.ensures ∙ ap (λ (slots : List (Option Branch)). slot_of slots c.args.uid) c.deref.ensures.value)
    (subst (λ (value : Listed). IfSome (slot_of c.self.inside.slots.items c.args.uid) (IsPlaced c.args.uid value.next)) c.self.view_is
    (slot_placed c.self.inside.slots.items c.args.uid c.self.invariant.keyed))
