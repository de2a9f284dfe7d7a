use Rattle.std.proofs.Common.{ℕ, List, ap, map, ◌∙◌}
use Rattle.std.specs.Map.{keys_of}
use Rattle.mx_hier.specs.declared.branches.Branch.{Branch}
use Rattle.mx_hier.specs.Branches.{entries_of}
use Rattle.mx_hier.specs.List.{in_byte_order}
use Rattle.mx_hier.specs.Listed.{Listed, present, kept_for}
use Rattle.mx_hier.proofs.NameLaws.{names_are}
use Rattle.mx_hier.proofs.tables.Tables.names_in.Goals as goal

pub returns-clause-names : goal.returns-clause-names
returns-clause-names c =
    c.in_ok-names.ensures.names
    ∙ ap in_byte_order
    (ap (λ (names : List (List (List ℕ × ℕ))). keys_of (kept_for names c.args.dir)) c.deref_mut.ensures.value
    ∙ ap keys_of (c.self.invariant.same c.args.dir)
    ∙ names_are (entries_of (present c.self.inside.slots.items) c.args.dir)
    ∙ ap (λ (value : Listed). map (λ (branch : Branch). branch.name) (entries_of value.branches c.args.dir)) c.self.view_is)
