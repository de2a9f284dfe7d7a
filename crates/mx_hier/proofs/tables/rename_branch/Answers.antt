use Rattle.std.proofs.Common.{List, ◌≡◌, Option, Some, set, refl, ap, ◌∙◌}
use Rattle.mx_hier.specs.declared.branches.Branch.{Branch}
use Rattle.mx_hier.specs.Listed.{slot_of, changed_at, with_name, renamed, kept_for}
use Rattle.mx_hier.proofs.KeptLaws.{still_free, parent_within, kept_as, renamed_kept, shown}
use Rattle.mx_hier.proofs.tables.rename_branch.Goals as goal

pub rename_in-requires-clause-within : goal.rename_in-requires-clause-within
rename_in-requires-clause-within c =
    let is : slot_of c.args.slots.now.items c.args.uid ≡ Some c.in-Some.branch.now =
    shown c.branch_at.result (slot_of c.args.slots.now.items c.args.uid) c.in-Some.branch
    (c.branch_at.ensures ∙ ap (λ (slots : List (Option Branch)). slot_of slots c.args.uid) c.deref.ensures.value) c.in-Some.is in
    parent_within c.args.slots.now.items c.args.names.now.items c.args.uid c.in-Some.branch.now c.requires.kept is

pub rename_in-requires-clause-free : goal.rename_in-requires-clause-free
rename_in-requires-clause-free c =
    let is : slot_of c.args.slots.now.items c.args.uid ≡ Some c.in-Some.branch.now =
    shown c.branch_at.result (slot_of c.args.slots.now.items c.args.uid) c.in-Some.branch
    (c.branch_at.ensures ∙ ap (λ (slots : List (Option Branch)). slot_of slots c.args.uid) c.deref.ensures.value) c.in-Some.is in
    still_free c.args.slots.now.items c.args.names.now.items c.args.names.now.items c.in-Some.branch.now.parent c.args.name.now c.args.name.now
    c.requires.kept (λ at. refl) refl (c.requires.free c.in-Some.branch.now is)

pub returns-clause-kept : goal.returns-clause-kept
returns-clause-kept c =
    let branch = c.in-Some.branch.now in
    let is : slot_of c.args.slots.now.items c.args.uid ≡ Some branch =
    shown c.branch_at.result (slot_of c.args.slots.now.items c.args.uid) c.in-Some.branch
    (c.branch_at.ensures ∙ ap (λ (slots : List (Option Branch)). slot_of slots c.args.uid) c.deref.ensures.value) c.in-Some.is in
    kept_as c.put_name.new.slots.items (changed_at c.args.slots.now.items c.args.uid (with_name c.args.name.now))
    c.rename_in.new.names.items (set c.args.names.now.items branch.parent (renamed branch.name c.args.name.now (kept_for c.args.names.now.items branch.parent)))
    c.put_name.ensures
    c.in_ok-rename_in.ensures.ok
    (renamed_kept c.args.slots.now.items c.args.names.now.items c.args.uid branch c.args.name.now c.requires.kept is c.in_ok-rename_in.ensures.unique)
