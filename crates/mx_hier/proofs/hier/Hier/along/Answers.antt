use Rattle.std.proofs.Common.{◌≡◌, ◌++◌, Option, None, sym, ap, ◌∙◌, rules}
use Rattle.mx_hier.specs.declared.branches.Directory.{Directory}
use Rattle.mx_hier.specs.declared.refusals.Refusal.TheVariants.{NotADir}
use Rattle.mx_hier.specs.Branches.{Hierarchy, uid_in}
use Rattle.mx_hier.specs.Walks.{Linked, Refused}
use Rattle.mx_hier.proofs.WalkLaws.{stops_at_link, stops_outside, stops_unfound}
use Rattle.mx_hier.proofs.hier.Hier.along.Goals as goal

pub returns-in-Some-target_at : goal.returns-in-Some-target_at
returns-in-Some-target_at c =
    rw c.names.ensures.value
    (ap (λ (dir : Option Directory). Linked dir (c.in-Some-target_at.target.now ++ c.loop-name.rest)) c.holding.ensures
    ∙ sym (stops_at_link c.args.self.now c.args.follow c.loop-name.at c.loop-name.rest c.in-Some.name c.in-Some.after c.in-Some.ensures c.in-Some-target_at.target.now (sym c.in-Some-target_at.ensures))
    ∙ c.loop-name.invariant)

pub returns-in_default-directory_at : goal.returns-in_default-directory_at
returns-in_default-directory_at c =
    ap (Refused NotADir) c.holding-in_default-directory_at.ensures
    ∙ sym (stops_outside c.args.self.now c.args.follow c.loop-name.at c.loop-name.rest c.in-Some.name c.in-Some.after c.in-Some.ensures
    (sym c.in_default-target_at.ensures) (sym c.in_default-directory_at.ensures.value))
    ∙ c.loop-name.invariant

pub returns-in_default-found_in : goal.returns-in_default-found_in
returns-in_default-found_in c =
    let there : uid_in c.self.inside.tables.branches c.loop-name.at c.in-Some.name ≡ None = search rules in
    sym (stops_unfound c.args.self.now c.args.follow c.loop-name.at c.loop-name.rest c.in-Some.name c.in-Some.after c.in-Some.ensures c.in-Some-directory_at.directory.now
    (sym c.in_default-target_at.ensures) (sym c.in-Some-directory_at.ensures.value)
    (ap (λ (h : Hierarchy). uid_in h.branches c.loop-name.at c.in-Some.name) (sym c.self.view_is) ∙ there))
    ∙ c.loop-name.invariant
