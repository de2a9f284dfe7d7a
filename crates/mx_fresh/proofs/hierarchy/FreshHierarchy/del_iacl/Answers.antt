use Rattle.std.proofs.Common.{[], ◌∷◌, refl}
use Rattle.mx_acl.specs.Access.{without_entry}
use Rattle.mx_hier.specs.declared.refusals.Refusal.TheVariants.{NoAclEntry}
use Rattle.mx_hier.specs.Branches.{directory_at}
use Rattle.mx_hier.specs.InitialLists.{initial_refusals, with_initial}
use Rattle.mx_hier.specs.Listed.{iacl_lacks}
use Rattle.mx_hier.specs.Who.{subject}
use Rattle.mx_hier.proofs.ChangeLaws.{refused_first}
use Rattle.mx_fresh.proofs.hierarchy.FreshHierarchy.del_iacl.Goals as goal

pub returns-in-Some-clause-answer : goal.returns-in-Some-clause-answer
returns-in-Some-clause-answer c =
    let h = c.args.self.now in (
      refused_first (initial_refusals h (subject c.args.who.now) c.args.uid)
          ((iacl_lacks c.args.kind c.args.id.now (directory_at h c.args.uid), NoAclEntry) ∷ []) c.in-Some.why
          (with_initial h c.args.uid c.args.kind (λ initial. without_entry initial c.args.id.now)) c.in-Some.ensures,
      refl,
    )
