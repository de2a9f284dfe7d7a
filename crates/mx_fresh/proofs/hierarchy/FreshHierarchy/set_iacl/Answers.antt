use Rattle.std.proofs.Common.{refl}
use Rattle.mx_acl.specs.Access.{with_entry}
use Rattle.mx_hier.specs.Branches.{directory_at}
use Rattle.mx_hier.specs.InitialLists.{initial_refusals, with_initial}
use Rattle.mx_hier.specs.Listed.{iacl_refusals}
use Rattle.mx_hier.specs.Who.{subject}
use Rattle.mx_hier.proofs.ChangeLaws.{refused_first}
use Rattle.mx_fresh.proofs.hierarchy.FreshHierarchy.set_iacl.Goals as goal

pub returns-in-Some-clause-answer : goal.returns-in-Some-clause-answer
returns-in-Some-clause-answer c =
    let h = c.args.self.now in (
      refused_first (initial_refusals h (subject c.args.who.now) c.args.uid)
          (iacl_refusals c.args.kind c.args.id.now c.args.modes (directory_at h c.args.uid)) c.in-Some.why
          (with_initial h c.args.uid c.args.kind (λ initial. with_entry initial c.args.id.now c.args.modes)) c.in-Some.ensures,
      refl,
    )
