use Rattle.std.proofs.Common.{sym, ◌∙◌, ap, subst, Some, ◌≡◌}
use Rattle.mx_effring.specs.declared.walks.Want.TheVariants.{Done}
use Rattle.mx_upcall.specs.Control.{Control}
use Rattle.mx_line.proofs.DirectLaws.{direct_taken, direct_met}
use Rattle.mx_line.proofs.TakenLaws.{over_within}
use Rattle.mx_line.specs.Operands.{first_want}
use Rattle.mx_line.proofs.at_work.first_seen.Goals as goal

pub returns-in-Some-clause-taken : goal.returns-in-Some-clause-taken
returns-in-Some-clause-taken c =
    direct_taken c.args.control.now c.args.line.now c.in-Some.target c.args.element.now c.args.desc.now c.did.result
    (subst (λ (k : Control). first_want k.registers c.args.line.now ≡ Some (Done c.in-Some.target)) c.control.view_is c.in-Some.ensures.is)
    c.did.ensures.leads

pub returns-in-Some-clause-nearer : goal.returns-in-Some-clause-nearer
returns-in-Some-clause-nearer c = over_within 10 c.did.result c.did.ensures.over

pub returns-in-Some-clause-known : goal.returns-in-Some-clause-known
returns-in-Some-clause-known c = λ met.
    c.did.ensures.known met.asked
    (direct_met c.args.control.now c.args.line.now c.in-Some.target c.args.element.now c.args.desc.now
    (subst (λ (k : Control). first_want k.registers c.args.line.now ≡ Some (Done c.in-Some.target)) c.control.view_is c.in-Some.ensures.is) met)
    met.right
