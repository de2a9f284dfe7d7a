use Rattle.std.proofs.Common.{◌≡◌, ℕ, Result, IfOk, subst}
use Rattle.mx_link.specs.declared.resolving.LinkError.{LinkError}
use Rattle.mx_link.specs.declared.resolving.Target.{Target}
use Rattle.mx_state.specs.Knowing.{link_towards}
use Rattle.mx_state.specs.Plain.{Plain}
use Rattle.mx_fresh.specs.Outcomes.{leading_of}
use Rattle.mx_fresh.proofs.resolving.resolved_by.Goals as goal

pub returns-clause-answer : goal.returns-clause-answer
returns-clause-answer c =
    subst (λ (to : Result Target LinkError). IfOk c.resolved_towards.result (λ given. (s : Plain) (p : ℕ)
    → link_towards (record s { hierarchy = c.args.hierarchy.now }) p c.args.ring c.args.process.now c.args.link.now to
    ≡ leading_of (record s { hierarchy = c.args.hierarchy.now }) p c.args.process.now given)) c.in_ok-to.ensures c.resolved_towards.ensures.answer
