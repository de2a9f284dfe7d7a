use Rattle.std.proofs.Common.{ap, ◌∙◌}
use Rattle.mx_state.specs.Knowing.{link_towards}
use Rattle.mx_state.specs.Plain.{Plain}
use Rattle.mx_fresh.proofs.resolving.resolved_towards.Goals as goal

pub returns-in-Err-clause-answer : goal.returns-in-Err-clause-answer
returns-in-Err-clause-answer c = λ s p.
    let state : Plain = record s { hierarchy = c.args.hierarchy.now } in
    ap (link_towards state p c.args.ring c.args.process.now c.args.link.now) c.in-Err.is
    ∙ c.nowhere.ensures state p c.args.ring c.args.process.now c.args.link.now
