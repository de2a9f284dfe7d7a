use Rattle.std.proofs.Common.{sym, subst}
use Rattle.mx_line.specs.AtWork.{StandsAt}
use Rattle.mx_line.specs.declared.at_work.LineAtWork.{LineAtWork}
use Rattle.mx_parts.specs.Ends.{HasEnd}
use Rattle.mx_transcript.specs.Next.{Next}
use Rattle.mx_parts.proofs.ends.end_at.Goals as goal

pub returns-in-At-clause-end : goal.returns-in-At-clause-end
returns-in-At-clause-end c = λ setting course full stands.
    subst (λ (asks : Next). HasEnd setting c.args.process.now.control asks c.asked_end.result)
    (sym (c.asks.ensures.is course
    (subst (λ (work : LineAtWork). StandsAt c.args.process.now.control c.args.line.now course work) c.in-At.is stands)))
    (c.asked_end.ensures.end setting full)
