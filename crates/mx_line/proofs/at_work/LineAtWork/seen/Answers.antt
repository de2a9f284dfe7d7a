use Rattle.std.proofs.Common.{sym, subst}
use Rattle.mx_core.specs.declared.elements.Event.TheVariants.{Seen}
use Rattle.mx_transcript.specs.declared.transcripts.Event2.TheVariants.{Core}
use Rattle.mx_line.specs.AtWork.{IsTaken}
use Rattle.mx_line.specs.declared.at_work.LineAtWork.{LineAtWork}
use Rattle.mx_line.specs.AtWork.{IsMet}
use Rattle.mx_line.proofs.at_work.LineAtWork.seen.Goals as goal

pub returns-in-At-clause-taken : goal.returns-in-At-clause-taken
returns-in-At-clause-taken c = λ setting on.
    subst (λ (w : LineAtWork). IsTaken c.args.control.now c.args.line.now setting (Core (Seen c.args.element.now)) w c.seen_at.result)
    (sym c.in-At.is) (c.seen_at.ensures.taken setting on)

pub returns-in-At-clause-known : goal.returns-in-At-clause-known
returns-in-At-clause-known c = λ met.
    c.seen_at.ensures.known
    (subst (λ (w : LineAtWork). IsMet c.args.control.now c.args.line.now w c.args.element.now c.args.desc.now) c.in-At.is met)
