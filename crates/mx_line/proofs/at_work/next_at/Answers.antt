use Rattle.std.proofs.Common.{sym, ◌∙◌, ap, subst}
use Rattle.mx_transcript.specs.Next.{Fills}
use Rattle.mx_line.proofs.StandingLaws.{walking_asks, filling_asks}
use Rattle.mx_line.specs.AtWork.{IsCome}
use Rattle.mx_line.proofs.StandingLaws.{walking_refers, link_refers, waiting_blocks}
use Rattle.mx_request.specs.declared.requests.Request.TheVariants.{Block}
use Rattle.mx_line.proofs.at_work.next_at.Goals as goal

pub returns-in-Walking-clause-is : goal.returns-in-Walking-clause-is
returns-in-Walking-clause-is c = λ course come.
    walking_asks c.args.control.now c.args.line.now course c.in-Walking.walk
    (subst (IsCome c.args.control.now c.args.line.now course) c.in-Walking.is come) ∙ c.wants.ensures.is

pub returns-in-Filling-clause-is : goal.returns-in-Filling-clause-is
returns-in-Filling-clause-is c = λ course come.
    filling_asks c.args.control.now c.args.line.now course c.in-Filling.fill
    (subst (IsCome c.args.control.now c.args.line.now course) c.in-Filling.is come)
    ∙ ap Fills (sym c.asked.ensures.is)

pub returns-in-Walking-clause-plain : goal.returns-in-Walking-clause-plain
returns-in-Walking-clause-plain c = λ course come other free.
    c.wants.ensures.plain (walking_refers c.args.control.now c.args.line.now course c.in-Walking.walk
    (subst (IsCome c.args.control.now c.args.line.now course) c.in-Walking.is come))

pub returns-in-AtLink-clause-plain : goal.returns-in-AtLink-clause-plain
returns-in-AtLink-clause-plain c = λ course come other free.
    link_refers c.args.control.now c.args.line.now course c.in-AtLink.place
    (subst (IsCome c.args.control.now c.args.line.now course) c.in-AtLink.is come)

pub returns-in-Waiting-clause-plain : goal.returns-in-Waiting-clause-plain
returns-in-Waiting-clause-plain c = λ course come other free.
    absurd (other Block (waiting_blocks c.args.control.now c.args.line.now course
    (subst (IsCome c.args.control.now c.args.line.now course) c.in-Waiting.is come)))

pub returns-in-Filling-clause-plain : goal.returns-in-Filling-clause-plain
returns-in-Filling-clause-plain c = λ course come other free. absurd (free c.in-Filling.fill c.in-Filling.is)
