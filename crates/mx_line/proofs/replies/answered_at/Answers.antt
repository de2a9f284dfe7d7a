use Rattle.std.proofs.Common.{sym, subst}
use Rattle.mx_transcript.specs.declared.transcripts.Event2.TheVariants.{Entry}
use Rattle.mx_line.proofs.TakenLaws.{asked_taken, linked_taken, resumed_taken, walking_entered, filling_entered}
use Rattle.mx_line.specs.AtWork.{IsTaken}
use Rattle.mx_line.specs.declared.at_work.LineAtWork.TheVariants.{At, Nowhere}
use Rattle.mx_line.specs.declared.operands.Progress.{Progress}
use Rattle.mx_line.proofs.replies.answered_at.Goals as goal

pub returns-in-Before-clause-taken : goal.returns-in-Before-clause-taken
returns-in-Before-clause-taken c = λ setting number entry there said.
    subst (λ (r : Progress). IsTaken c.args.control.now c.args.line.now setting (Entry number) (At r) c.asked.result) (sym c.in-Before.is)
    (asked_taken c.args.control.now c.args.line.now c.args.reply.now c.asked.result c.asked.ensures.stands setting number entry there said)

pub returns-in-AtLink-clause-taken : goal.returns-in-AtLink-clause-taken
returns-in-AtLink-clause-taken c = λ setting number entry there said.
    subst (λ (r : Progress). IsTaken c.args.control.now c.args.line.now setting (Entry number) (At r) c.linked.result) (sym c.in-AtLink.is)
    (linked_taken c.args.control.now c.args.line.now c.in-AtLink.place c.args.reply.now c.linked.result c.linked.ensures.stands setting
    number entry there said)

pub returns-in-Waiting-clause-taken : goal.returns-in-Waiting-clause-taken
returns-in-Waiting-clause-taken c = λ setting number entry there said.
    subst (λ (r : Progress). IsTaken c.args.control.now c.args.line.now setting (Entry number) (At r) c.replied.result) (sym c.in-Waiting.is)
    (resumed_taken c.args.control.now c.args.line.now c.args.reply.now c.replied.result c.replied.ensures.stands setting number entry
    there said)

pub returns-in-Walking-clause-taken : goal.returns-in-Walking-clause-taken
returns-in-Walking-clause-taken c = λ setting number entry there said.
    subst (λ (r : Progress). IsTaken c.args.control.now c.args.line.now setting (Entry number) (At r) Nowhere) (sym c.in-Walking.is)
    (walking_entered c.args.control.now c.args.line.now c.in-Walking.field-0 Nowhere setting number)

pub returns-in-Filling-clause-taken : goal.returns-in-Filling-clause-taken
returns-in-Filling-clause-taken c = λ setting number entry there said.
    subst (λ (r : Progress). IsTaken c.args.control.now c.args.line.now setting (Entry number) (At r) Nowhere) (sym c.in-Filling.is)
    (filling_entered c.args.control.now c.args.line.now c.in-Filling.field-0 Nowhere setting number)
