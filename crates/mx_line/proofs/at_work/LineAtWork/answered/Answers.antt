use Rattle.std.proofs.Common.{sym, subst}
use Rattle.mx_transcript.specs.declared.transcripts.Event2.TheVariants.{Entry}
use Rattle.mx_line.specs.AtWork.{IsTaken}
use Rattle.mx_line.specs.declared.at_work.LineAtWork.{LineAtWork}
use Rattle.mx_line.proofs.at_work.LineAtWork.answered.Goals as goal

pub returns-in-At-clause-taken : goal.returns-in-At-clause-taken
returns-in-At-clause-taken c = λ setting number entry there said.
    subst (λ (w : LineAtWork). IsTaken c.args.control.now c.args.line.now setting (Entry number) w c.answered_at.result)
    (sym c.in-At.is) (c.answered_at.ensures.taken setting number entry there said)
