use Rattle.mx_process.proofs.EntryLaws.{never_more}
use Rattle.mx_process.proofs.entries.take_message.Goals as goal

pub take_answer-requires-clause-replied : goal.take_answer-requires-clause-replied
take_answer-requires-clause-replied c = c.requires.replied.has

pub unreachable-requires : goal.unreachable-requires
unreachable-requires c =
    never_more c.args.state.now c.take_answer.new.state c.args.line.now c.args.answer.now c.args.number c.requires.replied
    c.in-More.ensures.answered
