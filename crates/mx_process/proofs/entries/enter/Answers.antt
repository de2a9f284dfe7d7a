use Rattle.std.proofs.Common.{rules}
use Rattle.mx_office.proofs.Blocks.{err_as}
use Rattle.mx_office.specs.declared.answers.EnterError.TheVariants.{HistoryFull}
use Rattle.mx_process.proofs.EntryLaws.{called_so, full_so, grown_none, has_reply}
use Rattle.mx_process.proofs.entries.enter.Goals as goal

pub take_answer-requires-clause-replied : goal.take_answer-requires-clause-replied
take_answer-requires-clause-replied g c =
    has_reply g.B.Sitting.session g.B.Sitting.setup c.args.line.now c.args.state.now c.args.pass.now c.enter.new.pass c.args.ring
    c.args.request.now c.in-Ok.served (c.enter.ensures.entered c.in-Ok.served c.in-Ok.is) c.requires.calls
    (λ resume waiting. c.requires.other resume)

pub returns-in-Ok-clause-came : goal.returns-in-Ok-clause-came
returns-in-Ok-clause-came g c =
    called_so g.B.Sitting.session g.B.Sitting.setup c.args.line.now c.args.state.now c.args.pass.now c.enter.new.pass c.args.ring
    c.args.request.now c.in-Ok.served (c.enter.ensures.entered c.in-Ok.served c.in-Ok.is) c.take_answer.new.state c.take_answer.result
    c.requires.calls c.take_answer.ensures.answered c.take_answer.ensures.good c.take_answer.ensures.packable

pub returns-in-Err-HistoryFull-clause-came : goal.returns-in-Err-HistoryFull-clause-came
returns-in-Err-HistoryFull-clause-came g c =
    full_so g.B.Sitting.session g.B.Sitting.setup c.args.line.now c.args.state.now c.end_full.new.state c.args.pass.now
    c.enter.new.pass c.args.ring c.in-Err-HistoryFull.field-0-0 c.args.request.now
    (c.enter.ensures.full c.in-Err-HistoryFull.field-0-0
    (err_as c.enter.result c.in-Err-HistoryFull.field-0 (HistoryFull c.in-Err-HistoryFull.field-0-0) c.in-Err-HistoryFull.is
    c.in-Err-HistoryFull.field-0-is))
    c.requires.calls c.end_full.ensures.packable c.end_full.ensures.filled

pub returns-in-Ok-clause-grown : goal.returns-in-Ok-clause-grown
returns-in-Ok-clause-grown g c = (c.enter.ensures.entered c.in-Ok.served c.in-Ok.is).grown

pub returns-in-Err-Memory-clause-grown : goal.returns-in-Err-Memory-clause-grown
returns-in-Err-Memory-clause-grown g c = grown_none c.args.pass.now c.enter.new.pass (c.enter.ensures.memory (search rules))
