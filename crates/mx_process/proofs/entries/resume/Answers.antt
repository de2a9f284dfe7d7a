use Rattle.std.proofs.Common.{◌≡◌, Ok, Some, inr, refl, subst, sym, rules}
use Rattle.mx_request.specs.declared.requests.Request.TheVariants.{Resume}
use Rattle.mx_process.proofs.EntryLaws.{called_so, full_so, grown_none, last_reply}
use Rattle.mx_process.specs.Entries.{IsAtCall}
use Rattle.mx_process.specs.Processes.{known_of}
use Rattle.mx_process.specs.declared.entries.Answered.TheVariants.{Done}
use Rattle.mx_process.proofs.entries.resume.Goals as goal

pub take_message-requires-clause-replied : goal.take_message-requires-clause-replied
take_message-requires-clause-replied g c =
    let is : c.try_resume.result ≡ Ok (Some c.in-Ok-Some.served) = search rules in
    let a : IsAtCall g.B.Sitting.session g.B.Sitting.setup c.args.state.now c.args.line.now c.current_ring-ring.result Resume (known_of c.args.pass.now)
    = subst (λ n. IsAtCall g.B.Sitting.session g.B.Sitting.setup c.args.state.now c.args.line.now n Resume (known_of c.args.pass.now))
    (sym c.current_ring-ring.ensures) c.requires.calls in
    last_reply g.B.Sitting.session g.B.Sitting.setup c.args.line.now c.args.state.now c.args.pass.now c.try_resume.new.pass
    c.current_ring-ring.result Resume c.in-Ok-Some.served a
    (c.try_resume.ensures.entered c.in-Ok-Some.served is) (inr refl) (c.try_resume.ensures.given c.in-Ok-Some.served is)

pub returns-in-Ok-Some-clause-ended : goal.returns-in-Ok-Some-clause-ended
returns-in-Ok-Some-clause-ended g c done =
    let is : c.try_resume.result ≡ Ok (Some c.in-Ok-Some.served) = search rules in
    let a : IsAtCall g.B.Sitting.session g.B.Sitting.setup c.args.state.now c.args.line.now c.current_ring-ring.result Resume (known_of c.args.pass.now)
    = subst (λ n. IsAtCall g.B.Sitting.session g.B.Sitting.setup c.args.state.now c.args.line.now n Resume (known_of c.args.pass.now))
    (sym c.current_ring-ring.ensures) c.requires.calls in
    called_so g.B.Sitting.session g.B.Sitting.setup c.args.line.now c.args.state.now c.args.pass.now c.try_resume.new.pass
    c.current_ring-ring.result Resume c.in-Ok-Some.served (c.try_resume.ensures.entered c.in-Ok-Some.served is)
    c.take_message.new.state Done a c.take_message.ensures.answered c.take_message.ensures.good
    c.take_message.ensures.packable

pub returns-in-Err-HistoryFull-clause-ended : goal.returns-in-Err-HistoryFull-clause-ended
returns-in-Err-HistoryFull-clause-ended g c done =
    let a : IsAtCall g.B.Sitting.session g.B.Sitting.setup c.args.state.now c.args.line.now c.current_ring-ring.result Resume (known_of c.args.pass.now)
    = subst (λ n. IsAtCall g.B.Sitting.session g.B.Sitting.setup c.args.state.now c.args.line.now n Resume (known_of c.args.pass.now))
    (sym c.current_ring-ring.ensures) c.requires.calls in
    full_so g.B.Sitting.session g.B.Sitting.setup c.args.line.now c.args.state.now c.end_full.new.state c.args.pass.now
    c.try_resume.new.pass c.current_ring-ring.result c.in-Err-HistoryFull.field-0-0 Resume
    (c.try_resume.ensures.full c.in-Err-HistoryFull.field-0-0 (search rules))
    a c.end_full.ensures.packable c.end_full.ensures.filled

pub returns-in-Ok-Some-clause-grown : goal.returns-in-Ok-Some-clause-grown
returns-in-Ok-Some-clause-grown g c =
    let is : c.try_resume.result ≡ Ok (Some c.in-Ok-Some.served) = search rules in
    (c.try_resume.ensures.entered c.in-Ok-Some.served is).grown

pub returns-in-Ok-None-clause-grown : goal.returns-in-Ok-None-clause-grown
returns-in-Ok-None-clause-grown g c = grown_none c.args.pass.now c.try_resume.new.pass (c.try_resume.ensures.none (search rules))

pub returns-in-Err-Memory-clause-grown : goal.returns-in-Err-Memory-clause-grown
returns-in-Err-Memory-clause-grown g c =
    grown_none c.args.pass.now c.try_resume.new.pass (c.try_resume.ensures.memory (search rules))
