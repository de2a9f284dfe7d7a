use Rattle.std.proofs.Common.{inl, inr, refl, subst, sym, rules}
use Rattle.mx_office.specs.declared.answers.Blocked.TheVariants as blocked
use Rattle.mx_request.specs.declared.requests.Request.TheVariants.{Block, Resume}
use Rattle.mx_script.specs.Sessions.{limit_of}
use Rattle.mx_process.proofs.EntryLaws.{blocked_as, called_so, ends_on, full_so, grown_none, grown_on, last_reply, resuming, stays_same, waiting_stays}
use Rattle.mx_process.specs.Entries.{IsAtCall}
use Rattle.mx_process.specs.Processes.{known_of}
use Rattle.mx_process.specs.declared.entries.Answered.TheVariants.{Done}
use Rattle.mx_process.proofs.entries.sleep.Goals as goal

pub returns-in-Ok-Shut-clause-ended : goal.returns-in-Ok-Shut-clause-ended
returns-in-Ok-Shut-clause-ended g c =
    let a : IsAtCall g.B.Sitting.session g.B.Sitting.setup c.args.state.now c.args.line.now c.current_ring-ring.result Block (known_of c.args.pass.now)
    = subst (λ n. IsAtCall g.B.Sitting.session g.B.Sitting.setup c.args.state.now c.args.line.now n Block (known_of c.args.pass.now))
    (sym c.current_ring-ring.ensures) c.requires.calls in
    let b = blocked_as g.B.Sitting.session g.B.Sitting.setup c.current_ring-ring.result c.args.pass.now c.block.new.pass c.block.result
    (blocked.Shut) (search rules) c.block.ensures.blocked in
    full_so g.B.Sitting.session g.B.Sitting.setup c.args.line.now c.args.state.now c.end_full.new.state c.args.pass.now
    c.block.new.pass c.current_ring-ring.result (limit_of g.B.Sitting.session) Block b a c.end_full.ensures.packable
    c.end_full.ensures.filled

pub returns-in-Ok-Shut-clause-grown : goal.returns-in-Ok-Shut-clause-grown
returns-in-Ok-Shut-clause-grown g c =
    let b = blocked_as g.B.Sitting.session g.B.Sitting.setup c.current_ring-ring.result c.args.pass.now c.block.new.pass c.block.result
    (blocked.Shut) (search rules) c.block.ensures.blocked in
    b.grown

pub take_message-requires-clause-replied : goal.take_message-requires-clause-replied
take_message-requires-clause-replied g c =
    let a : IsAtCall g.B.Sitting.session g.B.Sitting.setup c.args.state.now c.args.line.now c.current_ring-ring.result Block (known_of c.args.pass.now)
    = subst (λ n. IsAtCall g.B.Sitting.session g.B.Sitting.setup c.args.state.now c.args.line.now n Block (known_of c.args.pass.now))
    (sym c.current_ring-ring.ensures) c.requires.calls in
    let b = blocked_as g.B.Sitting.session g.B.Sitting.setup c.current_ring-ring.result c.args.pass.now c.block.new.pass c.block.result
    (blocked.Answered c.in-Ok-Answered.served) (search rules) c.block.ensures.blocked in
    last_reply g.B.Sitting.session g.B.Sitting.setup c.args.line.now c.args.state.now c.args.pass.now c.block.new.pass
    c.current_ring-ring.result Block c.in-Ok-Answered.served a b.entered (inl refl) b.given

pub returns-in-Ok-Answered-clause-ended : goal.returns-in-Ok-Answered-clause-ended
returns-in-Ok-Answered-clause-ended g c =
    let a : IsAtCall g.B.Sitting.session g.B.Sitting.setup c.args.state.now c.args.line.now c.current_ring-ring.result Block (known_of c.args.pass.now)
    = subst (λ n. IsAtCall g.B.Sitting.session g.B.Sitting.setup c.args.state.now c.args.line.now n Block (known_of c.args.pass.now))
    (sym c.current_ring-ring.ensures) c.requires.calls in
    let b = blocked_as g.B.Sitting.session g.B.Sitting.setup c.current_ring-ring.result c.args.pass.now c.block.new.pass c.block.result
    (blocked.Answered c.in-Ok-Answered.served) (search rules) c.block.ensures.blocked in
    called_so g.B.Sitting.session g.B.Sitting.setup c.args.line.now c.args.state.now c.args.pass.now c.block.new.pass
    c.current_ring-ring.result Block c.in-Ok-Answered.served b.entered c.take_message.new.state Done a
    c.take_message.ensures.answered c.take_message.ensures.good c.take_message.ensures.packable

pub returns-in-Ok-Answered-clause-grown : goal.returns-in-Ok-Answered-clause-grown
returns-in-Ok-Answered-clause-grown g c =
    let b = blocked_as g.B.Sitting.session g.B.Sitting.setup c.current_ring-ring.result c.args.pass.now c.block.new.pass c.block.result
    (blocked.Answered c.in-Ok-Answered.served) (search rules) c.block.ensures.blocked in
    b.entered.grown

pub take_message-requires-in-Ok-Resumed-clause-replied : goal.take_message-requires-in-Ok-Resumed-clause-replied
take_message-requires-in-Ok-Resumed-clause-replied g c =
    let a : IsAtCall g.B.Sitting.session g.B.Sitting.setup c.args.state.now c.args.line.now c.current_ring-ring.result Block (known_of c.args.pass.now)
    = subst (λ n. IsAtCall g.B.Sitting.session g.B.Sitting.setup c.args.state.now c.args.line.now n Block (known_of c.args.pass.now))
    (sym c.current_ring-ring.ensures) c.requires.calls in
    let b = blocked_as g.B.Sitting.session g.B.Sitting.setup c.current_ring-ring.result c.args.pass.now c.block.new.pass c.block.result
    (blocked.Resumed c.in-Ok-Resumed.entry c.in-Ok-Resumed.resume) (search rules) c.block.ensures.blocked in
    last_reply g.B.Sitting.session g.B.Sitting.setup c.args.line.now c.wait.new.state b.between c.block.new.pass
    c.current_ring-ring.result Resume c.in-Ok-Resumed.resume
    (resuming g.B.Sitting.session g.B.Sitting.setup c.args.line.now c.args.state.now c.wait.new.state c.args.pass.now b.between
    c.current_ring-ring.result c.in-Ok-Resumed.entry a b.waited c.wait.ensures.waits c.current_ring-ring.ensures)
    b.entered (inr refl) b.given

pub returns-in-Ok-Resumed-clause-ended : goal.returns-in-Ok-Resumed-clause-ended
returns-in-Ok-Resumed-clause-ended g c =
    let a : IsAtCall g.B.Sitting.session g.B.Sitting.setup c.args.state.now c.args.line.now c.current_ring-ring.result Block (known_of c.args.pass.now)
    = subst (λ n. IsAtCall g.B.Sitting.session g.B.Sitting.setup c.args.state.now c.args.line.now n Block (known_of c.args.pass.now))
    (sym c.current_ring-ring.ensures) c.requires.calls in
    let b = blocked_as g.B.Sitting.session g.B.Sitting.setup c.current_ring-ring.result c.args.pass.now c.block.new.pass c.block.result
    (blocked.Resumed c.in-Ok-Resumed.entry c.in-Ok-Resumed.resume) (search rules) c.block.ensures.blocked in
    ends_on g.B.Sitting.session g.B.Sitting.setup c.args.line.now c.args.state.now c.wait.new.state c.args.pass.now b.between
    c.current_ring-ring.result c.in-Ok-Resumed.entry a b.waited c.wait.ensures.waits c.take_message-in-Ok-Resumed.new.state
    c.block.new.pass
    (called_so g.B.Sitting.session g.B.Sitting.setup c.args.line.now c.wait.new.state b.between c.block.new.pass
    c.current_ring-ring.result Resume c.in-Ok-Resumed.resume b.entered c.take_message-in-Ok-Resumed.new.state Done
    (resuming g.B.Sitting.session g.B.Sitting.setup c.args.line.now c.args.state.now c.wait.new.state c.args.pass.now b.between
    c.current_ring-ring.result c.in-Ok-Resumed.entry a b.waited c.wait.ensures.waits c.current_ring-ring.ensures)
    c.take_message-in-Ok-Resumed.ensures.answered c.take_message-in-Ok-Resumed.ensures.good
    c.take_message-in-Ok-Resumed.ensures.packable)

pub returns-in-Ok-Resumed-clause-grown : goal.returns-in-Ok-Resumed-clause-grown
returns-in-Ok-Resumed-clause-grown g c =
    let b = blocked_as g.B.Sitting.session g.B.Sitting.setup c.current_ring-ring.result c.args.pass.now c.block.new.pass c.block.result
    (blocked.Resumed c.in-Ok-Resumed.entry c.in-Ok-Resumed.resume) (search rules) c.block.ensures.blocked in
    grown_on c.args.pass.now b.between c.block.new.pass b.waited.grown b.entered.grown

pub returns-in-Ok-CutShort-clause-ended : goal.returns-in-Ok-CutShort-clause-ended
returns-in-Ok-CutShort-clause-ended g c =
    let a : IsAtCall g.B.Sitting.session g.B.Sitting.setup c.args.state.now c.args.line.now c.current_ring-ring.result Block (known_of c.args.pass.now)
    = subst (λ n. IsAtCall g.B.Sitting.session g.B.Sitting.setup c.args.state.now c.args.line.now n Block (known_of c.args.pass.now))
    (sym c.current_ring-ring.ensures) c.requires.calls in
    let b = blocked_as g.B.Sitting.session g.B.Sitting.setup c.current_ring-ring.result c.args.pass.now c.block.new.pass c.block.result
    (blocked.CutShort c.in-Ok-CutShort.entry) (search rules) c.block.ensures.blocked in
    ends_on g.B.Sitting.session g.B.Sitting.setup c.args.line.now c.args.state.now c.wait-in-Ok-CutShort.new.state c.args.pass.now
    b.between c.current_ring-ring.result c.in-Ok-CutShort.entry a b.waited c.wait-in-Ok-CutShort.ensures.waits
    c.end_full-in-Ok-CutShort.new.state c.block.new.pass
    (full_so g.B.Sitting.session g.B.Sitting.setup c.args.line.now c.wait-in-Ok-CutShort.new.state c.end_full-in-Ok-CutShort.new.state
    b.between c.block.new.pass c.current_ring-ring.result (limit_of g.B.Sitting.session) Resume b.limit
    (resuming g.B.Sitting.session g.B.Sitting.setup c.args.line.now c.args.state.now c.wait-in-Ok-CutShort.new.state c.args.pass.now
    b.between c.current_ring-ring.result c.in-Ok-CutShort.entry a b.waited c.wait-in-Ok-CutShort.ensures.waits
    c.current_ring-ring.ensures)
    c.end_full-in-Ok-CutShort.ensures.packable c.end_full-in-Ok-CutShort.ensures.filled)

pub returns-in-Ok-CutShort-clause-grown : goal.returns-in-Ok-CutShort-clause-grown
returns-in-Ok-CutShort-clause-grown g c =
    let b = blocked_as g.B.Sitting.session g.B.Sitting.setup c.current_ring-ring.result c.args.pass.now c.block.new.pass c.block.result
    (blocked.CutShort c.in-Ok-CutShort.entry) (search rules) c.block.ensures.blocked in
    grown_on c.args.pass.now b.between c.block.new.pass b.waited.grown b.limit.grown

pub returns-in-Err-Memory-clause-err : goal.returns-in-Err-Memory-clause-err
returns-in-Err-Memory-clause-err g c =
    stays_same g.B.Sitting.session g.B.Sitting.setup c.args.line.now c.args.state.now c.args.state.now c.args.pass.now c.block.new.pass
    c.args.state.now.control.registers.ring Block c.requires.calls refl (c.block.ensures.memory (search rules))

pub returns-in-Err-Memory-clause-grown : goal.returns-in-Err-Memory-clause-grown
returns-in-Err-Memory-clause-grown g c = grown_none c.args.pass.now c.block.new.pass (c.block.ensures.memory (search rules))

pub returns-in-Err-Waiting-clause-err : goal.returns-in-Err-Waiting-clause-err
returns-in-Err-Waiting-clause-err g c =
    let a : IsAtCall g.B.Sitting.session g.B.Sitting.setup c.args.state.now c.args.line.now c.current_ring-ring.result Block (known_of c.args.pass.now)
    = subst (λ n. IsAtCall g.B.Sitting.session g.B.Sitting.setup c.args.state.now c.args.line.now n Block (known_of c.args.pass.now))
    (sym c.current_ring-ring.ensures) c.requires.calls in
    waiting_stays g.B.Sitting.session g.B.Sitting.setup c.args.line.now c.args.state.now c.wait-in-Err-Waiting.new.state
    c.args.pass.now c.block.new.pass c.current_ring-ring.result c.in-Err-Waiting.entry a
    (c.block.ensures.waiting c.in-Err-Waiting.entry (search rules)) c.wait-in-Err-Waiting.ensures.waits

pub returns-in-Err-Waiting-clause-grown : goal.returns-in-Err-Waiting-clause-grown
returns-in-Err-Waiting-clause-grown g c = (c.block.ensures.waiting c.in-Err-Waiting.entry (search rules)).grown
