use Rattle.std.proofs.Common.{arith}
use Rattle.mx_mail.proofs.TakingLaws.{taken_is_sound, taken_is}
use Rattle.mx_mail.proofs.mail.Mail.take.Goals as goal

pub invariant_of-self : goal.invariant_of-self
invariant_of-self c =
    let in_range = rw (← c.self.view_is) at c.requires.process in
    rw c.take.ensures.after (taken_is_sound c.self.inside.processes.items _ c.index_mut.result.now c.nobody_else-nobody_else.result
    c.self.invariant (omega (arith, in_range, c.from.ensures)) c.index_mut.ensures.value)

pub returns-clause-answer : goal.returns-clause-answer
returns-clause-answer c =
    let in_range = rw (← c.self.view_is) at c.requires.process in
    let is = rw c.from.ensures at c.index_mut.ensures.value in
    rw (c.take.ensures.taken, c.take.ensures.after, c.nobody_else-nobody_else.ensures, c.as_slice.ensures.value, c.from.ensures, ← c.self.view_is)
    (taken_is c.self.inside.processes.items c.args.p c.index_mut.result.now c.requires.some in_range is)
