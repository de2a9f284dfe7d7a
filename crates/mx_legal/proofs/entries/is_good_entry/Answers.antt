use Rattle.std.proofs.Common.{rules}
use Rattle.mx_legal.specs.Entries.{IsInPlace}
use Rattle.mx_state.specs.History.{MayAsk}
use Rattle.mx_legal.proofs.EntryLaws.{has_answered, judged, told_fits}
use Rattle.mx_legal.proofs.entries.is_good_entry.Goals as goal

pub returns-clause-good : goal.returns-clause-good
returns-clause-good g c =
    let placed : IsInPlace c.args.session.now c.args.place c.args.entry.now = search rules in
    let may : MayAsk (g.S.PlainSupervisor.state c.args.supervisor.now) c.args.entry.now.process c.args.entry.now.request = search rules in
    judged c.args.session.now (g.S.PlainSupervisor.state c.args.supervisor.now) c.args.place c.args.entry.now
    c.in_ok-answered.answered.reply (g.S.PlainSupervisor.state c.apply.new.self) c.is_same_reply.result placed may
    (rw c.request.ensures at c.in_ok-answered.ensures.answer) c.is_same_reply.ensures

pub is_same_reply-requires-clause-one : goal.is_same_reply-requires-clause-one
is_same_reply-requires-clause-one g c =
    told_fits (g.S.PlainSupervisor.state c.args.supervisor.now) c.args.entry.now c.in_ok-answered.answered.reply
    (g.S.PlainSupervisor.state c.apply.new.self) c.requires.answer (rw c.request.ensures at c.in_ok-answered.ensures.answer)

pub returns-clause-answered : goal.returns-clause-answered
returns-clause-answered g c = λ done.
    has_answered (g.S.PlainSupervisor.state c.args.supervisor.now) c.args.entry.now c.in_ok-answered.answered.reply
    (g.S.PlainSupervisor.state c.apply.new.self) (rw c.request.ensures at c.in_ok-answered.ensures.answer)
