use Rattle.std.proofs.Common.{length, refl}
use Rattle.std.proofs.lemmas.Option.{slice_get_read}
use Rattle.mx_access.proofs.PassLaws.{may_ask, next_entry}
use Rattle.mx_access.proofs.passing.step.Goals as goal

pub apply-requires : goal.apply-requires
apply-requires g c =
    let entry = c.index-entries-at.result in
    rw c.request.ensures
    (may_ask c.args.session.now c.args.entries.now c.args.at (g.S.PlainSupervisor.state c.args.supervisor.now) c.args.uses.now entry
    c.requires.right c.requires.is_at
    (slice_get_read c.args.entries.now (length c.args.entries.now) c.args.at entry refl c.requires.place c.index-entries-at.is))

pub returns : goal.returns
returns g c =
    let entry = c.index-entries-at.result in
    next_entry c.args.session.now c.args.entries.now c.args.at (g.S.PlainSupervisor.state c.args.supervisor.now)
    (g.S.PlainSupervisor.state c.apply.new.self) c.args.uses.now c.note.new.uses entry _ _ c.requires.is_at
    (slice_get_read c.args.entries.now (length c.args.entries.now) c.args.at entry refl c.requires.place c.index-entries-at.is)
    (rw c.request.ensures at c.in_ok-answered.ensures.answer) c.in_ok-answered.ensures.processes c.in_ok-answered.ensures.given c.note.ensures
