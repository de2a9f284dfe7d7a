use Rattle.mx_process.proofs.CallLaws.{calls_link}
use Rattle.mx_process.proofs.LegLaws.{at_line_on, attempt_linked, attempt_missed, errs_on, gone_still, legs_on, line_on}
use Rattle.mx_process.proofs.processes.Process.make_references.Goals as goal

pub line_fast-requires-clause-left : goal.line_fast-requires-clause-left
line_fast-requires-clause-left g c =
    line_on g.B.Sitting.session c.args.self.now c.reserve.new.self (gone_still c.args.self.now c.reserve.new.self c.reserve.ensures.still)
    (record { number = c.requires.at.0; line = c.args.line.now; at = c.requires.at.1 })

pub never_waits-requires-clause-at : goal.never_waits-requires-clause-at
never_waits-requires-clause-at g c = (
  c.requires.at.0,
  at_line_on g.B.Sitting.session c.args.self.now c.line_fast.new.self c.requires.at.0 c.args.line.now
      (attempt_missed c.in-Missing.segno c.in-Missing.by c.args.self.now c.reserve.new.self c.line_fast.new.self
      c.reserve.ensures.still (c.line_fast.ensures.missing c.in-Missing.segno c.in-Missing.by c.in-Missing.is)) c.requires.at.1,
)

pub make_snap-requires-clause-at : goal.make_snap-requires-clause-at
make_snap-requires-clause-at g c = (
  c.requires.at.0,
  at_line_on g.B.Sitting.session c.args.self.now c.line_fast.new.self c.requires.at.0 c.args.line.now
      (attempt_linked g.B.Sitting.session c.in-Link.segno c.in-Link.word c.in-Link.ring c.args.self.now c.reserve.new.self
      c.line_fast.new.self c.reserve.ensures.still
      (c.line_fast.ensures.link c.in-Link.segno c.in-Link.word c.in-Link.ring c.in-Link.is)) c.requires.at.1,
)

pub make_snap-requires-clause-calls : goal.make_snap-requires-clause-calls
make_snap-requires-clause-calls g c =
    calls_link g.B.Sitting.session c.in-Link.segno c.in-Link.word c.in-Link.ring c.reserve.new.self c.line_fast.new.self
    (c.line_fast.ensures.link c.in-Link.segno c.in-Link.word c.in-Link.ring c.in-Link.is)

pub make_snap-requires-clause-settled : goal.make_snap-requires-clause-settled
make_snap-requires-clause-settled g c =
    let link = c.line_fast.ensures.link c.in-Link.segno c.in-Link.word c.in-Link.ring c.in-Link.is in link.settled

pub returns-in-Missing-clause-came : goal.returns-in-Missing-clause-came
returns-in-Missing-clause-came g c = (
  attempt_missed c.in-Missing.segno c.in-Missing.by c.args.self.now c.reserve.new.self c.line_fast.new.self
      c.reserve.ensures.still (c.line_fast.ensures.missing c.in-Missing.segno c.in-Missing.by c.in-Missing.is),
  c.never_waits.ensures,
)

pub returns-in-Link-clause-came : goal.returns-in-Link-clause-came
returns-in-Link-clause-came g c =
    legs_on g.B.Sitting.session c.args.self.now c.line_fast.new.self c.make_snap.new.self c.make_snap.result
    (attempt_linked g.B.Sitting.session c.in-Link.segno c.in-Link.word c.in-Link.ring c.args.self.now c.reserve.new.self
    c.line_fast.new.self c.reserve.ensures.still
    (c.line_fast.ensures.link c.in-Link.segno c.in-Link.word c.in-Link.ring c.in-Link.is)) c.make_snap.ensures.came

pub returns-in-Link-clause-err : goal.returns-in-Link-clause-err
returns-in-Link-clause-err g c =
    errs_on c.args.self.now c.line_fast.new.self c.make_snap.new.self c.make_snap.result
    (attempt_linked g.B.Sitting.session c.in-Link.segno c.in-Link.word c.in-Link.ring c.args.self.now c.reserve.new.self
    c.line_fast.new.self c.reserve.ensures.still
    (c.line_fast.ensures.link c.in-Link.segno c.in-Link.word c.in-Link.ring c.in-Link.is)) c.make_snap.ensures.err
