use Rattle.std.proofs.Common.{None, arith, sym, ◌∙◌}
use Rattle.mx_process.proofs.StayLaws.{line_begins, line_denied, line_done, line_linked, line_missed}
use Rattle.mx_process.proofs.TurnLaws.{few_steps}
use Rattle.mx_process.specs.Processes.{known_of}
use Rattle.mx_process.proofs.stays.do_line.Goals as goal

pub turns-requires-clause-attempting : goal.turns-requires-clause-attempting
turns-requires-clause-attempting g c =
    line_begins g.B.Sitting.session g.B.Sitting.setup g.B.Attending.accounts c.args.script.now c.args.line.now c.args.state.now c.args.state.now
    c.args.pass.now c.args.pass.now c.requires.whole c.requires.at c.requires.other c.requires.before

pub turns-requires-clause-spare : goal.turns-requires-clause-spare
turns-requires-clause-spare g c =
    let few = few_steps g.B.Sitting.session g.B.Sitting.setup c.args.state.now c.args.line.now (known_of c.args.pass.now)
    (line_begins g.B.Sitting.session g.B.Sitting.setup g.B.Attending.accounts c.args.script.now c.args.line.now c.args.state.now c.args.state.now
    c.args.pass.now c.args.pass.now c.requires.whole c.requires.at c.requires.other c.requires.before) in
    omega (arith, few, c.requires.spare)

pub turns-requires-clause-room : goal.turns-requires-clause-room
turns-requires-clause-room g c =
    let few = few_steps g.B.Sitting.session g.B.Sitting.setup c.args.state.now c.args.line.now (known_of c.args.pass.now)
    (line_begins g.B.Sitting.session g.B.Sitting.setup g.B.Attending.accounts c.args.script.now c.args.line.now c.args.state.now c.args.state.now
    c.args.pass.now c.args.pass.now c.requires.whole c.requires.at c.requires.other c.requires.before) in
    omega (arith, few, c.requires.room)

pub returns-in-Some-clause-came : goal.returns-in-Some-clause-came
returns-in-Some-clause-came g c =
    line_denied g.B.Sitting.session g.B.Sitting.setup g.B.Attending.accounts c.args.script.now c.args.line.now c.args.state.now c.turns.new.state
    c.args.pass.now c.turns.new.pass c.requires.whole c.requires.at c.requires.other c.in-Some.field-0
    (sym c.last_denial.ensures ∙ c.in-Some.is) c.turns.ensures.untold c.in-Done.ensures.came

pub returns-in-None-clause-came : goal.returns-in-None-clause-came
returns-in-None-clause-came g c =
    let ended = c.in-Done.ensures.came in (
      line_done g.B.Sitting.session g.B.Sitting.setup g.B.Attending.accounts c.args.script.now c.args.line.now c.args.state.now c.turns.new.state
          c.args.pass.now c.turns.new.pass c.requires.whole c.requires.at c.requires.other None
          (sym c.last_denial.ensures ∙ c.in-None.is) c.turns.ensures.untold ended,
      ended.fresh,
    )

pub returns-in-Missing-clause-came : goal.returns-in-Missing-clause-came
returns-in-Missing-clause-came g c =
    line_missed g.B.Sitting.session g.B.Sitting.setup g.B.Attending.accounts c.args.script.now c.args.line.now c.args.state.now c.turns.new.state
    c.args.pass.now c.turns.new.pass c.requires.whole c.requires.at c.requires.other c.in-Missing.segno c.in-Missing.by
    c.turns.ensures.untold c.in-Missing.ensures.came

pub returns-in-Link-clause-came : goal.returns-in-Link-clause-came
returns-in-Link-clause-came g c =
    line_linked g.B.Sitting.session g.B.Sitting.setup g.B.Attending.accounts c.args.script.now c.args.line.now c.args.state.now c.turns.new.state
    c.args.pass.now c.turns.new.pass c.requires.whole c.requires.at c.requires.other c.in-Link.segno c.in-Link.word c.in-Link.ring
    c.turns.ensures.untold c.in-Link.ensures.came
