use Rattle.std.proofs.Common.{ap, arith, refl}
use Rattle.mx_line.specs.declared.operands.Progress.TheVariants.{Walking}
use Rattle.mx_rule.specs.declared.views.PassView.{PassView}
use Rattle.mx_state.specs.declared.journal.Entry as journaled
use Rattle.mx_process.proofs.JudgedLaws.{asked_by, was_judged}
use Rattle.mx_process.proofs.KnownLaws.{untold_missed, untold_on, untold_seen}
use Rattle.mx_process.proofs.LookLaws.{read_admissible, read_goes, read_met, read_turned}
use Rattle.mx_process.proofs.TurnLaws.{looks_so, reading, turned_missing}
use Rattle.mx_process.specs.Processes.{known_of}
use Rattle.mx_process.proofs.looking.look.Goals as goal

pub desc-desc-requires : goal.desc-desc-requires
desc-desc-requires g c =
    let j = was_judged g.B.Naming.layout.numbers c.args.place.segno (asked_by (reading c.args.place)) c.zero.result
    c.args.pass.now.view c.refer.new.pass.view c.in-Seen.element (c.refer.ensures.seen c.in-Seen.element c.in-Seen.is) in
    record { on = j.on; is = ap (λ (v : PassView journaled.Entry). v.basis) j.after }

pub look_on-requires-clause-spare : goal.look_on-requires-clause-spare
look_on-requires-clause-spare g c =
    let nearer = (c.requires.looking.takes c.in-Seen.element c.desc-desc.result c.read_on.new.walk
    (c.read_on.ensures.yes c.if-read_on.true)).nearer in
    omega (arith, nearer, c.requires.spare, c.refer.ensures.spare)

pub look_on-requires-clause-room : goal.look_on-requires-clause-room
look_on-requires-clause-room g c =
    let nearer = (c.requires.looking.takes c.in-Seen.element c.desc-desc.result c.read_on.new.walk
    (c.read_on.ensures.yes c.if-read_on.true)).nearer in
    omega (arith, nearer, c.requires.room, c.keep.ensures.spare)

pub look_on-requires-clause-attempting : goal.look_on-requires-clause-attempting
look_on-requires-clause-attempting g c =
    let j = was_judged g.B.Naming.layout.numbers c.args.place.segno (asked_by (reading c.args.place)) c.zero.result
    c.args.pass.now.view c.refer.new.pass.view c.in-Seen.element (c.refer.ensures.seen c.in-Seen.element c.in-Seen.is) in
    (read_goes g.B.Sitting.session g.B.Sitting.setup c.args.line.now c.args.state.now c.args.pass.now c.refer.new.pass c.args.walk c.args.place c.zero.result
    c.in-Seen.element c.desc-desc.result c.requires.attempting c.requires.looking j (c.desc-desc.ensures j.on (ap (λ (v : PassView journaled.Entry). v.basis) j.after)) c.words_are_short.ensures
    (record c.args.state.now { recording = c.keep.new.self; progress = Walking c.read_on.new.walk }) c.read_on.new.walk
    c.refer.ensures.amount (c.read_on.ensures.yes c.if-read_on.true)
    (record {
      first = refl;
      control = refl;
      steps = c.keep.ensures.steps;
      events = c.keep.ensures.events;
      progress = refl;
      room = c.keep.ensures.room;
    })).attempting

pub desc-on-requires : goal.desc-on-requires
desc-on-requires g c =
    let j = was_judged g.B.Naming.layout.numbers c.args.place.segno (asked_by (reading c.args.place)) c.zero.result
    c.args.pass.now.view c.refer.new.pass.view c.in-Seen.element (c.refer.ensures.seen c.in-Seen.element c.in-Seen.is) in
    record { on = j.on; is = ap (λ (v : PassView journaled.Entry). v.basis) j.after }

pub take_by-requires-clause-desc : goal.take_by-requires-clause-desc
take_by-requires-clause-desc g c =
    let j = was_judged g.B.Naming.layout.numbers c.args.place.segno (asked_by (reading c.args.place)) c.zero.result
    c.args.pass.now.view c.refer.new.pass.view c.in-Seen.element (c.refer.ensures.seen c.in-Seen.element c.in-Seen.is) in
    read_admissible g.B.Sitting.session g.B.Sitting.setup c.args.line.now c.args.state.now c.args.pass.now c.refer.new.pass c.args.walk c.args.place c.zero.result
    c.in-Seen.element c.desc-on.result c.requires.attempting c.requires.looking j (c.desc-on.ensures j.on (ap (λ (v : PassView journaled.Entry). v.basis) j.after))

pub take_by-requires-clause-met : goal.take_by-requires-clause-met
take_by-requires-clause-met g c =
    let j = was_judged g.B.Naming.layout.numbers c.args.place.segno (asked_by (reading c.args.place)) c.zero.result
    c.args.pass.now.view c.refer.new.pass.view c.in-Seen.element (c.refer.ensures.seen c.in-Seen.element c.in-Seen.is) in
    read_met g.B.Sitting.session g.B.Sitting.setup c.args.line.now c.args.state.now c.args.pass.now c.refer.new.pass c.args.walk c.args.place c.zero.result
    c.in-Seen.element c.desc-on.result c.requires.attempting c.requires.looking j (c.desc-on.ensures j.on (ap (λ (v : PassView journaled.Entry). v.basis) j.after)) c.words_are_short.ensures

pub returns-then-read_on-clause-turned : goal.returns-then-read_on-clause-turned
returns-then-read_on-clause-turned g c =
    let j = was_judged g.B.Naming.layout.numbers c.args.place.segno (asked_by (reading c.args.place)) c.zero.result
    c.args.pass.now.view c.refer.new.pass.view c.in-Seen.element (c.refer.ensures.seen c.in-Seen.element c.in-Seen.is) in
    c.look_on.ensures.turned c.args.state.now (read_goes g.B.Sitting.session g.B.Sitting.setup c.args.line.now c.args.state.now c.args.pass.now c.refer.new.pass c.args.walk c.args.place c.zero.result
    c.in-Seen.element c.desc-desc.result c.requires.attempting c.requires.looking j (c.desc-desc.ensures j.on (ap (λ (v : PassView journaled.Entry). v.basis) j.after)) c.words_are_short.ensures
    (record c.args.state.now { recording = c.keep.new.self; progress = Walking c.read_on.new.walk }) c.read_on.new.walk
    c.refer.ensures.amount (c.read_on.ensures.yes c.if-read_on.true)
    (record {
      first = refl;
      control = refl;
      steps = c.keep.ensures.steps;
      events = c.keep.ensures.events;
      progress = refl;
      room = c.keep.ensures.room;
    }))

pub returns-then-read_on-clause-untold : goal.returns-then-read_on-clause-untold
returns-then-read_on-clause-untold g c =
    let j = was_judged g.B.Naming.layout.numbers c.args.place.segno (asked_by (reading c.args.place)) c.zero.result
    c.args.pass.now.view c.refer.new.pass.view c.in-Seen.element (c.refer.ensures.seen c.in-Seen.element c.in-Seen.is) in
    untold_on c.args.pass.now c.refer.new.pass c.look_on.new.pass
    (untold_seen c.args.place.segno (asked_by (reading c.args.place)) c.zero.result c.args.pass.now c.refer.new.pass c.in-Seen.element j
    c.refer.ensures.amount) c.look_on.ensures.untold

pub returns-else-read_on-clause-turned : goal.returns-else-read_on-clause-turned
returns-else-read_on-clause-turned g c =
    let j = was_judged g.B.Naming.layout.numbers c.args.place.segno (asked_by (reading c.args.place)) c.zero.result
    c.args.pass.now.view c.refer.new.pass.view c.in-Seen.element (c.refer.ensures.seen c.in-Seen.element c.in-Seen.is) in
    read_turned g.B.Sitting.session g.B.Sitting.setup c.args.line.now c.args.state.now c.args.pass.now c.refer.new.pass c.args.walk c.args.place c.zero.result
    c.in-Seen.element c.desc-on.result c.requires.attempting c.requires.looking j (c.desc-on.ensures j.on (ap (λ (v : PassView journaled.Entry). v.basis) j.after)) c.words_are_short.ensures c.take_by.new.state c.take_by.result c.refer.ensures.amount
    c.take_by.ensures.taken

pub returns-else-read_on-clause-untold : goal.returns-else-read_on-clause-untold
returns-else-read_on-clause-untold g c =
    let j = was_judged g.B.Naming.layout.numbers c.args.place.segno (asked_by (reading c.args.place)) c.zero.result
    c.args.pass.now.view c.refer.new.pass.view c.in-Seen.element (c.refer.ensures.seen c.in-Seen.element c.in-Seen.is) in
    untold_seen c.args.place.segno (asked_by (reading c.args.place)) c.zero.result c.args.pass.now c.refer.new.pass c.in-Seen.element j
    c.refer.ensures.amount

pub returns-in-Missing-clause-turned : goal.returns-in-Missing-clause-turned
returns-in-Missing-clause-turned g c =
    turned_missing g.B.Sitting.session g.B.Sitting.setup c.args.line.now c.args.state.now c.args.pass.now c.refer.new.pass (reading c.args.place) c.in-Missing.by
    c.requires.attempting
    (looks_so g.B.Sitting.session g.B.Sitting.setup c.args.state.now c.args.line.now (known_of c.args.pass.now) c.args.walk c.args.place
    c.requires.attempting c.requires.looking) (c.refer.ensures.missing c.in-Missing.by c.in-Missing.is)
    (c.refer.ensures.none c.in-Missing.by c.in-Missing.is) c.refer.ensures.amount

pub returns-in-Missing-clause-untold : goal.returns-in-Missing-clause-untold
returns-in-Missing-clause-untold g c =
    untold_missed c.args.place.segno c.in-Missing.by c.args.pass.now c.refer.new.pass
    (c.refer.ensures.missing c.in-Missing.by c.in-Missing.is) c.refer.ensures.amount
