use Rattle.std.proofs.Common.{◌∙◌, ap, arith, refl, subst, sym, IsTrue}
use Rattle.mx_rule.specs.declared.views.PassView.{PassView}
use Rattle.mx_state.specs.declared.journal.Entry as journaled
use Rattle.mx_process.proofs.JudgedLaws.{asked_by, was_judged}
use Rattle.mx_process.proofs.KnownLaws.{untold_missed, untold_on, untold_seen}
use Rattle.mx_process.proofs.LookLaws.{read_admissible, read_goes, read_met, read_turned, still_met, still_taken}
use Rattle.mx_process.proofs.TurnLaws.{goes_turned, looks_so, reading, turned_missing}
use Rattle.mx_process.specs.Turns.{inside, walking}
use Rattle.mx_line.specs.declared.operands.Progress.TheVariants.{Walking}
use Rattle.mx_process.specs.Processes.{known_of}
use Rattle.mx_process.specs.declared.turns.Turn.TheVariants as turn
use Rattle.mx_process.proofs.looking.look_on.Goals as goal

pub desc-desc-requires : goal.desc-desc-requires
desc-desc-requires g c =
    let j = was_judged g.B.Naming.layout.numbers c.in-Some.place.segno (asked_by (reading c.in-Some.place)) c.zero.result
    c.loop-place.pass.view c.refer.new.pass.view c.in-Seen.element (c.refer.ensures.seen c.in-Seen.element c.in-Seen.is) in
    record { on = j.on; is = ap (λ (v : PassView journaled.Entry). v.basis) j.after }

pub loop-place-preserved : goal.loop-place-preserved
loop-place-preserved g c =
    let j = was_judged g.B.Naming.layout.numbers c.in-Some.place.segno (asked_by (reading c.in-Some.place)) c.zero.result
    c.loop-place.pass.view c.refer.new.pass.view c.in-Seen.element (c.refer.ensures.seen c.in-Seen.element c.in-Seen.is) in
    let step = read_goes g.B.Sitting.session g.B.Sitting.setup c.args.line.now (walking c.loop-place.state c.loop-place.at) c.loop-place.pass c.refer.new.pass c.loop-place.at c.in-Some.place c.zero.result
    c.in-Seen.element c.desc-desc.result c.loop-place.invariant.attempting c.in-Some.ensures j (c.desc-desc.ensures j.on (ap (λ (v : PassView journaled.Entry). v.basis) j.after)) c.words_are_short.ensures
    (record c.loop-place.state { recording = c.keep.new.self; progress = Walking c.read_on.new.walk }) c.read_on.new.walk
    c.refer.ensures.amount (c.read_on.ensures.yes c.if-read_on.true)
    (record {
      first = refl;
      control = refl;
      steps = c.keep.ensures.steps;
      events = c.keep.ensures.events;
      progress = refl;
      room = c.keep.ensures.room;
    }) in
    let nearer = step.nearer in
    record {
      same = c.refer.ensures.same;
      ready = c.refer.ensures.stage ∙ c.loop-place.invariant.ready;
      spare = omega (arith, nearer, c.loop-place.invariant.spare, c.refer.ensures.spare);
      room = omega (arith, nearer, c.loop-place.invariant.room, c.keep.ensures.spare);
      end = subst IsTrue (sym c.keep.ensures.room) c.loop-place.invariant.end;
      attempting = step.attempting;
      goes = λ before goes.
          goes_turned g.B.Sitting.session g.B.Sitting.setup c.args.line.now before
          (inside (walking c.loop-place.state c.loop-place.at) c.loop-place.pass)
          (inside (record c.loop-place.state { recording = c.keep.new.self; progress = Walking c.read_on.new.walk }) c.refer.new.pass)
          turn.More (c.loop-place.invariant.goes before goes) step;
      untold = untold_on c.args.pass.now c.loop-place.pass c.refer.new.pass c.loop-place.invariant.untold
          (untold_seen c.in-Some.place.segno (asked_by (reading c.in-Some.place)) c.zero.result c.loop-place.pass c.refer.new.pass
          c.in-Seen.element j c.refer.ensures.amount);
    }

pub desc-on-requires : goal.desc-on-requires
desc-on-requires g c =
    let j = was_judged g.B.Naming.layout.numbers c.in-Some.place.segno (asked_by (reading c.in-Some.place)) c.zero.result
    c.loop-place.pass.view c.refer.new.pass.view c.in-Seen.element (c.refer.ensures.seen c.in-Seen.element c.in-Seen.is) in
    record { on = j.on; is = ap (λ (v : PassView journaled.Entry). v.basis) j.after }

pub take_by-requires-clause-desc : goal.take_by-requires-clause-desc
take_by-requires-clause-desc g c =
    let j = was_judged g.B.Naming.layout.numbers c.in-Some.place.segno (asked_by (reading c.in-Some.place)) c.zero.result
    c.loop-place.pass.view c.refer.new.pass.view c.in-Seen.element (c.refer.ensures.seen c.in-Seen.element c.in-Seen.is) in
    read_admissible g.B.Sitting.session g.B.Sitting.setup c.args.line.now (walking c.loop-place.state c.loop-place.at) c.loop-place.pass c.refer.new.pass c.loop-place.at c.in-Some.place c.zero.result
    c.in-Seen.element c.desc-on.result c.loop-place.invariant.attempting c.in-Some.ensures j (c.desc-on.ensures j.on (ap (λ (v : PassView journaled.Entry). v.basis) j.after))

pub take_by-requires-clause-met : goal.take_by-requires-clause-met
take_by-requires-clause-met g c =
    let j = was_judged g.B.Naming.layout.numbers c.in-Some.place.segno (asked_by (reading c.in-Some.place)) c.zero.result
    c.loop-place.pass.view c.refer.new.pass.view c.in-Seen.element (c.refer.ensures.seen c.in-Seen.element c.in-Seen.is) in
    still_met c.loop-place.state c.args.line.now c.in-Seen.element c.desc-on.result c.loop-place.at c.read_on.new.walk
    (c.read_on.ensures.no c.if-read_on.false)
    (read_met g.B.Sitting.session g.B.Sitting.setup c.args.line.now (walking c.loop-place.state c.loop-place.at) c.loop-place.pass c.refer.new.pass c.loop-place.at c.in-Some.place c.zero.result
    c.in-Seen.element c.desc-on.result c.loop-place.invariant.attempting c.in-Some.ensures j (c.desc-on.ensures j.on (ap (λ (v : PassView journaled.Entry). v.basis) j.after)) c.words_are_short.ensures)

pub returns-else-read_on-clause-turned : goal.returns-else-read_on-clause-turned
returns-else-read_on-clause-turned g c = λ before goes.
    let j = was_judged g.B.Naming.layout.numbers c.in-Some.place.segno (asked_by (reading c.in-Some.place)) c.zero.result
    c.loop-place.pass.view c.refer.new.pass.view c.in-Seen.element (c.refer.ensures.seen c.in-Seen.element c.in-Seen.is) in
    goes_turned g.B.Sitting.session g.B.Sitting.setup c.args.line.now before (inside (walking c.loop-place.state c.loop-place.at) c.loop-place.pass)
    (inside c.take_by.new.state c.refer.new.pass) c.take_by.result (c.loop-place.invariant.goes before goes)
    (read_turned g.B.Sitting.session g.B.Sitting.setup c.args.line.now (walking c.loop-place.state c.loop-place.at) c.loop-place.pass c.refer.new.pass c.loop-place.at c.in-Some.place c.zero.result
    c.in-Seen.element c.desc-on.result c.loop-place.invariant.attempting c.in-Some.ensures j (c.desc-on.ensures j.on (ap (λ (v : PassView journaled.Entry). v.basis) j.after)) c.words_are_short.ensures c.take_by.new.state c.take_by.result c.refer.ensures.amount
    (still_taken c.loop-place.state c.take_by.new.state c.args.line.now c.in-Seen.element c.desc-on.result c.loop-place.at
    c.read_on.new.walk c.take_by.result (c.read_on.ensures.no c.if-read_on.false) c.take_by.ensures.taken))

pub returns-else-read_on-clause-untold : goal.returns-else-read_on-clause-untold
returns-else-read_on-clause-untold g c =
    let j = was_judged g.B.Naming.layout.numbers c.in-Some.place.segno (asked_by (reading c.in-Some.place)) c.zero.result
    c.loop-place.pass.view c.refer.new.pass.view c.in-Seen.element (c.refer.ensures.seen c.in-Seen.element c.in-Seen.is) in
    untold_on c.args.pass.now c.loop-place.pass c.refer.new.pass c.loop-place.invariant.untold
    (untold_seen c.in-Some.place.segno (asked_by (reading c.in-Some.place)) c.zero.result c.loop-place.pass c.refer.new.pass
    c.in-Seen.element j c.refer.ensures.amount)

pub returns-in-Missing-clause-turned : goal.returns-in-Missing-clause-turned
returns-in-Missing-clause-turned g c = λ before goes.
    goes_turned g.B.Sitting.session g.B.Sitting.setup c.args.line.now before (inside (walking c.loop-place.state c.loop-place.at) c.loop-place.pass)
    (inside (walking c.loop-place.state c.loop-place.at) c.refer.new.pass) (turn.Missing (record { segno = c.in-Some.place.segno; by = c.in-Missing.by }))
    (c.loop-place.invariant.goes before goes)
    (turned_missing g.B.Sitting.session g.B.Sitting.setup c.args.line.now (walking c.loop-place.state c.loop-place.at) c.loop-place.pass c.refer.new.pass
    (reading c.in-Some.place) c.in-Missing.by c.loop-place.invariant.attempting
    (looks_so g.B.Sitting.session g.B.Sitting.setup (walking c.loop-place.state c.loop-place.at) c.args.line.now (known_of c.loop-place.pass)
    c.loop-place.at c.in-Some.place c.loop-place.invariant.attempting c.in-Some.ensures)
    (c.refer.ensures.missing c.in-Missing.by c.in-Missing.is) (c.refer.ensures.none c.in-Missing.by c.in-Missing.is) c.refer.ensures.amount)

pub returns-in-Missing-clause-untold : goal.returns-in-Missing-clause-untold
returns-in-Missing-clause-untold g c =
    untold_on c.args.pass.now c.loop-place.pass c.refer.new.pass c.loop-place.invariant.untold
    (untold_missed c.in-Some.place.segno c.in-Missing.by c.loop-place.pass c.refer.new.pass
    (c.refer.ensures.missing c.in-Missing.by c.in-Missing.is) c.refer.ensures.amount)
