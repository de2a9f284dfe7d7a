use Rattle.std.proofs.Common.{ap, sym, subst}
use Rattle.mx_line.specs.AtWork.{IsMet}
use Rattle.mx_line.specs.declared.at_work.LineAtWork.TheVariants.{At}
use Rattle.mx_rule.specs.declared.views.PassView.{PassView}
use Rattle.mx_sdw.specs.Admissible.{IsAdmissible}
use Rattle.mx_sdw.specs.Descriptors.{Descriptor}
use Rattle.mx_state.specs.declared.journal.Entry as journaled
use Rattle.mx_process.proofs.JudgedLaws.{asked_by, was_judged}
use Rattle.mx_process.proofs.KnownLaws.{untold_missed, untold_seen}
use Rattle.mx_process.proofs.TurnLaws.{meets, turned, turned_missing}
use Rattle.mx_process.proofs.turns.refer.Goals as goal

pub desc-desc-requires : goal.desc-desc-requires
desc-desc-requires g c =
    let j = was_judged g.B.Naming.layout.numbers c.args.asked.now.segno (asked_by c.args.asked.now) c.value_of-value.result
    c.args.pass.now.view c.refer.new.pass.view c.in-Seen.element (c.refer.ensures.seen c.in-Seen.element c.in-Seen.is) in
    record { on = j.on; is = ap (λ (v : PassView journaled.Entry). v.basis) j.after }

pub take-requires-clause-desc : goal.take-requires-clause-desc
take-requires-clause-desc g c =
    let j = was_judged g.B.Naming.layout.numbers c.args.asked.now.segno (asked_by c.args.asked.now) c.value_of-value.result
    c.args.pass.now.view c.refer.new.pass.view c.in-Seen.element (c.refer.ensures.seen c.in-Seen.element c.in-Seen.is) in
    subst IsAdmissible (sym (c.desc-desc.ensures j.on (ap (λ (v : PassView journaled.Entry). v.basis) j.after))) j.admissible

pub take-requires-clause-met : goal.take-requires-clause-met
take-requires-clause-met g c =
    let j = was_judged g.B.Naming.layout.numbers c.args.asked.now.segno (asked_by c.args.asked.now) c.value_of-value.result
    c.args.pass.now.view c.refer.new.pass.view c.in-Seen.element (c.refer.ensures.seen c.in-Seen.element c.in-Seen.is) in
    subst (λ (d : Descriptor). IsMet c.args.state.now.control c.args.line.now (At c.args.state.now.progress) c.in-Seen.element d)
    (sym (c.desc-desc.ensures j.on (ap (λ (v : PassView journaled.Entry). v.basis) j.after)))
    (meets g.B.Sitting.session g.B.Sitting.setup c.args.line.now c.args.state.now c.args.state.now c.args.pass.now c.refer.new.pass
    c.args.asked.now c.value_of-value.result c.in-Seen.element c.requires.attempting c.requires.asks j c.value_of-value.ensures
    c.words_are_short.ensures)

pub returns-in-Seen-clause-turned : goal.returns-in-Seen-clause-turned
returns-in-Seen-clause-turned g c =
    let j = was_judged g.B.Naming.layout.numbers c.args.asked.now.segno (asked_by c.args.asked.now) c.value_of-value.result
    c.args.pass.now.view c.refer.new.pass.view c.in-Seen.element (c.refer.ensures.seen c.in-Seen.element c.in-Seen.is) in
    turned g.B.Sitting.session g.B.Sitting.setup c.args.line.now c.args.state.now c.take.new.state c.args.pass.now c.refer.new.pass
    c.args.asked.now c.value_of-value.result c.in-Seen.element c.take.result c.desc-desc.result c.requires.attempting c.requires.asks j
    (c.desc-desc.ensures j.on (ap (λ (v : PassView journaled.Entry). v.basis) j.after)) c.refer.ensures.amount c.value_of-value.ensures
    c.words_are_short.ensures c.take.ensures.taken

pub returns-in-Seen-clause-untold : goal.returns-in-Seen-clause-untold
returns-in-Seen-clause-untold g c =
    let j = was_judged g.B.Naming.layout.numbers c.args.asked.now.segno (asked_by c.args.asked.now) c.value_of-value.result
    c.args.pass.now.view c.refer.new.pass.view c.in-Seen.element (c.refer.ensures.seen c.in-Seen.element c.in-Seen.is) in
    untold_seen c.args.asked.now.segno (asked_by c.args.asked.now) c.value_of-value.result c.args.pass.now c.refer.new.pass
    c.in-Seen.element j c.refer.ensures.amount

pub returns-in-Missing-clause-turned : goal.returns-in-Missing-clause-turned
returns-in-Missing-clause-turned g c =
    turned_missing g.B.Sitting.session g.B.Sitting.setup c.args.line.now c.args.state.now c.args.pass.now c.refer.new.pass
    c.args.asked.now c.in-Missing.by c.requires.attempting c.requires.asks (c.refer.ensures.missing c.in-Missing.by c.in-Missing.is)
    (c.refer.ensures.none c.in-Missing.by c.in-Missing.is) c.refer.ensures.amount

pub returns-in-Missing-clause-untold : goal.returns-in-Missing-clause-untold
returns-in-Missing-clause-untold g c =
    untold_missed c.args.asked.now.segno c.in-Missing.by c.args.pass.now c.refer.new.pass
    (c.refer.ensures.missing c.in-Missing.by c.in-Missing.is) c.refer.ensures.amount
