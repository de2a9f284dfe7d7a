use Rattle.std.proofs.Common.{ap, sym, subst}
use Rattle.mx_line.specs.Fills.{write_of}
use Rattle.mx_rule.specs.declared.views.PassView.{PassView}
use Rattle.mx_sdw.specs.Admissible.{IsAdmissible}
use Rattle.mx_sdw.specs.Descriptors.{Descriptor}
use Rattle.mx_state.specs.declared.journal.Entry as journaled
use Rattle.mx_transcript.specs.Elements.{IsJudged}
use Rattle.mx_transcript.specs.Next.{Reference}
use Rattle.mx_process.proofs.FillingLaws.{is_since, missed_so, stored_so}
use Rattle.mx_process.proofs.JudgedLaws.{asked_by, is_judged, was_judged}
use Rattle.mx_process.proofs.KnownLaws.{untold_missed, untold_seen}
use Rattle.mx_process.specs.Processes.{known_of}
use Rattle.mx_process.proofs.filling.store.Goals as goal

pub desc-desc-requires : goal.desc-desc-requires
desc-desc-requires g c =
    let j = was_judged g.B.Naming.layout.numbers c.args.asked.now.segno (asked_by c.args.asked.now) c.value_of-value.result
    c.args.pass.now.view c.refer.new.pass.view c.in-Seen.element (c.refer.ensures.seen c.in-Seen.element c.in-Seen.is) in
    record { on = j.on; is = ap (λ (v : PassView journaled.Entry). v.basis) j.after }

pub take_write-requires-clause-desc : goal.take_write-requires-clause-desc
take_write-requires-clause-desc g c =
    let j = was_judged g.B.Naming.layout.numbers c.args.asked.now.segno (asked_by c.args.asked.now) c.value_of-value.result
    c.args.pass.now.view c.refer.new.pass.view c.in-Seen.element (c.refer.ensures.seen c.in-Seen.element c.in-Seen.is) in
    subst IsAdmissible (sym (c.desc-desc.ensures j.on (ap (λ (v : PassView journaled.Entry). v.basis) j.after))) j.admissible

pub take_write-requires-clause-since : goal.take_write-requires-clause-since
take_write-requires-clause-since g c =
    is_since g.B.Sitting.session g.B.Sitting.setup c.args.state.now c.args.line.now (known_of c.args.pass.now) c.args.fill.now
    c.requires.writing.work c.requires.due

pub take_write-requires-clause-right : goal.take_write-requires-clause-right
take_write-requires-clause-right g c =
    let j = was_judged g.B.Naming.layout.numbers c.args.asked.now.segno (asked_by c.args.asked.now) c.value_of-value.result
    c.args.pass.now.view c.refer.new.pass.view c.in-Seen.element (c.refer.ensures.seen c.in-Seen.element c.in-Seen.is) in
    subst (λ (d : Descriptor). IsJudged (write_of c.args.fill.now) d c.in-Seen.element)
    (sym (c.desc-desc.ensures j.on (ap (λ (v : PassView journaled.Entry). v.basis) j.after)))
    (subst (λ (r : Reference). IsJudged r j.on.desc c.in-Seen.element) c.requires.asked
    (is_judged c.args.asked.now c.value_of-value.result c.args.pass.now.view c.refer.new.pass.view c.in-Seen.element j
    c.requires.storable c.value_of-value.ensures c.words_are_short.ensures))

pub returns-in-Seen-clause-wrote : goal.returns-in-Seen-clause-wrote
returns-in-Seen-clause-wrote g c =
    let j = was_judged g.B.Naming.layout.numbers c.args.asked.now.segno (asked_by c.args.asked.now) c.value_of-value.result
    c.args.pass.now.view c.refer.new.pass.view c.in-Seen.element (c.refer.ensures.seen c.in-Seen.element c.in-Seen.is) in
    stored_so g.B.Sitting.session g.B.Sitting.setup c.args.line.now c.args.state.now c.take_write.new.state c.args.pass.now
    c.refer.new.pass c.args.asked.now c.value_of-value.result c.in-Seen.element c.take_write.result c.desc-desc.result
    c.requires.writing j (c.desc-desc.ensures j.on (ap (λ (v : PassView journaled.Entry). v.basis) j.after)) c.refer.ensures.amount
    c.take_write.ensures.stored c.take_write.ensures.good c.take_write.ensures.packable

pub returns-in-Seen-clause-untold : goal.returns-in-Seen-clause-untold
returns-in-Seen-clause-untold g c =
    let j = was_judged g.B.Naming.layout.numbers c.args.asked.now.segno (asked_by c.args.asked.now) c.value_of-value.result
    c.args.pass.now.view c.refer.new.pass.view c.in-Seen.element (c.refer.ensures.seen c.in-Seen.element c.in-Seen.is) in
    untold_seen c.args.asked.now.segno (asked_by c.args.asked.now) c.value_of-value.result c.args.pass.now c.refer.new.pass
    c.in-Seen.element j c.refer.ensures.amount

pub returns-in-Missing-clause-wrote : goal.returns-in-Missing-clause-wrote
returns-in-Missing-clause-wrote g c =
    missed_so g.B.Sitting.session g.B.Sitting.setup c.args.line.now c.args.state.now c.args.pass.now c.refer.new.pass
    c.args.asked.now c.in-Missing.by c.args.fill.now c.requires.writing c.requires.due c.requires.asked
    (c.refer.ensures.missing c.in-Missing.by c.in-Missing.is) (c.refer.ensures.none c.in-Missing.by c.in-Missing.is)
    c.refer.ensures.amount

pub returns-in-Missing-clause-untold : goal.returns-in-Missing-clause-untold
returns-in-Missing-clause-untold g c =
    untold_missed c.args.asked.now.segno c.in-Missing.by c.args.pass.now c.refer.new.pass
    (c.refer.ensures.missing c.in-Missing.by c.in-Missing.is) c.refer.ensures.amount
