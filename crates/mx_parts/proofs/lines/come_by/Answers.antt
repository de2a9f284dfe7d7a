use Rattle.std.proofs.Common.{◌≡◌, ◌<◌, length, refl, subst, arith, rules}
use Rattle.std.proofs.lemmas.Option.{slice_get_read}
use Rattle.mx_transcript.specs.Access.{descriptor_of}
use Rattle.mx_transcript.specs.Legal.{setting_of}
use Rattle.mx_parts.proofs.RestLaws.{begun, beside_at, more_at, none_at}
use Rattle.mx_parts.specs.Answers.{IsAnswered}
use Rattle.mx_parts.proofs.lines.come_by.Goals as goal

pub loop-place-init : goal.loop-place-init
loop-place-init c =
    begun (setting_of c.args.setting.now.session.now c.args.setting.now.journal.now c.args.setting.now.process) c.args.control.now
    c.args.line.now c.args.events.now c.begin-work.result (c.begin-work.ensures.stands c.args.control.now c.args.line.now)
    (c.begin-work.ensures.good c.args.control.now)

pub answered-requires-clause-desc : goal.answered-requires-clause-desc
answered-requires-clause-desc c =
    let within : c.loop-place.place < length c.args.events.now = search rules in
    let each : length c.args.descriptors.now ≡ length c.args.events.now = c.requires.beside.each in
    beside_at (descriptor_of c.args.setting.now.session.now c.args.setting.now.journal.now c.args.setting.now.process)
    c.args.events.now c.args.descriptors.now c.loop-place.place c.index-events-place.result c.index-descriptors-place.result
    c.requires.beside
    (slice_get_read c.args.events.now (length c.args.events.now) c.loop-place.place c.index-events-place.result refl within
    c.index-events-place.is)
    (slice_get_read c.args.descriptors.now (length c.args.descriptors.now) c.loop-place.place c.index-descriptors-place.result refl
    (omega (arith, within, each)) c.index-descriptors-place.is)

pub returns-in-None : goal.returns-in-None
returns-in-None c =
    let setting = setting_of c.args.setting.now.session.now c.args.setting.now.journal.now c.args.setting.now.process in
    let within : c.loop-place.place < length c.args.events.now = search rules in
    none_at setting c.args.control.now c.args.line.now c.args.events.now c.loop-place.place c.index-events-place.result c.loop-place.work
    (slice_get_read c.args.events.now (length c.args.events.now) c.loop-place.place c.index-events-place.result refl within
    c.index-events-place.is)
    c.loop-place.invariant
    (subst (IsAnswered setting c.args.control.now c.args.line.now c.index-events-place.result c.loop-place.work)
    c.in-None.is c.in_ok-after.ensures)

pub loop-place-preserved : goal.loop-place-preserved
loop-place-preserved c =
    let setting = setting_of c.args.setting.now.session.now c.args.setting.now.journal.now c.args.setting.now.process in
    let within : c.loop-place.place < length c.args.events.now = search rules in
    more_at c.one_course_law.ensures setting c.args.control.now c.args.line.now c.args.events.now c.loop-place.place
    c.index-events-place.result c.loop-place.work c.in-Some.after
    (slice_get_read c.args.events.now (length c.args.events.now) c.loop-place.place c.index-events-place.result refl within
    c.index-events-place.is)
    c.loop-place.invariant
    (subst (IsAnswered setting c.args.control.now c.args.line.now c.index-events-place.result c.loop-place.work)
    c.in-Some.is c.in_ok-after.ensures)
