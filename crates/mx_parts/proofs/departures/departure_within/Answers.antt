use Rattle.std.proofs.Common.{◌≡◌, ◌<◌, length, refl, arith, rules}
use Rattle.std.proofs.lemmas.Option.{slice_get_read}
use Rattle.mx_transcript.specs.Access.{descriptor_of}
use Rattle.mx_parts.proofs.RestLaws.{beside_at}
use Rattle.mx_parts.proofs.departures.departure_within.Goals as goal

pub loop-place-init : goal.loop-place-init
loop-place-init c = record { good = c.begin-work.ensures.good c.args.process.now.control; packable = c.requires.packable }

pub answered-requires-clause-desc : goal.answered-requires-clause-desc
answered-requires-clause-desc c =
    let within : c.loop-place.place < length c.args.printed.now.events.now = search rules in
    let each : length c.args.printed.now.descriptors.now ≡ length c.args.printed.now.events.now = c.requires.beside.each in
    beside_at (descriptor_of c.args.setting.now.session.now c.args.setting.now.journal.now c.args.setting.now.process)
    c.args.printed.now.events.now c.args.printed.now.descriptors.now c.loop-place.place c.index-events-place.result c.index-descriptors-place.result
    c.requires.beside
    (slice_get_read c.args.printed.now.events.now (length c.args.printed.now.events.now) c.loop-place.place c.index-events-place.result refl within
    c.index-events-place.is)
    (slice_get_read c.args.printed.now.descriptors.now (length c.args.printed.now.descriptors.now) c.loop-place.place c.index-descriptors-place.result refl
    (omega (arith, within, each)) c.index-descriptors-place.is)
