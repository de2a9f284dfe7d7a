use Rattle.std.proofs.Common.{◌<◌, length, refl, arith}
use Rattle.std.proofs.lemmas.Option.{slice_get_read}
use Rattle.mx_access.specs.Answers.{is_changed, judged_on, missed_changed}
use Rattle.mx_access.specs.Passing.{IsTold}
use Rattle.mx_access.specs.Questions.{question_of}
use Rattle.mx_access.specs.Rows.{deed_of_process, event_change, told_cell, told_desc}
use Rattle.mx_access.proofs.RowLaws.{change_told, deed_told, desc_told, row_more}
use Rattle.mx_transcript.specs.Access.{descriptor_of}
use Rattle.mx_transcript.specs.References.{deed_by}
use Rattle.mx_access.proofs.answers.Row.add.Goals as goal

pub loop-place-preserved : goal.loop-place-preserved
loop-place-preserved c =
    let session = c.args.session.now in
    let journal = c.args.entries.now in
    let p = c.args.p in
    let events = c.args.events.now in
    let place = c.loop-place.place in
    let event = c.index-events-place.result in
    let told = c.index-told-place.result in
    let below : place < length events = c.loop-place-test.true in
    let long = c.requires.told.long in
    let is : IsTold session journal (question_of (length journal) p event) told
    = c.requires.told.each place event told
    (slice_get_read events (length events) place event refl below c.index-events-place.is)
    (slice_get_read c.args.told.now (length c.args.told.now) place told refl (omega (arith, long, below)) c.index-told-place.is) in
    record {
      deeds = row_more (deed_of_process session journal p) events place event (deed_by (told_cell told) event) c.args.self.now.deeds
          c.loop-place.self.deeds c.push.new.self.deeds below c.index-events-place.is c.loop-place.invariant.deeds
          c.in_ok-push.ensures.deeds (deed_told session journal p event told c.requires.admissible is);
      descriptors = row_more (judged_on (descriptor_of session journal p)) events place event (told_desc told event)
          c.args.self.now.descriptors c.loop-place.self.descriptors c.push.new.self.descriptors below c.index-events-place.is
          c.loop-place.invariant.descriptors c.in_ok-push.ensures.descriptors (desc_told session journal p event told is);
      changes = row_more (missed_changed (is_changed session journal p)) events place event (event_change (length journal) p told event)
          c.args.self.now.changes c.loop-place.self.changes c.push.new.self.changes below c.index-events-place.is
          c.loop-place.invariant.changes c.in_ok-push.ensures.changes (change_told session journal p event told is);
    }
