use Rattle.std.proofs.Common.{◌≡◌, [], ◌++◌, List, rules, sym, subst}
use Rattle.std.specs.List.{All}
use Rattle.mx_access.specs.Answers.{is_changed, judged_on, missed_changed}
use Rattle.mx_access.specs.Rows.{AreToldOf, deed_of_process}
use Rattle.mx_access.proofs.RowLaws.{all_admissible, items_all, items_more, told_back, told_front}
use Rattle.mx_sdw.specs.Admissible.{IsAdmissible}
use Rattle.mx_transcript.specs.Access.{descriptor_of}
use Rattle.mx_transcript.specs.Transcripts.{events_of}
use Rattle.mx_transcript.specs.declared.transcripts.Event2.{Event2}
use Rattle.mx_access.proofs.answers.Row.of.Goals as goal

pub add-requires-clause-told : goal.add-requires-clause-told
add-requires-clause-told c =
    let here : events_of c.loop-events.events-iterator ≡ c.in-Some.events.now ++ events_of c.next.new.self = search rules in
    told_front c.args.session.now c.args.entries.now c.args.p c.in-Some.events.now (events_of c.next.new.self) c.loop-events.left.now
    (subst (λ (e : List Event2). AreToldOf c.args.session.now c.args.entries.now c.args.p e c.loop-events.left.now) here
    c.loop-events.invariant.told)

pub loop-events-preserved : goal.loop-events-preserved
loop-events-preserved c =
    let session = c.args.session.now in
    let journal = c.args.entries.now in
    let p = c.args.p in
    let all = events_of c.args.transcript.now in
    let events = c.in-Some.events.now in
    let rest = events_of c.next.new.self in
    let here : events_of c.loop-events.events-iterator ≡ events ++ rest = search rules in
    record {
      deeds = items_more (deed_of_process session journal p) c.loop-events.row.deeds c.add.new.self.deeds
          (events_of c.loop-events.events-iterator) events rest all here c.loop-events.invariant.deeds c.in_ok-add.ensures.deeds;
      descriptors = items_more (judged_on (descriptor_of session journal p)) c.loop-events.row.descriptors c.add.new.self.descriptors
          (events_of c.loop-events.events-iterator) events rest all here c.loop-events.invariant.descriptors
          c.in_ok-add.ensures.descriptors;
      changes = items_more (missed_changed (is_changed session journal p)) c.loop-events.row.changes c.add.new.self.changes
          (events_of c.loop-events.events-iterator) events rest all here c.loop-events.invariant.changes c.in_ok-add.ensures.changes;
      told = subst (AreToldOf session journal p rest) (sym c.split_at.ensures.back)
          (told_back session journal p events rest c.loop-events.left.now
          (subst (λ (e : List Event2). AreToldOf session journal p e c.loop-events.left.now) here c.loop-events.invariant.told));
    }

pub returns : goal.returns
returns c =
    let session = c.args.session.now in
    let journal = c.args.entries.now in
    let p = c.args.p in
    let all = events_of c.args.transcript.now in
    let none : events_of c.loop-events.events-iterator ≡ [] = search rules in
    let descriptors = items_all (judged_on (descriptor_of session journal p)) c.loop-events.row.descriptors
    (events_of c.loop-events.events-iterator) all none c.loop-events.invariant.descriptors in
    record {
      deeds = items_all (deed_of_process session journal p) c.loop-events.row.deeds (events_of c.loop-events.events-iterator) all none
          c.loop-events.invariant.deeds;
      descriptors = descriptors;
      changes = items_all (missed_changed (is_changed session journal p)) c.loop-events.row.changes
          (events_of c.loop-events.events-iterator) all none c.loop-events.invariant.changes;
      admissible = subst (All IsAdmissible) (sym descriptors) (all_admissible session journal p all c.requires.admissible);
    }
