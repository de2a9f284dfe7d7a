use Rattle.std.proofs.Common.{◌≡◌, ◌++◌, length, ap, arith, rules}
use Rattle.std.proofs.lemmas.List.{length-append}
use Rattle.mx_access.specs.Questions.{question_of}
use Rattle.mx_access.proofs.TurnLaws.{turns_left}
use Rattle.mx_transcript.specs.Transcripts.{events_of}
use Rattle.mx_access.proofs.questions.add_part.Goals as goal

pub loop-events-preserved : goal.loop-events-preserved
loop-events-preserved c =
    let left = events_of c.loop-events.events-iterator in
    let events = c.in-Some.events.now in
    let others = events_of c.next.new.self in
    let cut : left ≡ events ++ others = search rules in
    record {
      turns = turns_left (question_of c.args.entries c.args.p) c.loop-events.next c.in_ok-next.next left events others
          c.loop-events.turns.items c.add_events.new.turns.items _ cut c.loop-events.invariant.turns c.in_ok-next.ensures.turns
          c.in_ok-next.ensures.behind;
      next = omega (
        arith,
        ap length cut,
        length-append events others,
        c.in_ok-next.ensures.behind,
        c.loop-events.invariant.next,
      );
    }
