use Rattle.std.proofs.Common.{◌≡◌, rules, ap, ◌∙◌, ◌++◌, ◌+◌, arith}
use Rattle.mx_access.specs.Questions.{question_of, turns_at}
use Rattle.mx_access.proofs.TurnLaws.{turns_next}
use Rattle.mx_access.proofs.questions.add_events.Goals as goal

pub loop-event-preserved : goal.loop-event-preserved
loop-event-preserved c =
    let asked = question_of c.args.entries c.args.p in
    let event = c.event-item.result in
    let pushed : c.add_turns.new.turns.items ≡ c.loop-event.turns.items ++ turns_at c.loop-event.next (asked event)
    = search rules in
    let counted : c.in_ok-next.next ≡ c.loop-event.next + 1 = search rules in
    record {
      turns = turns_next asked c.args.at c.loop-event.event-index c.args.events.now event c.args.turns.now.items
          c.loop-event.turns.items c.add_turns.new.turns.items c.loop-event-test.true c.event-item.is c.loop-event.invariant.turns
          (pushed ∙ ap (λ n. c.loop-event.turns.items ++ turns_at n (asked event)) c.loop-event.invariant.next);
      next = omega (arith, counted, c.loop-event.invariant.next);
    }
