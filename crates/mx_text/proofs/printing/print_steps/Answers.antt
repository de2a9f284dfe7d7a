use Rattle.std.proofs.Common.{rules, ◌≡◌, ◌∷◌}
use Rattle.mx_text.proofs.PrintingLaws.{on_err, sent_next, cut_next, steps_next}
use Rattle.mx_text.proofs.printing.print_steps.Goals as goal

pub returns-in_err-send_when_long-clause-part : goal.returns-in_err-send_when_long-clause-part
returns-in_err-send_when_long-clause-part g c =
    let next : c.loop-number.number-iterator ≡ (c.in-Some.number, c.in-Some.events.now, c.in-Some.ends) ∷ c.next.new.self = search rules in
    on_err _ (cut_next _ _ _ _ _ _ _ _ _ c.loop-number.invariant.is_sent (steps_next _ _ _ next)
    c.in_ok-add_step.ensures c.in_err-send_when_long.ensures.part)

pub loop-number-preserved : goal.loop-number-preserved
loop-number-preserved g c =
    let next : c.loop-number.number-iterator ≡ (c.in-Some.number, c.in-Some.events.now, c.in-Some.ends) ∷ c.next.new.self = search rules in
    record {
      is_sent = sent_next _ _ _ _ _ _ _ _ _ _ c.loop-number.invariant.is_sent (steps_next _ _ _ next)
          c.in_ok-add_step.ensures c.in_ok-send_when_long.ensures.sent;
      same = search rules;
      held = search rules;
    }
