use Rattle.std.proofs.Common.{rules, ◌≡◌, ◌∷◌, ◌∙◌}
use Rattle.std.proofs.lemmas.List.{drop_all}
use Rattle.mx_judging.proofs.ReferenceLaws.{drop_next}
use Rattle.mx_show.proofs.LinesLaws.{setup_begun, setup_numbered, setup_here, setup_next, setup_done}
use Rattle.mx_show.proofs.lines.print_setup.Goals as goal

pub loop-request-init : goal.loop-request-init
loop-request-init g c = record {
  up = rw c.steps-steps.ensures (setup_begun c.args.session.now _ _ _ _ (c.items-setup.ensures ∙ c.setup.ensures));
  numbers = rw c.steps-steps.ensures (setup_numbered c.args.session.now _ _ (c.items-setup.ensures ∙ c.setup.ensures) c.requires.numbers);
  same = search rules;
  held = search rules;
}

pub loop-request-preserved : goal.loop-request-preserved
loop-request-preserved g c =
    let step : c.loop-request.steps ≡ (c.in-Some.number, c.in-Some.events.now, c.in-Some.ends) ∷ c.next.new.self = search rules in
    let request = drop_next _ _ _ c.loop-request-test.true c.request-item.is in
    record {
      up = setup_next _ _ _ _ _ _ _ _ _ _ _ _ _ _ _ _ _ c.loop-request.invariant.up c.loop-request.invariant.numbers request step
          c.in_ok-add_request_line.ensures c.in_ok-send_when_long.ensures.sent;
      numbers = (setup_here _ _ _ _ _ _ _ _ c.loop-request.invariant.numbers request step).1;
      same = search rules;
      held = search rules;
    }

pub returns-clause-printed : goal.returns-clause-printed
returns-clause-printed g c =
    setup_done _ _ _ _ _ _ _ _ _ _ c.loop-request.invariant.up c.loop-request.invariant.numbers
    (drop_all _ _ c.loop-request-test.false)
