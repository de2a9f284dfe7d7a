use Rattle.std.proofs.Common.{rules, ◌≡◌, ◌∷◌, ◌+◌, suc}
use Rattle.mx_show.proofs.LinesLaws.{begun, script_here, script_next, script_done}
use Rattle.mx_show.proofs.lines.print_script.Goals as goal

pub loop-number-init : goal.loop-number-init
loop-number-init g c = record {
  up = rw (c.from-next.ensures, c.into_iter-number-iterator.ensures.into_iter_gives, c.steps-number-items.ensures)
      (begun _ _ _ _ _);
  lines = rw (c.into_iter-number-iterator.ensures.into_iter_gives, c.steps-number-items.ensures) c.requires.lines;
  same = search rules;
  held = search rules;
}

pub loop-number-preserved : goal.loop-number-preserved
loop-number-preserved g c =
    let step : c.loop-number.number-iterator ≡ (c.in-Some.number, c.in-Some.events.now, c.in-Some.ends) ∷ c.next.new.self = search rules in
    let next : c.from-next-in-loop-number.result + 1 ≡ suc c.in-Some.number = search rules in
    record {
      up = rw next (script_next _ _ _ _ _ _ _ _ _ _ _ _ _ _ _ _ c.loop-number.invariant.up step c.line_of-line.ensures
          (rw c.from.ensures at c.in_ok-add_left_out.ensures) c.in_ok-add_script_line.ensures
          c.in_ok-send_when_long.ensures.sent);
      lines = (script_here _ _ _ _ _ c.loop-number.invariant.lines step).2;
      same = search rules;
      held = search rules;
    }

pub returns-clause-printed : goal.returns-clause-printed
returns-clause-printed g c = script_done _ _ _ _ _ _ _ _ _ c.loop-number.invariant.up c.in-None.ensures.steps.0
