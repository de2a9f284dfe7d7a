use Rattle.mx_state.proofs.OpeningLaws.{opened_is_sound}
use Rattle.mx_state.proofs.PageLaws.{opened_once}
use Rattle.mx_state.proofs.states.State.new.Goals as goal

pub invariant_of-result : goal.invariant_of-result
invariant_of-result c = record {
  initializer_is = c.make_initializer.ensures;
  root_is = c.root.ensures;
  sound = opened_is_sound c.args.version c.in_ok-hier.hier c.args.entrants.now c.in_ok-processes.processes.items c.in_ok-mail.mail c.requires.most c.in_ok-processes.ensures c.in_ok-mail.ensures;
  held_once = opened_once c.args.version c.in_ok-hier.hier c.args.entrants.now c.in_ok-processes.processes.items c.in_ok-mail.mail c.in_ok-hier.ensures c.in_ok-processes.ensures;
}
