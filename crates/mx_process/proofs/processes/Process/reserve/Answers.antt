use Rattle.std.proofs.Common.{refl}
use Rattle.mx_process.proofs.ProcessLaws.{still_process}
use Rattle.mx_process.proofs.processes.Process.reserve.Goals as goal

pub invariant_of-self-2 : goal.invariant_of-self-2
invariant_of-self-2 g c =
    still_process g.B.Sitting.session g.B.Sitting.setup _ _ (record {
      first = refl;
      control = refl;
      steps = c.reserve_events.ensures.same.steps;
      events = c.reserve_events.ensures.same.events;
      progress = refl;
      missing = refl;
      view = c.reserve.ensures.view;
      amount = c.reserve.ensures.amount;
      account = refl;
    }) g.B.Attending.accounts c.self.inside.script.now c.self.inside.cam c.self.invariant
