use Rattle.std.proofs.Common.{refl, ◌∙◌}
use Rattle.mx_process.proofs.ProcessLaws.{still_process}
use Rattle.mx_process.proofs.processes.Process.reserve_lines.Goals as goal

pub invariant_of-self : goal.invariant_of-self
invariant_of-self g c =
    still_process g.B.Sitting.session g.B.Sitting.setup _ _ (record {
      first = refl;
      control = refl;
      steps = c.reserve_lines.ensures.same.steps ∙ c.ask_for_room.ensures.steps;
      events = c.reserve_lines.ensures.same.events ∙ c.ask_for_room.ensures.events;
      progress = refl;
      missing = refl;
      view = refl;
      amount = refl;
      account = refl;
    }) g.B.Attending.accounts c.self.inside.script.now c.self.inside.cam c.self.invariant
