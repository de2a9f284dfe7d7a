use Rattle.mx_ties.proofs.SoFarLaws.{first_line_law, no_line_law, seen_step_law, fill_step_law, miss_step_law, entry_step_law, line_step_law, last_line_law}
use Rattle.mx_ties.proofs.laws.steps_law.Goals as goal

pub returns : goal.returns
returns c = record {
  first = first_line_law;
  none = no_line_law;
  seen = seen_step_law;
  filled = fill_step_law;
  missed = miss_step_law;
  entered = entry_step_law;
  line = line_step_law;
  last = last_line_law;
}
