use Rattle.mx_ties.proofs.WorkingLaws.{begin_law, see_law, fill_law, denied_law, missed_fill_law, miss_law, enter_law, told_law, end_law, cut_law, last_law, idle_law, worked_law, unspoilt_law, worked_run_law}
use Rattle.mx_ties.proofs.laws.working_law.Goals as goal

pub returns : goal.returns
returns c = record {
  begin = begin_law;
  seen = see_law;
  filled = fill_law;
  denied = denied_law;
  missed_fill = missed_fill_law;
  missed = miss_law;
  entered = enter_law;
  told = told_law;
  ended = end_law;
  cut = cut_law;
  last = last_law;
  idle = idle_law;
  worked = worked_law;
  unspoilt = unspoilt_law;
  run = worked_run_law;
}
