use Rattle.mx_rule.proofs.passes.PassSeat.recall.Given as goal

abbrev pub ghosts-recall_on : goal.ghosts-recall_on
ghosts-recall_on g a = record {
  numbers = 0;
  on = a.on.now;
  asked = a.asked.now;
}
