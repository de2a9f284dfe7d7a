use Rattle.mx_sdw.specs.Descriptors.{unknown_desc}
use Rattle.mx_rule.proofs.passes.PassSeat.load_desc.Given as goal

abbrev pub ghosts-load_word : goal.ghosts-load_word
ghosts-load_word g a = record {
  numbers = a.self.now.layout.numbers;
  on = record { segno = a.segno; number = 0; desc = unknown_desc };
  asked = a.asked.now;
}

abbrev pub ghosts-load_none : goal.ghosts-load_none
ghosts-load_none g a = record {
  numbers = a.self.now.layout.numbers;
  on = record { segno = a.segno; number = 0; desc = unknown_desc };
  asked = a.asked.now;
}
