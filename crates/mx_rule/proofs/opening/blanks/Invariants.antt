use Rattle.std.proofs.Common.{◌≡◌}
use Rattle.std.specs.Vec.{vec_len}
use Rattle.mx_core.specs.Lists.{Lists}
use Rattle.mx_rule.specs.Openings.{blank_number}
use Rattle.mx_rule.proofs.opening.blanks.Given as goal

abbrev pub invariant-loop-word : goal.invariant-loop-word
invariant-loop-word l = (vec_len l.words ≡ l.word) × Lists l.words.items (blank_number l.layout l.start)
