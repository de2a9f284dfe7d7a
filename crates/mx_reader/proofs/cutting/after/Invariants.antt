use Rattle.std.proofs.Common.{◌≡◌, drop}
use Rattle.mx_script.specs.Fronts.{after}
use Rattle.mx_reader.proofs.cutting.after.Given as goal

-- the bytes so far are the same
abbrev pub invariant-loop-i : goal.invariant-loop-i
invariant-loop-i l = after (drop l.i l.front) (drop l.i l.text) ≡ after l.front l.text
