use Rattle.std.proofs.Common.{length}
use Rattle.mx_show.proofs.telling.add_notes.Given as goal

-- the bytes that are left
abbrev pub decreases-loop-sentence : goal.decreases-loop-sentence
decreases-loop-sentence l = length l.rest
