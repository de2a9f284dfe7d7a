use Rattle.std.proofs.Common.{◌≡◌, take, drop}
use Rattle.mx_name.specs.Cuts.{behind, cut_at}
use Rattle.mx_name.proofs.cutting.near_cut.Given as goal

-- the cut of the whole text is the cut of what is left, behind what was passed
abbrev pub invariant-loop-i : goal.invariant-loop-i
invariant-loop-i l = cut_at l.mark l.text ≡ behind (take l.i l.text) (cut_at l.mark (drop l.i l.text))
