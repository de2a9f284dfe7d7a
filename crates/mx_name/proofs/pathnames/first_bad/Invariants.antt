use Rattle.std.proofs.Common.{◌≡◌, ◌==◌, length}
use Rattle.std.specs.List.{slice_split}
use Rattle.mx_name.specs.Pathnames.{first_fault}
use Rattle.mx_name.proofs.pathnames.first_bad.Given as goal

-- the names so far have no fault
abbrev pub invariant-loop-name : goal.invariant-loop-name
invariant-loop-name l = first_fault (slice_split (λ c. c == 62) l.names) ≡ first_fault (slice_split (λ c. c == 62) l.left)

abbrev pub decreases-loop-name : goal.decreases-loop-name
decreases-loop-name l = length l.left
