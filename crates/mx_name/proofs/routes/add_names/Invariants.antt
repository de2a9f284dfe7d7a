use Rattle.std.proofs.Common.{◌≡◌, ◌==◌, ◌++◌, length, None}
use Rattle.std.specs.List.{slice_split}
use Rattle.mx_name.specs.Pathnames.{first_fault}
use Rattle.mx_name.proofs.routes.add_names.Given as goal

-- the names that are left have no fault, and follow those so far
abbrev pub invariant-loop-name : goal.invariant-loop-name
invariant-loop-name l =
    (first_fault (slice_split (λ c. c == 62) l.left) ≡ None)
    × (l.names.items ++ slice_split (λ c. c == 62) l.left ≡ l.fn.names.items ++ slice_split (λ c. c == 62) l.text)

abbrev pub decreases-loop-name : goal.decreases-loop-name
decreases-loop-name l = length l.left
