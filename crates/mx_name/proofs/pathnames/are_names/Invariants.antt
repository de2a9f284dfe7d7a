use Rattle.std.proofs.Common.{◌≡◌, ◌==◌, ◌≤◌, drop}
use Rattle.std.specs.List.{slice_split}
use Rattle.std.specs.Option.{is_none}
use Rattle.mx_name.specs.Pathnames.{first_fault}
use Rattle.mx_name.proofs.Passing.{passes}
use Rattle.mx_name.proofs.pathnames.are_names.Given as goal

-- what is left passes, behind the bytes so far of its first name, exactly where no name has a fault
abbrev pub invariant-loop-byte : goal.invariant-loop-byte
invariant-loop-byte l =
    (l.size ≤ l.byte-index) × (passes l.size (drop l.byte-index l.names) ≡ is_none (first_fault (slice_split (λ c. c == 62) l.names)))
