use Rattle.std.proofs.Common.{◌≡◌, ◌==◌, length}
use Rattle.std.specs.List.{slice_split}
use Rattle.mx_reader.proofs.NameLaws.{names_on}
use Rattle.mx_reader.specs.Fields.{all_names}
use Rattle.mx_reader.proofs.fields.all_names.Given as goal

-- the names of the text are those so far and those that are left
abbrev pub invariant-loop-field : goal.invariant-loop-field
invariant-loop-field l =
    all_names (slice_split (λ c. c == 32) l.text) ≡ names_on l.names.items (slice_split (λ c. c == 32) l.left)

abbrev pub decreases-loop-field : goal.decreases-loop-field
decreases-loop-field l = length l.left
