use Rattle.std.proofs.Common.{◌≡◌, ◌<◌, ℕ, Some}
use Rattle.std.specs.List.{slice_get, Contains}
use Rattle.mx_stores.specs.declared.groups.Groups.{Groups}
use Rattle.mx_stores.proofs.groups.all_numbers.Given as goal

-- those of the processes before
abbrev pub invariant-loop-storer : goal.invariant-loop-storer
invariant-loop-storer l = (u k number : ℕ) (own : Groups) → u < l.storer → slice_get l.groups u ≡ Some own
    → slice_get own.cells.numbers.items k ≡ Some number → Contains l.numbers.items number
