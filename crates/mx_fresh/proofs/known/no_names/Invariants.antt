use Rattle.std.proofs.Common.{◌≡◌, [], replicate}
use Rattle.mx_fresh.proofs.known.no_names.Given as goal

abbrev pub invariant-loop-ring : goal.invariant-loop-ring
invariant-loop-ring l = l.names.items ≡ replicate l._ring []
