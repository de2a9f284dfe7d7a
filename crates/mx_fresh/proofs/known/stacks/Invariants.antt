use Rattle.std.proofs.Common.{◌≡◌, map}
use Rattle.std.specs.List.{range_with_len}
use Rattle.mx_kst.specs.declared.lots.Lot.TheVariants.{Stack}
use Rattle.mx_fresh.proofs.known.stacks.Given as goal

abbrev pub invariant-loop-number : goal.invariant-loop-number
invariant-loop-number l = l.lots.items ≡ map Stack (range_with_len 0 l.number)
