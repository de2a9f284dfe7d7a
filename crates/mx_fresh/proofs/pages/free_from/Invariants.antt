use Rattle.std.proofs.Common.{◌≡◌, map, nat_le}
use Rattle.std.specs.List.{range_with_len}
use Rattle.mx_fresh.proofs.pages.free_from.Given as goal

abbrev pub invariant-loop-page : goal.invariant-loop-page
invariant-loop-page l = l.free.items ≡ map (nat_le l.first) (range_with_len 0 l.page)
