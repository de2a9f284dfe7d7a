use Rattle.std.proofs.Common.{◌≡◌, map, take}
use Rattle.mx_kst.specs.Terminating.{names_without}
use Rattle.mx_fresh.proofs.known.all_names_without.Given as goal

abbrev pub invariant-loop-own : goal.invariant-loop-own
invariant-loop-own l = l.after.items ≡ map (names_without l.segno) (take l.own-index l.names)
