use Rattle.std.proofs.Common.{◌≡◌, take}
use Rattle.mx_fresh.proofs.known.copied.Given as goal

abbrev pub invariant-loop-own : goal.invariant-loop-own
invariant-loop-own l = l.after.items ≡ take l.own-index l.names
