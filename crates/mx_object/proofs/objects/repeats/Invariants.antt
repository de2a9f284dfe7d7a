use Rattle.std.proofs.Common.{◌≡◌, drop}
use Rattle.mx_object.specs.Objects.{symbols_of, has_twice}
use Rattle.mx_object.proofs.TwiceLaws.{twice_after}
use Rattle.mx_object.proofs.objects.repeats.Given as goal

-- what is left after the symbols seen so far has a symbol twice as the whole has
abbrev pub invariant-loop-symbol : goal.invariant-loop-symbol
invariant-loop-symbol l =
    twice_after l.seen.keys (drop l.symbol-index l.definitions) ≡ has_twice (symbols_of l.definitions)
