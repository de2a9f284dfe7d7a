use Rattle.std.proofs.Common.{◌≡◌, drop}
use Rattle.std.specs.Map.{lookup}
use Rattle.mx_name.specs.Names.{same_name}
use Rattle.mx_object.proofs.objects.word_of.Given as goal

-- what is left defines the symbol as all does
abbrev pub invariant-loop-defined : goal.invariant-loop-defined
invariant-loop-defined l =
    lookup (same_name l.symbol) (drop l.defined-index l.definitions) ≡ lookup (same_name l.symbol) l.definitions
