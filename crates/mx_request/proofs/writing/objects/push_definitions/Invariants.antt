use Rattle.std.proofs.Common.{◌≡◌, ◌++◌, drop, map}
use Rattle.mx_request.specs.Growth.{IsGrown, blank_before}
use Rattle.mx_request.specs.ObjectTexts.{definition_text}
use Rattle.mx_request.proofs.writing.objects.push_definitions.Given as goal

abbrev pub invariant-loop-symbol : goal.invariant-loop-symbol
invariant-loop-symbol l = record {
  left : l.out.items ++ blank_before (map definition_text (drop l.symbol-index l.definitions))
      ≡ l.initial.out.items ++ blank_before (map definition_text l.definitions);
  grown : IsGrown l.initial.out.items l.out.items;
}
