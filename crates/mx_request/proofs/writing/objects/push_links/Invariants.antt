use Rattle.std.proofs.Common.{◌≡◌, ◌++◌, drop, map}
use Rattle.mx_request.specs.Growth.{IsGrown, blank_before}
use Rattle.mx_request.specs.ObjectTexts.{link_text}
use Rattle.mx_request.proofs.writing.objects.push_links.Given as goal

abbrev pub invariant-loop-name : goal.invariant-loop-name
invariant-loop-name l = record {
  left : l.out.items ++ blank_before (map link_text (drop l.name-index l.links))
      ≡ l.initial.out.items ++ blank_before (map link_text l.links);
  grown : IsGrown l.initial.out.items l.out.items;
}
