use Rattle.std.proofs.Common.{◌≡◌, map, take}
use Rattle.mx_script.specs.declared.lines.Line.TheVariants.{Ask}
use Rattle.mx_parts.proofs.scripts.setup_lines.Given as goal

abbrev pub invariant-loop-request : goal.invariant-loop-request
invariant-loop-request l = l.lines ≡ map Ask (take l.request-index l.requests)
