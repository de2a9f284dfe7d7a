use Rattle.std.proofs.Common.{◌≡◌, ◌++◌, length}
use Rattle.mx_explain.specs.PlainTexts.{plain_text}
use Rattle.mx_explain.proofs.plain.plain_text.Given as goal

abbrev pub invariant-loop-after : goal.invariant-loop-after
invariant-loop-after l = l.plain.items ++ plain_text l.rest ≡ plain_text l.text

abbrev pub decreases-loop-after : goal.decreases-loop-after
decreases-loop-after l = length l.rest
