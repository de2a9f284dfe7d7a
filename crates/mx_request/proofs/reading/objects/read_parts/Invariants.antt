use Rattle.std.proofs.Common.{◌≡◌, ◌-◌}
use Rattle.mx_request.specs.ReadingObjects.{with_fields, no_parts}
use Rattle.mx_request.proofs.reading.objects.read_parts.Given as goal

-- the parts of the text are those so far with what the rest adds
abbrev pub invariant-loop-left : goal.invariant-loop-left
invariant-loop-left l = with_fields 128 no_parts l.text ≡ with_fields (128 - l._left) l.parts l.rest
