use Rattle.std.proofs.Common.{◌≡◌, ◌==◌, drop}
use Rattle.std.specs.List.{find}
use Rattle.std.specs.Cmp.Lexicographic.{pointwise}
use Rattle.mx_hier.specs.Refusals.{refusal_text}
use Rattle.mx_reader.proofs.fields.refusal_with.Given as goal

-- the first of all is the first of those that are left
abbrev pub invariant-loop-why : goal.invariant-loop-why
invariant-loop-why l =
    find (λ why. pointwise ◌==◌ l.text (refusal_text why)) (drop l.why-index l.all) ≡ find (λ why. pointwise ◌==◌ l.text (refusal_text why)) l.all
