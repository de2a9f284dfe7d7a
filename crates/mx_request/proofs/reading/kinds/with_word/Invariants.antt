use Rattle.std.proofs.Common.{◌≡◌, ◌==◌, drop}
use Rattle.std.specs.List.{find}
use Rattle.std.specs.Cmp.Lexicographic.{pointwise}
use Rattle.mx_request.specs.Kinds.{kind_word}
use Rattle.mx_request.proofs.reading.kinds.with_word.Given as goal

-- the first of all is the first of those that are left
abbrev pub invariant-loop-kind : goal.invariant-loop-kind
invariant-loop-kind l = find (λ kind. pointwise ◌==◌ l.word (kind_word kind)) (drop l.kind-index l.all) ≡ find (λ kind. pointwise ◌==◌ l.word (kind_word kind)) l.all
