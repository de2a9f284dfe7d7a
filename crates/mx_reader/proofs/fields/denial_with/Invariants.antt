use Rattle.std.proofs.Common.{◌≡◌, ◌==◌, drop}
use Rattle.std.specs.List.{find}
use Rattle.std.specs.Cmp.Lexicographic.{pointwise}
use Rattle.mx_sdw.specs.Denials.{denial_text}
use Rattle.mx_reader.proofs.fields.denial_with.Given as goal

-- the first of all is the first of those that are left
abbrev pub invariant-loop-denial : goal.invariant-loop-denial
invariant-loop-denial l =
    find (λ denial. pointwise ◌==◌ l.text (denial_text denial)) (drop l.denial-index l.all) ≡ find (λ denial. pointwise ◌==◌ l.text (denial_text denial)) l.all
