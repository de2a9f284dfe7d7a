use Rattle.std.proofs.Common.{◌≡◌, ◌==◌, drop}
use Rattle.std.specs.List.{find}
use Rattle.std.specs.Cmp.Lexicographic.{pointwise}
use Rattle.mx_lint.specs.Forms.{word_of}
use Rattle.mx_lint.proofs.forms.with_word.Given as goal

-- the first of all is the first of those that are left
abbrev pub invariant-loop-form : goal.invariant-loop-form
invariant-loop-form l =
    find (λ form. pointwise ◌==◌ l.word (word_of form)) (drop l.form-index l.all)
    ≡ find (λ form. pointwise ◌==◌ l.word (word_of form)) l.all
