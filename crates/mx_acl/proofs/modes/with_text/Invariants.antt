use Rattle.std.proofs.Common.{◌≡◌, ◌==◌, drop}
use Rattle.std.specs.List.{find}
use Rattle.std.specs.Cmp.Lexicographic.{pointwise}
use Rattle.mx_acl.specs.Modes.{modes_text}
use Rattle.mx_acl.proofs.modes.with_text.Given as goal

-- none of the modes so far has the text
abbrev pub invariant-loop-modes : goal.invariant-loop-modes
invariant-loop-modes l =
    find (λ modes. pointwise ◌==◌ l.text (modes_text modes)) l.all ≡ find (λ modes. pointwise ◌==◌ l.text (modes_text modes)) (drop l.modes-index l.all)
