use Rattle.std.proofs.Common.{◌≡◌, ◌++◌, List, ℕ, drop}
use Rattle.mx_name.specs.Paths.{names_text}
use Rattle.mx_name.proofs.paths.push_names.Given as goal

-- what is written so far, and that it begins the text of all names
abbrev pub invariant-loop-name : goal.invariant-loop-name
invariant-loop-name l =
    (more : List ℕ) × (l.out.items ≡ l.fn.out.items ++ more) × (more ++ names_text (drop l.name-index l.names) ≡ names_text l.names)
