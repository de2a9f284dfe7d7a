-- The version that the first line of a text says.
use Rattle.std.specs.Prelude.{ℕ, List, if◌then◌else◌, codes}
use Rattle.mx_lint.specs.Fields.{is}
use Rattle.mx_lint.specs.Lines.{first_line}

-- 1 where it says none
abbrev pub version_of_line : List ℕ → ℕ
version_of_line line = if is line (codes "multics 2") then 2 else if is line (codes "multics 3") then 3 else if is line (codes "multics 4") then 4 else 1

abbrev pub version_said : List ℕ → ℕ
version_said text = version_of_line (first_line text)
