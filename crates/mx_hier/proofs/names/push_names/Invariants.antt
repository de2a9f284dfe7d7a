use Rattle.std.proofs.Common.{◌≡◌, ◌++◌, drop}
use Rattle.std.specs.List.{list_all}
use Rattle.mx_name.specs.Names.{is_free}
use Rattle.mx_hier.specs.NameTexts.{behind_blanks}
use Rattle.mx_hier.proofs.names.push_names.Given as goal

-- what is written so far and the names that are left make up all of them, and none so far has a blank
abbrev pub invariant-loop-name : goal.invariant-loop-name
invariant-loop-name l =
    (l.text.items ++ behind_blanks (drop l.name-index l.names) ≡ l.fn.text.items ++ behind_blanks l.names)
    × (list_all (is_free 32) l.names ≡ list_all (is_free 32) (drop l.name-index l.names))
