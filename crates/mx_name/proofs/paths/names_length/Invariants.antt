use Rattle.std.proofs.Common.{◌≡◌, ◌+◌, length, drop}
use Rattle.mx_name.specs.Paths.{names_text}
use Rattle.mx_name.proofs.paths.names_length.Given as goal

-- the names so far and those that are left have the length of all
abbrev pub invariant-loop-name : goal.invariant-loop-name
invariant-loop-name l = l.length + length (names_text (drop l.name-index l.names)) ≡ length (names_text l.names)
