-- Search rules: where a segment is looked for, in order.
use Rattle.std.specs.Prelude.{◌≤◌, ◌&&◌, nat_le, List, [], ◌∷◌, length, Option, None, Some, if◌then◌else◌, codes}
use Rattle.mx_search.specs.declared.rules.Rule.{Rule}
use Rattle.mx_search.specs.declared.rules.Rule.TheVariants.{InitiatedSegments, ReferencingDir, WorkingDir, Directory}

-- what is true of every list of search rules
pub record AreRules (rules : List Rule) : Type 0 where
  pub some : 1 ≤ length rules
  pub within : length rules ≤ 16

-- a list of 1 to 16 rules is one of search rules
abbrev pub rules_of : List Rule → Option (List Rule)
rules_of rules = if nat_le 1 (length rules) && nat_le (length rules) 16 then Some rules else None

-- the rules with which a process starts
abbrev pub opening_rules : List Rule
opening_rules = InitiatedSegments ∷ ReferencingDir ∷ WorkingDir ∷ Directory (codes "system_library_standard" ∷ []) ∷ []
