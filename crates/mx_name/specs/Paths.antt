-- Paths: the names from the root down, and what a pathname stands for from a base.
use Rattle.std.specs.Prelude.{ℕ, ◌-◌, nat_lt, List, [], ◌∷◌, ◌++◌, take, Option, None, Some, if◌then◌else◌, length, codes, ◌≡◌, ◌≤◌, Result}
use Rattle.std.specs.List.{flat_map}
use Rattle.mx_name.specs.declared.paths.PathError.{PathError}
use Rattle.mx_name.specs.declared.paths.PathError.TheVariants.{AboveRoot, TooLong}
use Rattle.mx_name.specs.Answers.{unless}
use Rattle.mx_name.specs.Pathnames.{is_absolute, climbs, names_of, first_fault}

-- `>` before each name
abbrev pub names_text : List (List ℕ) → List ℕ
names_text names = flat_map (λ name. 62 ∷ name) names

-- a path's text: so, and `>` alone for the root
abbrev pub path_text : List (List ℕ) → List ℕ
path_text [] = codes ">"
path_text (name ∷ names) = names_text (name ∷ names)

-- what is true of every Path
pub record IsPath (names : List (List ℕ)) : Type 0 where
  pub within : length (path_text names) ≤ 168
  pub names_fit : first_fault names ≡ None

-- what is left of the base: nothing for an absolute pathname; a relative one takes off as many last names as it has `<`
abbrev pub kept : List (List ℕ) → List ℕ → List (List ℕ)
kept base text = if is_absolute text then [] else take (length base - climbs text) base

-- the names that a pathname stands for, from a base
abbrev pub resolved : List (List ℕ) → List ℕ → List (List ℕ)
resolved base text = kept base text ++ names_of text

-- more `<` than names in the base lead above the root; else the path has at most 168 bytes
abbrev pub resolve_fault : List (List ℕ) → List ℕ → Option PathError
resolve_fault base text =
    if nat_lt (length base) (climbs text) then Some AboveRoot
    else (if nat_lt 168 (length (path_text (resolved base text))) then Some TooLong else None)

-- what a pathname means from a base: its path, or why it has none
abbrev pub resolution : List (List ℕ) → List ℕ → Result (List (List ℕ)) PathError
resolution base text = unless (resolve_fault base text) (resolved base text)
