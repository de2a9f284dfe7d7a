-- For the search rules: the segment that a name leads to in a directory, following links. What is no segment, or one of
-- which no access is left to the caller, is passed over, and so is every refusal of the walk.
use Rattle.std.specs.Prelude.{ℕ, List, [], ◌∷◌, ◌++◌, true, Option, Some, None, Result, Ok, Err, if◌then◌else◌}
use Rattle.mx_hier.specs.declared.branches.Directory.{Directory}
use Rattle.mx_hier.specs.declared.refusals.Refusal.{Refusal}
use Rattle.mx_hier.specs.Branches.{Hierarchy, segment_at}
use Rattle.mx_hier.specs.Callers.{Subject, has_access, on}
use Rattle.mx_hier.specs.Walks.{walk}

abbrev pub accessible : Hierarchy → Subject → Result ℕ (Refusal × Option Directory) → Option ℕ
accessible hierarchy who (Ok uid) = if on (has_access who) (segment_at hierarchy uid) then Some uid else None
accessible hierarchy who (Err refusal) = None

-- in the directory of a uid: ten links may be followed
abbrev pub find_in : Hierarchy → Subject → ℕ → List ℕ → Option ℕ
find_in hierarchy who dir name = accessible hierarchy who (walk 10 hierarchy true dir (name ∷ []))

-- at a path from the root
abbrev pub find_along : Hierarchy → Subject → List (List ℕ) → Option ℕ
find_along hierarchy who path = accessible hierarchy who (walk 10 hierarchy true 0 path)

-- in the directory at a path: the path and the name are one walk from the root, with one count of links
abbrev pub find_at : Hierarchy → Subject → List (List ℕ) → List ℕ → Option ℕ
find_at hierarchy who path name = accessible hierarchy who (walk 10 hierarchy true 0 (path ++ name ∷ []))
