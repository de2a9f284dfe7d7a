-- `list PATH`: the names of a directory's entries in byte order
use Rattle.std.specs.Prelude.{ℕ, Bool, true, not, List, [], ◌∷◌, map, Result, is_none, if◌then◌else◌}
use Rattle.std.specs.Cmp.Lexicographic.{slice_cmp}
use Rattle.std.specs.Ordering.{nat_cmp, is_lt}
use Rattle.mx_hier.specs.declared.refusals.Refusal.{Refusal}
use Rattle.mx_hier.specs.declared.refusals.Refusal.TheVariants.{NotADir, IncorrectAccess}
use Rattle.mx_hier.specs.Branches.{Hierarchy, entries_of, directory_at, holding}
use Rattle.mx_hier.specs.Callers.{Subject, Caller, has_status, on}
use Rattle.mx_hier.specs.Rules.{first_of, say, onward, unless}
use Rattle.mx_hier.specs.Walks.{entry}

abbrev pub placed : List ℕ → List (List ℕ) → List (List ℕ)
placed name [] = name ∷ []
placed name (next ∷ names) =
    if is_lt (slice_cmp nat_cmp next name) then next ∷ placed name names else name ∷ next ∷ names

abbrev pub in_byte_order : List (List ℕ) → List (List ℕ)
in_byte_order [] = []
in_byte_order (name ∷ names) = placed name (in_byte_order names)

abbrev pub names_in : Hierarchy → ℕ → List (List ℕ)
names_in hierarchy dir = map (λ branch. branch.name) (entries_of hierarchy.branches dir)

abbrev pub list_refusals : Hierarchy → Subject → ℕ → List (Bool × Refusal)
list_refusals hierarchy who uid =
    (is_none (directory_at hierarchy uid), say who NotADir (holding hierarchy uid))
    ∷ (not (on (has_status who) (directory_at hierarchy uid)), say who IncorrectAccess (holding hierarchy uid)) ∷ []

abbrev pub list_at : Hierarchy → Subject → ℕ → Result (List (List ℕ)) Refusal
list_at hierarchy who uid = unless (first_of (list_refusals hierarchy who uid)) (in_byte_order (names_in hierarchy uid))

abbrev pub list : Hierarchy → Caller → List ℕ → Result (List (List ℕ)) Refusal
list hierarchy who path = onward (entry hierarchy who path true) (λ uid. list_at hierarchy who.subject uid)
