-- Helpers that only private contracts cite: the parts of a text between separators, and the components in it.
use Rattle.std.specs.Prelude.{ℕ, ◌==◌, List, [], ◌∷◌, ◌++◌, Option, None, Some, Result, Ok, Err}
use Rattle.std.specs.List.{slice_split}
use Rattle.mx_name.specs.declared.names.NameError.{NameError}
use Rattle.mx_name.specs.declared.principals.Parts.{Parts}
use Rattle.mx_name.specs.Principals.{PlainPrincipal}

-- the parts of a text between such bytes, where it is cut at the first one so
abbrev pub parts_by : ℕ → List ℕ → Option (List ℕ × List ℕ) → List (List ℕ)
parts_by byte text None = text ∷ []
parts_by byte text (Some p) = p.0 ∷ slice_split (λ c. c == byte) p.1

-- the same, where it is cut at the last one so
abbrev pub parts_to : ℕ → List ℕ → Option (List ℕ × List ℕ) → List (List ℕ)
parts_to byte text None = text ∷ []
parts_to byte text (Some p) = slice_split (λ c. c == byte) p.0 ++ p.1 ∷ []

-- the names in a text, where it has some
abbrev pub names_in : Option (List ℕ) → List (List ℕ)
names_in None = []
names_in (Some names) = slice_split (λ c. c == 62) names

-- the components as texts
abbrev pub plain : Parts → PlainPrincipal
plain parts = record { person = parts.person.now; project = parts.project.now; tag = parts.tag.now }

-- the same of an answer
abbrev pub spelling : Result Parts NameError → Result PlainPrincipal NameError
spelling (Ok parts) = Ok (plain parts)
spelling (Err e) = Err e
