-- Principals: `Person.Project.tag`.
use Rattle.std.specs.Prelude.{ℕ, ◌≡◌, ◌==◌, Bool, ◌||◌, List, [], ◌∷◌, Option, None, Result, Ok, Err, if◌then◌else◌, length}
use Rattle.std.specs.List.{slice_split, join_with_byte}
use Rattle.std.specs.Option.{option_or}
use Rattle.std.specs.Result.{result_ok, result_err}
use Rattle.std.specs.Char.{is_ascii_alphanumeric}
use Rattle.mx_name.specs.declared.names.NameError.{NameError}
use Rattle.mx_name.specs.declared.names.NameError.TheVariants.{Empty, BadChar}
use Rattle.mx_name.specs.Answers.{judged}
use Rattle.mx_name.specs.Names.{fault_of}

-- letters, digits and `_` (this model's choice)
abbrev pub is_principal_byte : ℕ → Bool
is_principal_byte byte = is_ascii_alphanumeric byte || byte == 95

-- a principal's three components
pub record PlainPrincipal : Type 0 where
  pub person : List ℕ
  pub project : List ℕ
  pub tag : List ℕ

-- the first bad component: a person has 1 to 22 characters, a project 1 to 9, a tag 1 (this model's choice)
abbrev pub components_fault : PlainPrincipal → Option NameError
components_fault p =
    option_or (fault_of is_principal_byte 22 p.person)
    (option_or (fault_of is_principal_byte 9 p.project) (fault_of is_principal_byte 1 p.tag))

-- what is true of every Principal
abbrev pub IsPrincipal : PlainPrincipal → Type 0
IsPrincipal p = components_fault p ≡ None

-- its components with a dot between each two
abbrev pub principal_text : PlainPrincipal → List ℕ
principal_text p = join_with_byte 46 (p.person ∷ p.project ∷ p.tag ∷ [])

-- exactly three components
abbrev pub three : List (List ℕ) → Result PlainPrincipal NameError
three (person ∷ project ∷ tag ∷ []) = Ok (record { person = person; project = project; tag = tag })
three _ = Err BadChar

-- the components of a text, which is not empty and has exactly three
abbrev pub spelled : List ℕ → Result PlainPrincipal NameError
spelled text = if length text == 0 then Err Empty else three (slice_split (λ byte. byte == 46) text)

-- what a text says as a principal: it is not empty, it has exactly three components, and none of them is bad
abbrev pub principal_reading : List ℕ → Result PlainPrincipal NameError
principal_reading text = judged components_fault (spelled text)

-- the first fault of a text as a principal
abbrev pub principal_fault : List ℕ → Option NameError
principal_fault text = result_err (principal_reading text)

-- the principal that a text without a fault spells
abbrev pub principal_of : List ℕ → Option PlainPrincipal
principal_of text = result_ok (principal_reading text)
