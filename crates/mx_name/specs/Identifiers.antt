-- Identifiers of access list entries: three components as a principal has them, each a literal or `*`.
use Rattle.std.specs.Prelude.{ℕ, ◌≡◌, ◌+◌, ◌==◌, Bool, true, ◌&&◌, List, [], ◌∷◌, Option, None, Result, Ok, Err, if◌then◌else◌, codes}
use Rattle.std.specs.List.{join_with_byte}
use Rattle.std.specs.Option.{option_or}
use Rattle.std.specs.Result.{result_ok, result_err}
use Rattle.std.specs.Cmp.Lexicographic.{pointwise}
use Rattle.mx_name.specs.declared.names.NameError.{NameError}
use Rattle.mx_name.specs.Names.{fault_of}
use Rattle.mx_name.specs.Answers.{judged}
use Rattle.mx_name.specs.Principals.{PlainPrincipal, is_principal_byte, spelled}

-- a component is every text, written `*`, or this text alone
pub data Component : Type 0 where
  Any : Component
  Literal : List ℕ → Component

-- an identifier's three components
pub record PlainAclId : Type 0 where
  pub person : Component
  pub project : Component
  pub tag : Component

-- a component as it is written, and as it is read
abbrev pub component_text : Component → List ℕ
component_text Any = codes "*"
component_text (Literal text) = text

abbrev pub component_of : List ℕ → Component
component_of text = if pointwise ◌==◌ text (codes "*") then Any else Literal text

-- a literal is bound as a principal's component is
abbrev pub component_fault : ℕ → Component → Option NameError
component_fault most Any = None
component_fault most (Literal text) = fault_of is_principal_byte most text

-- the first bad component
abbrev pub id_fault : PlainAclId → Option NameError
id_fault id =
    option_or (component_fault 22 id.person) (option_or (component_fault 9 id.project) (component_fault 1 id.tag))

-- what is true of every AclId
abbrev pub IsAclId : PlainAclId → Type 0
IsAclId id = id_fault id ≡ None

-- its components with a dot between each two
abbrev pub acl_id_text : PlainAclId → List ℕ
acl_id_text id = join_with_byte 46 (component_text id.person ∷ component_text id.project ∷ component_text id.tag ∷ [])

-- the three components of a text, as those of an identifier
abbrev pub id_parts : PlainPrincipal → PlainAclId
id_parts p = record { person = component_of p.person; project = component_of p.project; tag = component_of p.tag }

abbrev pub with_stars : Result PlainPrincipal NameError → Result PlainAclId NameError
with_stars (Err error) = Err error
with_stars (Ok p) = Ok (id_parts p)

-- what a text says as an identifier: it is not empty, it has exactly three components, and none of them is bad
abbrev pub acl_id_reading : List ℕ → Result PlainAclId NameError
acl_id_reading text = judged id_fault (with_stars (spelled text))

-- the first fault of a text as an identifier
abbrev pub acl_id_fault : List ℕ → Option NameError
acl_id_fault text = result_err (acl_id_reading text)

-- the identifier that a text without a fault spells
abbrev pub acl_id_of : List ℕ → Option PlainAclId
acl_id_of text = result_ok (acl_id_reading text)

-- `*` stands for every text, a literal for itself
abbrev pub component_matches : Component → List ℕ → Bool
component_matches Any text = true
component_matches (Literal own) text = pointwise ◌==◌ own text

-- an identifier matches a principal where each component does
abbrev pub id_matches : PlainAclId → PlainPrincipal → Bool
id_matches id who =
    component_matches id.person who.person && component_matches id.project who.project && component_matches id.tag who.tag

-- what `*` adds to the rank at its place
abbrev pub weight : ℕ → Component → ℕ
weight most Any = most
weight most (Literal text) = 0

-- 4 for `*` as the person, 2 as the project, 1 as the tag
abbrev pub id_rank : PlainAclId → ℕ
id_rank id = weight 4 id.person + weight 2 id.project + weight 1 id.tag

-- `Person.Project.*`, the identifier that a new branch gets for its maker
abbrev pub maker_id : PlainPrincipal → PlainAclId
maker_id who = record { person = Literal who.person; project = Literal who.project; tag = Any }
