-- The maps of object segments, each with the uid of its segment, in the order of their making. They stand beside the
-- branches: a map stays when its segment is deleted, for the linkage sections that were made of it.
use Rattle.std.specs.Prelude.{ℕ, ◌==◌, List, [], ◌∷◌, ◌++◌, Option, Some, None}
use Rattle.std.specs.Map.{lookup}
use Rattle.mx_object.specs.Objects.{PlainObjectMap, word_of}

abbrev pub Objects : Type 0
Objects = List (ℕ × PlainObjectMap)

-- the map of a uid: what has none is no object
abbrev pub object_of : Objects → ℕ → Option PlainObjectMap
object_of objects uid = lookup (λ other. uid == other) objects

-- with the map of a uid more, where there is one
abbrev pub with_object : Objects → ℕ → Option PlainObjectMap → Objects
with_object objects uid None = objects
with_object objects uid (Some object) = objects ++ (uid, object) ∷ []

-- how many words from 0 on are gates: none where there is no map
abbrev pub gate_of : Option PlainObjectMap → ℕ
gate_of None = 0
gate_of (Some object) = object.gate

-- the word with which a symbol is defined: with none where there is no map
abbrev pub defined_in : Option PlainObjectMap → List ℕ → Option ℕ
defined_in None symbol = None
defined_in (Some object) symbol = word_of object symbol
