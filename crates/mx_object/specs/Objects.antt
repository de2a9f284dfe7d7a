-- Object maps: the words of an object segment that are gates, the words that its symbols stand for, and its links.
use Rattle.std.specs.Prelude.{◌≡◌, ℕ, ◌≤◌, Bool, false, ◌||◌, nat_lt, List, [], ◌∷◌, length, Option, None, Some, Result, if◌then◌else◌}
use Rattle.std.specs.List.{list_any, Contains, slice_get}
use Rattle.std.specs.Map.{lookup, keys_of}
use Rattle.mx_name.specs.Answers.{unless}
use Rattle.mx_name.specs.Names.{same_name}
use Rattle.mx_object.specs.declared.objects.ObjectError.{ObjectError}
use Rattle.mx_object.specs.declared.objects.ObjectError.TheVariants.{Twice, TooMany}

-- so many words from 0 on are gates; each definition is a symbol and its word;
-- each link is a segment's name and a symbol
pub record PlainObjectMap : Type 0 where
  pub gate : ℕ
  pub definitions : List (List ℕ × ℕ)
  pub links : List (List ℕ × List ℕ)

-- the symbols that are defined, in their order
abbrev pub symbols_of : List (List ℕ × ℕ) → List (List ℕ)
symbols_of definitions = keys_of definitions

-- a name stands again further on
abbrev pub has_twice : List (List ℕ) → Bool
has_twice [] = false
has_twice (name ∷ names) = list_any (same_name name) names || has_twice names

-- what is true of every object map: no symbol is defined twice, and there are at most 64 definitions and 64 links
pub record IsObjectMap (object : PlainObjectMap) : Type 0 where
  pub once : has_twice (symbols_of object.definitions) ≡ false
  pub definitions_within : length object.definitions ≤ 64
  pub links_within : length object.links ≤ 64

-- what is wrong with the parts of a map: a symbol is defined twice; else a list has more than 64
abbrev pub map_fault : PlainObjectMap → Option ObjectError
map_fault object =
    if has_twice (symbols_of object.definitions) then Some Twice
    else (if nat_lt 64 (length object.definitions) || nat_lt 64 (length object.links) then Some TooMany else None)

-- the object map of these parts, or what is wrong with them
abbrev pub object_map : PlainObjectMap → Result PlainObjectMap ObjectError
object_map object = unless (map_fault object) object

-- the map of an object with so many gates, which defines nothing and has no links
abbrev pub of_gates : ℕ → PlainObjectMap
of_gates gate = record { gate = gate; definitions = []; links = [] }

-- the word with which a symbol is defined
abbrev pub word_of : PlainObjectMap → List ℕ → Option ℕ
word_of object symbol = lookup (same_name symbol) object.definitions

-- the link of a number, counted from 0
abbrev pub link_of : PlainObjectMap → ℕ → Option (List ℕ × List ℕ)
link_of object number = slice_get object.links number

-- the symbol is defined with this word
abbrev pub Defines : PlainObjectMap → List ℕ → ℕ → Type 0
Defines object symbol word = Contains object.definitions (symbol, word)
