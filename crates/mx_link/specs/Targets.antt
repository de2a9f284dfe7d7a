-- Where a link leads: the search rules find a segment under the link's segment name, and its object map has the word of
-- the link's symbol.
use Rattle.std.specs.Prelude.{ℕ, List, Option, Some, None, Result, Ok, Err}
use Rattle.mx_link.specs.declared.resolving.LinkError.{LinkError}
use Rattle.mx_link.specs.declared.resolving.LinkError.TheVariants.{SegmentNotFound, NotObject, NoDefinition}
use Rattle.mx_link.specs.declared.resolving.Target.{Target}
use Rattle.mx_object.specs.Objects.{PlainObjectMap, word_of}
use Rattle.mx_search.specs.Searching.{answers, first_found}
use Rattle.mx_search.specs.declared.rules.Rule.{Rule}
use Rattle.mx_search.specs.declared.searching.Found.{Found}

-- at the symbol's word of the segment that was found
abbrev pub at_word : Found → Option ℕ → Result Target LinkError
at_word found None = Err NoDefinition
at_word found (Some word) = Ok (record { found = found; word = word })

-- by the object map of that segment
abbrev pub in_object : Found → Option PlainObjectMap → List ℕ → Result Target LinkError
in_object found None symbol = Err NotObject
in_object found (Some object) symbol = at_word found (word_of object symbol)

-- by the segment that was found, if any, where each has this object map
abbrev pub in_segment : (Found → Option PlainObjectMap) → Option Found → List ℕ → Result Target LinkError
in_segment object_of None symbol = Err SegmentNotFound
in_segment object_of (Some found) symbol = in_object found (object_of found) symbol

-- the target of a link to a symbol of a segment, by these rules, where each rule answers so: in the segment that the
-- first rule finds, and in no other
abbrev pub target : (Rule → List ℕ → Option Found) → (Found → Option PlainObjectMap) → List Rule → List ℕ → List ℕ
    → Result Target LinkError
target answer object_of rules segment symbol =
    in_segment object_of (first_found (answers answer rules segment)) symbol
