-- The same in words of single rules and definitions.
use Rattle.std.specs.Prelude.{◌≡◌, ℕ, List, slice_get, Option, Some, None}
use Rattle.mx_link.specs.declared.resolving.Target.{Target}
use Rattle.mx_object.specs.Objects.{PlainObjectMap, Defines}
use Rattle.mx_search.specs.Searching.{answers, IsFirstFound}
use Rattle.mx_search.specs.declared.rules.Rule.{Rule}
use Rattle.mx_search.specs.declared.searching.Found.{Found}

-- no rule finds anything under the name
abbrev pub FindsNothing : (Rule → List ℕ → Option Found) → List Rule → List ℕ → Type 0
FindsNothing answer rules segment =
    (place : ℕ) (rule : Rule) → slice_get rules place ≡ Some rule → answer rule segment ≡ None

-- a rule finds the target's segment, no rule before it finds anything, and the segment's object map defines the symbol
-- with the target's word
pub record LeadsTo (answer : Rule → List ℕ → Option Found) (object_of : Found → Option PlainObjectMap)
    (rules : List Rule) (segment symbol : List ℕ) (to : Target) : Type 0 where
  pub first : IsFirstFound (answers answer rules segment) to.found
  pub object : PlainObjectMap
  pub has : object_of to.found ≡ Some object
  pub defines : Defines object symbol to.word
