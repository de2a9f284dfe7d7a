-- Where a link leads, and why it leads nowhere.
use Rattle.std.proofs.Common.{◌≡◌, ◌↔◌, ℕ, zero, suc, List, [], ◌∷◌, Option, Some, None, Result, Ok, Err, refl, ap, sym, ◌∙◌, subst}
use Rattle.mx_link.specs.Leading.{FindsNothing, LeadsTo}
use Rattle.mx_link.specs.Targets.{at_word, in_object, in_segment, target}
use Rattle.mx_link.specs.declared.resolving.LinkError.TheVariants.{SegmentNotFound, NotObject, NoDefinition}
use Rattle.mx_link.specs.declared.resolving.Target.{Target}
use Rattle.mx_object.proofs.DefinitionLaws.{answer_defines}
use Rattle.mx_object.specs.Objects.{PlainObjectMap, IsObjectMap, Defines, word_of}
use Rattle.mx_search.proofs.SearchLaws.{first_is}
use Rattle.mx_search.specs.Searching.{answers, first_found, IsFirstFound}
use Rattle.mx_search.specs.declared.rules.Rule.{Rule}
use Rattle.mx_search.specs.declared.searching.Found.{Found}

ok_is : {A E : Type 0} (a b : A) → ◌≡◌ {A = Result A E} (Ok a) (Ok b) → a ≡ b
ok_is a b e = cc

-- a symbol's word is what its definitions say
defined : (object : PlainObjectMap) (symbol : List ℕ) → IsObjectMap object → (word : ℕ)
    → (word_of object symbol ≡ Some word) ↔ Defines object symbol word
defined object symbol is word = answer_defines object symbol (word_of object symbol) is.once refl word

module _ (answer : Rule → List ℕ → Option Found) (segment : List ℕ) where
  -- no rule finds anything
  nothing : (rules : List Rule) → first_found (answers answer rules segment) ≡ None → FindsNothing answer rules segment
  nothing [] e = λ place rule at. cc
  nothing (first ∷ rules) e = by_first (answer first segment) refl e (λ later. nothing rules later)
    where
      by_first : (o : Option Found) → answer first segment ≡ o → first_found (o ∷ answers answer rules segment) ≡ None
          → (first_found (answers answer rules segment) ≡ None → FindsNothing answer rules segment)
          → FindsNothing answer (first ∷ rules) segment
      by_first (Some found) a e none_later place rule at = cc
      by_first None a e none_later zero rule at =
          let same : first ≡ rule = cc in ap (λ r. answer r segment) (sym same) ∙ a
      by_first None a e none_later (suc place) rule at = none_later e place rule at

  none_found : (rules : List Rule) → FindsNothing answer rules segment
      → first_found (answers answer rules segment) ≡ None
  none_found [] none = refl
  none_found (first ∷ rules) none =
      rw (none 0 first refl) (none_found rules (λ place rule at. none (suc place) rule at))

module _ (answer : Rule → List ℕ → Option Found) (object_of : Found → Option PlainObjectMap) (rules : List Rule)
    (segment symbol : List ℕ) where
  abbrev given : List (Option Found)
  given = answers answer rules segment

  -- the segment that is found first decides
  by_found : (found : Found) → IsFirstFound given found
      → target answer object_of rules segment symbol ≡ in_object found (object_of found) symbol
  by_found found first = ap (λ o. in_segment object_of o symbol) ((first_is given found).1 first)

  pub leads : (to : Target) → ((found : Found) (object : PlainObjectMap) → object_of found ≡ Some object
      → IsObjectMap object)
      → (target answer object_of rules segment symbol ≡ Ok to) ↔ LeadsTo answer object_of rules segment symbol to
  leads to maps = (by_first (first_found given) refl, back)
    where
      by_word : (found : Found) (object : PlainObjectMap) → first_found given ≡ Some found
          → object_of found ≡ Some object
          → (o : Option ℕ) → word_of object symbol ≡ o → at_word found o ≡ Ok to
          → LeadsTo answer object_of rules segment symbol to
      by_word found object first has None w e = absurd cc
      by_word found object first has (Some word) w e =
          subst (LeadsTo answer object_of rules segment symbol) (ok_is (record { found = found; word = word }) to e)
          (record {
            first = (first_is given found).0 first;
            object = object;
            has = has;
            defines = (defined object symbol (maps found object has) word).0 w;
          })

      by_object : (found : Found) → first_found given ≡ Some found → (o : Option PlainObjectMap) → object_of found ≡ o
          → in_object found o symbol ≡ Ok to → LeadsTo answer object_of rules segment symbol to
      by_object found first None has e = absurd cc
      by_object found first (Some object) has e = by_word found object first has (word_of object symbol) refl e

      by_first : (o : Option Found) → first_found given ≡ o → in_segment object_of o symbol ≡ Ok to
          → LeadsTo answer object_of rules segment symbol to
      by_first None first e = absurd cc
      by_first (Some found) first e = by_object found first (object_of found) refl e

      back : LeadsTo answer object_of rules segment symbol to → target answer object_of rules segment symbol ≡ Ok to
      back to_there =
          by_found to.found to_there.first
          ∙ ap (λ o. in_object to.found o symbol) to_there.has
          ∙ ap (at_word to.found)
          ((defined to_there.object symbol (maps to.found to_there.object to_there.has) to.word).1 to_there.defines)

  pub not_found : (target answer object_of rules segment symbol ≡ Err SegmentNotFound)
      ↔ FindsNothing answer rules segment
  not_found = (
    by_first (first_found given) refl,
    λ none. ap (λ o. in_segment object_of o symbol)
        (none_found answer segment rules none),
  )
    where
      by_word : (found : Found) (o : Option ℕ) → at_word found o ≡ Err SegmentNotFound → ⊥
      by_word found None e = cc
      by_word found (Some word) e = cc

      by_object : (found : Found) (o : Option PlainObjectMap) → in_object found o symbol ≡ Err SegmentNotFound → ⊥
      by_object found None e = cc
      by_object found (Some object) e = by_word found (word_of object symbol) e

      by_first : (o : Option Found) → first_found given ≡ o → in_segment object_of o symbol ≡ Err SegmentNotFound
          → FindsNothing answer rules segment
      by_first None first e = nothing answer segment rules first
      by_first (Some found) first e = absurd (by_object found (object_of found) e)

  pub no_object : (found : Found) → IsFirstFound given found
      → (target answer object_of rules segment symbol ≡ Err NotObject) ↔ (object_of found ≡ None)
  no_object found first = (
    λ e. told (object_of found) refl (sym (by_found found first) ∙ e),
    λ none. by_found found first ∙ ap (λ o. in_object found o symbol) none,
  )
    where
      by_word : (o : Option ℕ) → at_word found o ≡ Err NotObject → ⊥
      by_word None e = cc
      by_word (Some word) e = cc

      told : (o : Option PlainObjectMap) → object_of found ≡ o → in_object found o symbol ≡ Err NotObject
          → object_of found ≡ None
      told None has e = has
      told (Some object) has e = absurd (by_word (word_of object symbol) e)

  pub no_definition : (found : Found) (object : PlainObjectMap) → IsFirstFound given found
      → object_of found ≡ Some object
      → IsObjectMap object
      → (target answer object_of rules segment symbol ≡ Err NoDefinition)
      ↔ ((word : ℕ) → Defines object symbol word → ⊥)
  no_definition found object first has is = (
    λ e word defines. told (word_of object symbol) word ((defined object symbol is word).1 defines) (sym there ∙ e),
    λ none. there ∙ back (word_of object symbol) refl none,
  )
    where
      there : target answer object_of rules segment symbol ≡ at_word found (word_of object symbol)
      there = by_found found first ∙ ap (λ o. in_object found o symbol) has

      told : (o : Option ℕ) (word : ℕ) → o ≡ Some word → at_word found o ≡ Err NoDefinition → ⊥
      told None word some e = cc
      told (Some other) word some e = cc

      back : (o : Option ℕ) → word_of object symbol ≡ o → ((word : ℕ) → Defines object symbol word → ⊥)
          → at_word found o ≡ Err NoDefinition
      back None w none = refl
      back (Some word) w none = absurd (none word ((defined object symbol is word).0 w))
