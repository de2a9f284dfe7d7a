-- What stands behind the fields of an object: definitions of different symbols, and then links, at most 64 of either.
use Rattle.std.specs.Prelude.{◌≡◌, ◌≤◌, ℕ, Bool, true, not, ◌&&◌, List, [], ◌∷◌, length, map, is_some, if◌then◌else◌, codes}
use Rattle.std.specs.List.{list_all, list_any}
use Rattle.mx_name.specs.Cuts.{cut_at}
use Rattle.mx_script.specs.Fronts.{after}
use Rattle.mx_lint.specs.Fields.{is, is_definition_text, is_object_link_text}
use Rattle.mx_lint.specs.Pieces.{front_or, rest_or}
use Rattle.mx_lint.specs.declared.fields.Field.{Field}
use Rattle.mx_lint.specs.declared.fields.Field.TheVariants.{Definition, ObjectLink, DefinitionOrLink}

-- what a text there is to be: its front says whether a definition or a link
abbrev pub item_field : List ℕ → Field
item_field text = if is_some (after (codes "d:") text) then Definition else if is_some (after (codes "l:") text) then ObjectLink else DefinitionOrLink

-- the symbol of a definition: what stands between its colons
abbrev pub symbol_of : List ℕ → List ℕ
symbol_of text = front_or (rest_or text (cut_at 58 text)) (cut_at 58 (rest_or text (cut_at 58 text)))

-- no two are the same
abbrev pub are_different : List (List ℕ) → Bool
are_different [] = true
are_different (symbol ∷ symbols) = not (list_any (is symbol) symbols) && are_different symbols

pub record AreItems (definitions links : List (List ℕ)) : Type 0 where
  pub are_definitions : list_all is_definition_text definitions ≡ true
  pub are_links : list_all is_object_link_text links ≡ true
  pub differ : are_different (map symbol_of definitions) ≡ true
  pub few_definitions : length definitions ≤ 64
  pub few_links : length links ≤ 64
