-- An object's map as fields: GATE, then each definition as `d:SYMBOL:W`, then each link as `l:NAME$SYMBOL`.
use Rattle.std.specs.Prelude.{ℕ, Bool, ◌&&◌, nat_le, List, ◌∷◌, ◌++◌, map, is_none, codes}
use Rattle.std.specs.Fmt.{decimal}
use Rattle.std.specs.List.{list_all}
use Rattle.mx_sdw.specs.Octal.{octal}
use Rattle.mx_object.specs.Objects.{PlainObjectMap, map_fault}
use Rattle.mx_request.specs.Fields.{is_name}

-- a symbol and its word, which is octal
abbrev pub definition_text : List ℕ × ℕ → List ℕ
definition_text definition = codes "d:" ++ definition.0 ++ codes ":" ++ octal definition.1

-- a segment's name and a symbol of it
abbrev pub link_text : List ℕ × List ℕ → List ℕ
link_text link = codes "l:" ++ link.0 ++ codes "$" ++ link.1

abbrev pub object_fields : PlainObjectMap → List (List ℕ)
object_fields object = decimal object.gate ∷ map definition_text object.definitions ++ map link_text object.links

-- What the fields can say: GATE of at most four digits, symbols and segments that are entry names, words to octal
-- 37777; no symbol is defined twice, and there are at most 64 definitions and 64 links.
abbrev pub is_definition : List ℕ × ℕ → Bool
is_definition definition = is_name definition.0 && nat_le definition.1 16383

abbrev pub is_link : List ℕ × List ℕ → Bool
is_link link = is_name link.0 && is_name link.1

abbrev pub fits_object : PlainObjectMap → Bool
fits_object object =
    nat_le object.gate 9999
    && (list_all is_definition object.definitions && (list_all is_link object.links && is_none (map_fault object)))
