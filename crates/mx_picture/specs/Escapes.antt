-- Texts within a page: byte for byte, with the few that have a meaning there spelled in another way.
use Rattle.std.specs.Prelude.{ℕ, ◌==◌, nat_lt, Bool, if◌then◌else◌, ◌&&◌, ◌||◌, not, List, [], ◌∷◌, ◌++◌, codes}
use Rattle.std.specs.List.{flat_map}

-- a byte as HTML has it
abbrev pub entity : ℕ → List ℕ
entity byte =
    if byte == 60 then codes "&lt;"
    else if byte == 62 then codes "&gt;"
    else if byte == 38 then codes "&amp;"
    else byte ∷ []

abbrev pub escaped : List ℕ → List ℕ
escaped text = flat_map entity text

-- a byte within a string of JSON
abbrev pub quoted_byte : ℕ → List ℕ
quoted_byte byte =
    if byte == 34 then codes "\\\""
    else if byte == 92 then codes "\\\\"
    else if byte == 60 then codes "\\u003c"
    else if nat_lt 31 byte && nat_lt byte 127 then byte ∷ []
    else codes "."

abbrev pub quoted : List ℕ → List ℕ
quoted text = codes "\"" ++ flat_map quoted_byte text ++ codes "\""

-- it begins no tag
abbrev pub begins_no_tag : ℕ → Bool
begins_no_tag byte = not (byte == 60)

-- it neither begins nor ends a tag
abbrev pub is_no_mark : ℕ → Bool
is_no_mark byte = not (byte == 60 || byte == 62)
