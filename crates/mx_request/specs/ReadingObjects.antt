-- Helpers that only private contracts cite: what the fields of an object's map are read as, from GATE on.
use Rattle.std.specs.Prelude.{◌≡◌, ℕ, zero, suc, ◌==◌, List, [], ◌∷◌, ◌++◌, length, Option, None, Some, Result, Ok, Err, IsErr, codes, if◌then◌else◌}
use Rattle.std.specs.Cmp.Lexicographic.{pointwise}
use Rattle.std.specs.Result.{result_ok}
use Rattle.std.specs.declared.alloc.AllocError.{AllocError}
use Rattle.mx_name.specs.Cuts.{cut_at}
use Rattle.mx_name.specs.Names.{name_of}
use Rattle.mx_object.specs.Objects.{PlainObjectMap, object_map, of_gates}
use Rattle.mx_object.specs.declared.objects.ObjectError.{ObjectError}
use Rattle.mx_object.specs.declared.objects.ObjectError.TheVariants.{Twice, TooMany, Memory}
use Rattle.mx_request.specs.declared.reading.objects.Parts.{Parts}
use Rattle.mx_request.specs.Decimals.{decimal_number}
use Rattle.mx_request.specs.Steps.{◌>>=◌, when}
use Rattle.mx_request.specs.WordNumbers.{word_number_of}

-- `SYMBOL:W`
abbrev pub definition_at : List ℕ → Option (List ℕ × ℕ)
definition_at text =
    cut_at 58 text >>= λ p.
    name_of p.0 >>= λ symbol.
    word_number_of p.1 >>= λ word.
    Some (symbol, word)

-- `NAME$SYMBOL`
abbrev pub object_link_at : List ℕ → Option (List ℕ × List ℕ)
object_link_at text =
    cut_at 36 text >>= λ p.
    name_of p.0 >>= λ name.
    name_of p.1 >>= λ symbol.
    Some (name, symbol)

-- one more definition, where there is no link yet
abbrev pub with_definition : Parts → List ℕ → Option Parts
with_definition parts text =
    when (length parts.links == 0) text >>= λ text.
    definition_at text >>= λ definition.
    Some (record { definitions = parts.definitions ++ definition ∷ []; links = parts.links })

-- one more link
abbrev pub with_link : Parts → List ℕ → Option Parts
with_link parts text =
    object_link_at text >>= λ link.
    Some (record { definitions = parts.definitions; links = parts.links ++ link ∷ [] })

-- what one more field adds
abbrev pub with_field : Parts → List ℕ → Option Parts
with_field parts field =
    cut_at 58 field >>= λ p.
    if pointwise ◌==◌ p.0 (codes "d") then with_definition parts p.1
    else (if pointwise ◌==◌ p.0 (codes "l") then with_link parts p.1 else None)

-- what fields add, with a blank between each two, and at most so many
abbrev pub with_fields_by : Parts → List ℕ → Option (List ℕ × List ℕ) → (Parts → List ℕ → Option Parts) → Option Parts
with_fields_by parts text None more = with_field parts text
with_fields_by parts text (Some p) more = with_field parts p.0 >>= λ next. more next p.1

unfoldable pub with_fields : ℕ → Parts → List ℕ → Option Parts
with_fields zero parts text = None
with_fields (suc left) parts text = with_fields_by parts text (cut_at 32 text) (with_fields left)

abbrev pub no_parts : Parts
no_parts = record { definitions = []; links = [] }

-- GATE, and the fields behind it
abbrev pub object_by : List ℕ → Option (List ℕ × List ℕ) → Option PlainObjectMap
object_by text None = decimal_number 4 text >>= λ gate. Some (of_gates gate)
object_by text (Some p) =
    decimal_number 4 p.0 >>= λ gate.
    with_fields 128 no_parts p.1 >>= λ parts.
    result_ok (object_map (record { gate = gate; definitions = parts.definitions; links = parts.links }))

abbrev pub object_at : List ℕ → Option PlainObjectMap
object_at text = object_by text (cut_at 32 text)

-- a line whose parts make no map says nothing; where memory was wanting, that is told and nothing else
abbrev pub ReadsMap : Result PlainObjectMap ObjectError → Result (Option PlainObjectMap) AllocError → Type 0
ReadsMap (Ok object) result = result ≡ Ok (Some object)
ReadsMap (Err Twice) result = result ≡ Ok None
ReadsMap (Err TooMany) result = result ≡ Ok None
ReadsMap (Err Memory) result = IsErr result
