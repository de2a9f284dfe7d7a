-- The fields of the lines of a session text: which texts can stand in each, by the readers' own definitions.
use Rattle.std.specs.Prelude.{ℕ, ◌==◌, Bool, false, not, ◌&&◌, ◌||◌, List, Option, Some, None, is_some, codes}
use Rattle.std.specs.Cmp.Lexicographic.{pointwise}
use Rattle.mx_acl.specs.Modes.{modes_of_text}
use Rattle.mx_aim.specs.Classes.{class_of_text}
use Rattle.mx_name.specs.Identifiers.{acl_id_of}
use Rattle.mx_name.specs.Names.{name_of}
use Rattle.mx_name.specs.Pathnames.{pathname_of}
use Rattle.mx_name.specs.Principals.{principal_of}
use Rattle.mx_request.specs.Decimals.{decimal_number}
use Rattle.mx_request.specs.Reading.{ring_at, rule_at}
use Rattle.mx_request.specs.ReadingObjects.{definition_at, object_link_at}
use Rattle.mx_request.specs.RequestTexts.{is_process_number}
use Rattle.mx_request.specs.Steps.{◌>>=◌}
use Rattle.mx_script.specs.Fields.{operand_at}
use Rattle.mx_script.specs.Fronts.{after}
use Rattle.mx_script.specs.Sessions.{is_history}
use Rattle.mx_sdw.specs.Octal.{octal_number}
use Rattle.mx_lint.specs.declared.fields.Field.{Field}
use Rattle.mx_lint.specs.declared.fields.Field.TheVariants.{Version, Limit, Principal, Authorization, Class, Path, Target, Words, R1, R2, R3, D1, D2, Gate, Definition, ObjectLink, DefinitionOrLink, Name, Id, Modes, Rule, Segno, Receiver, Word, Register, Operand}

-- a number that is read, of which this holds
abbrev pub is_number : Option ℕ → (ℕ → Bool) → Bool
is_number None holds = false
is_number (Some n) holds = holds n

-- whether a text is this one
abbrev pub is : List ℕ → List ℕ → Bool
is text other = pointwise ◌==◌ text other

abbrev pub is_limit_text : List ℕ → Bool
is_limit_text text = is_number (decimal_number 6 text) is_history

abbrev pub is_receiver_text : List ℕ → Bool
is_receiver_text text = is_number (decimal_number 2 text) is_process_number

-- what one can say behind `d:` and `l:`
abbrev pub is_definition_text : List ℕ → Bool
is_definition_text text = is_some (after (codes "d:") text >>= definition_at)

abbrev pub is_object_link_text : List ℕ → Bool
is_object_link_text text = is_some (after (codes "l:") text >>= object_link_at)

-- versions are 1, 2, 3 and 4
abbrev pub is_version_text : List ℕ → Bool
is_version_text text = is text (codes "1") || is text (codes "2") || is text (codes "3") || is text (codes "4")

-- the text can stand in the field; a process line leaves out the lowest class
abbrev pub is_field : Field → List ℕ → Bool
is_field Version text = is_version_text text
is_field Limit text = is_limit_text text
is_field Principal text = is_some (principal_of text)
is_field Authorization text = is_some (class_of_text text) && not (is text (codes "0:0"))
is_field Class text = is_some (class_of_text text)
is_field Path text = is_some (pathname_of text)
is_field Target text = is_some (pathname_of text)
is_field Words text = is_some (decimal_number 5 text)
is_field R1 text = is_some (ring_at text)
is_field R2 text = is_some (ring_at text)
is_field R3 text = is_some (ring_at text)
is_field D1 text = is_some (ring_at text)
is_field D2 text = is_some (ring_at text)
is_field Gate text = is_some (decimal_number 4 text)
is_field Definition text = is_definition_text text
is_field ObjectLink text = is_object_link_text text
is_field DefinitionOrLink text = is_definition_text text || is_object_link_text text
is_field Name text = is_some (name_of text)
is_field Id text = is_some (acl_id_of text)
is_field Modes text = is_some (modes_of_text text)
is_field Rule text = is_some (rule_at text)
is_field Segno text = is_some (octal_number 4 text)
is_field Receiver text = is_receiver_text text
is_field Word text = is_some (octal_number 12 text)
is_field Register text = is_some (ring_at text)
is_field Operand text = is_some (operand_at text)
