-- Entry names: what a name may hold, and the first thing that is wrong with a text that is none.
use Rattle.std.specs.Prelude.{ℕ, Bool, ◌&&◌, not, ◌==◌, nat_lt, List, Option, None, Some, Result, if◌then◌else◌, length, codes}
use Rattle.std.specs.List.{list_any, list_all}
use Rattle.std.specs.Cmp.Lexicographic.{pointwise}
use Rattle.std.specs.Result.{result_ok}
use Rattle.mx_name.specs.declared.names.NameError.{NameError}
use Rattle.mx_name.specs.declared.names.NameError.TheVariants.{Empty, TooLong, BadChar}
use Rattle.mx_name.specs.Answers.{unless}

-- printable ASCII, except the space and > < * ? $ , | : = (this model's choice)
abbrev pub is_name_byte : ℕ → Bool
is_name_byte byte = nat_lt 32 byte && nat_lt byte 127 && not (list_any (λ excluded. byte == excluded) (codes "><*?$,|:="))

-- the fault of a text of which each byte is to pass a test, and which is to have at most so many
abbrev pub fault_of : (ℕ → Bool) → ℕ → List ℕ → Option NameError
fault_of fits most text =
    if length text == 0 then Some Empty
    else (if nat_lt most (length text) then Some TooLong
    else (if list_all fits text then None else Some BadChar))

-- an entry name has 1 to 32 characters
abbrev pub name_fault : List ℕ → Option NameError
name_fault text = fault_of is_name_byte 32 text

-- what a text says as a name
abbrev pub name_reading : List ℕ → Result (List ℕ) NameError
name_reading text = unless (name_fault text) text

-- the name that a text without a fault is
abbrev pub name_of : List ℕ → Option (List ℕ)
name_of text = result_ok (name_reading text)

-- a text without the byte
abbrev pub is_free : ℕ → List ℕ → Bool
is_free byte text = list_all (λ other. not (other == byte)) text

-- two equal names
abbrev pub same_name : List ℕ → List ℕ → Bool
same_name name other = pointwise ◌==◌ name other
