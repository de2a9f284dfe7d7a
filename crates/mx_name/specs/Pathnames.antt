-- Pathnames as they are written: marks at the front, then names with a separator between each two.
use Rattle.std.specs.Prelude.{ℕ, ◌+◌, ◌==◌, Bool, false, ◌&&◌, ◌||◌, not, nat_lt, List, [], ◌∷◌, drop, Option, None, Some, Result, if◌then◌else◌, length}
use Rattle.std.specs.List.{slice_split}
use Rattle.std.specs.Option.{option_or}
use Rattle.std.specs.Result.{result_ok}
use Rattle.mx_name.specs.declared.names.NameError.{NameError}
use Rattle.mx_name.specs.declared.names.NameError.TheVariants.{TooLong}
use Rattle.mx_name.specs.Answers.{unless}
use Rattle.mx_name.specs.Names.{is_name_byte, name_fault}

-- a pathname that begins with `>` starts at the root
abbrev pub is_absolute : List ℕ → Bool
is_absolute [] = false
is_absolute (byte ∷ rest) = byte == 62

-- how many `<` it begins with: each goes up one directory
abbrev pub climbs : List ℕ → ℕ
climbs [] = 0
climbs (byte ∷ rest) = if byte == 60 then 1 + climbs rest else 0

-- what follows the mark `>`, or the marks `<`, at the front
abbrev pub after_marks : List ℕ → List ℕ
after_marks text = if is_absolute text then drop 1 text else drop (climbs text) text

-- its names, in order, each between two separators; marks alone (`>`, `<`, `<<`) have no names
abbrev pub names_of : List ℕ → List (List ℕ)
names_of text =
    if not (length text == 0) && (length (after_marks text) == 0) then []
    else slice_split (λ byte. byte == 62) (after_marks text)

-- the fault of the first bad name from the left
abbrev pub first_fault : List (List ℕ) → Option NameError
first_fault [] = None
first_fault (name ∷ names) = option_or (name_fault name) (first_fault names)

-- a pathname has at most 168 bytes, and each of its names is a name
abbrev pub pathname_fault : List ℕ → Option NameError
pathname_fault text = if nat_lt 168 (length text) then Some TooLong else first_fault (names_of text)

-- what a text says as a pathname
abbrev pub pathname_reading : List ℕ → Result (List ℕ) NameError
pathname_reading text = unless (pathname_fault text) text

-- the pathname that a text without a fault is
abbrev pub pathname_of : List ℕ → Option (List ℕ)
pathname_of text = result_ok (pathname_reading text)

-- what pathnames are made of: their marks and separators, and the bytes of names
abbrev pub is_pathname_byte : ℕ → Bool
is_pathname_byte byte = is_name_byte byte || byte == 60 || byte == 62
