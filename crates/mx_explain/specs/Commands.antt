-- The words of a command line that are accepted.
use Rattle.std.specs.Prelude.{◌≡◌, ◌⊎◌, ℕ, nat_le, Bool, true, ◌&&◌, List, [], ◌∷◌, length, Option, None, Some, is_some, codes}
use Rattle.std.specs.List.{list_all}
use Rattle.mx_name.specs.Cuts.{cut_at}
use Rattle.mx_request.specs.Decimals.{decimal_number}
use Rattle.mx_request.specs.Steps.{◌>>=◌, when}
use Rattle.mx_drill.specs.Numbers.{IsNumber}
use Rattle.mx_explain.specs.declared.words.Form.{Form}
use Rattle.mx_explain.specs.declared.words.Form.TheVariants.{Lines, Story, Picture, Page}

-- a number is that of a process
abbrev pub process : ℕ → Option ℕ
process number = when (nat_le 1 number && nat_le number 15) number

-- the process that a word names: 1 to 15, in decimal without a leading zero
abbrev pub process_of : List ℕ → Option ℕ
process_of word = decimal_number 2 word >>= process

-- an order: 1 to 4,096 processes, the one whose line is made first before the others
abbrev pub is_order : List (List ℕ) → Bool
is_order words = nat_le 1 (length words) && (nat_le (length words) 4096 && list_all (λ word. is_some (process_of word)) words)

-- one word: a number of 1 to 6 decimal digits
pub record IsOneNumber (words : List (List ℕ)) (number : ℕ) : Type 0 where
  pub digits : List ℕ
  pub words_are : words ≡ digits ∷ []
  pub spelled : IsNumber digits number

-- a name, and then words that may follow it
abbrev pub IsNamed : List ℕ → (List (List ℕ) → Type 0) → List (List ℕ) → Type 0
IsNamed name follow [] = ⊥
IsNamed name follow (word ∷ words) = (word ≡ name) × follow words

abbrev pub IsNothing : List (List ℕ) → Type 0
IsNothing words = words ≡ []

-- `seed N`: the number chooses an order
abbrev pub IsSeed : List (List ℕ) → ℕ → Type 0
IsSeed words number = IsNamed (codes "seed") (λ rest. IsOneNumber rest number) words

-- how the processes are to take turns: as their threads do, in the order that a number chooses, or in this order
abbrev pub IsTurns : List (List ℕ) → Type 0
IsTurns words = IsNothing words ⊎ (((number : ℕ) × IsSeed words number) ⊎ (is_order words ≡ true))

abbrev pub IsLint : List (List ℕ) → Type 0
IsLint words = IsNamed (codes "lint") IsNothing words

-- the word that asks for a run in this form
abbrev pub word_of : Form → List ℕ
word_of Lines = codes "lines"
word_of Story = codes "story"
word_of Picture = codes "picture"
word_of Page = codes "page"

-- the run of a session is asked for in this form
abbrev pub IsRunAs : Form → List (List ℕ) → Type 0
IsRunAs form words = IsNamed (word_of form) IsTurns words

abbrev pub IsRun : List (List ℕ) → Type 0
IsRun words = (form : Form) × IsRunAs form words

-- a line of a script: its process, and its number in the text of the session
abbrev pub LineName : Type 0
LineName = ℕ × ℕ

abbrev pub with_number : ℕ → ℕ → LineName
with_number process number = (process, number)

-- the line that two texts name: of a process 1 to 15, and a number of at most 7 decimal digits, neither with a leading zero
abbrev pub numbered_in : List ℕ → ℕ → Option LineName
numbered_in word process = decimal_number 7 word >>= λ number. Some (with_number process number)

abbrev pub named_in : List ℕ × List ℕ → Option LineName
named_in parts = process_of parts.0 >>= numbered_in parts.1

-- the line that a word `P.L` names
abbrev pub line_of : List ℕ → Option LineName
line_of word = cut_at 46 word >>= named_in

-- the lines that two words name
abbrev pub with_other : List ℕ → LineName → Option (LineName × LineName)
with_other word one = line_of word >>= λ other. Some (one, other)

abbrev pub two_lines : List (List ℕ) → Option (LineName × LineName)
two_lines [] = None
two_lines (word ∷ []) = None
two_lines (word ∷ other ∷ []) = line_of word >>= with_other other
two_lines (word ∷ other ∷ third ∷ words) = None

abbrev pub AreTwo : List (List ℕ) → LineName × LineName → Type 0
AreTwo words two = two_lines words ≡ Some two

-- `outcomes` of all lines, of two, and of either
abbrev pub IsOutcomes : List (List ℕ) → Type 0
IsOutcomes words = IsNamed (codes "outcomes") IsNothing words

abbrev pub IsPair : List (List ℕ) → LineName × LineName → Type 0
IsPair words two = IsNamed (codes "outcomes") (λ rest. AreTwo rest two) words

abbrev pub AreLines : List (List ℕ) → Type 0
AreLines words = IsNothing words ⊎ ((two : LineName × LineName) × AreTwo words two)

abbrev pub IsTelling : List (List ℕ) → Type 0
IsTelling words = IsNamed (codes "outcomes") AreLines words

abbrev pub IsPlain : List (List ℕ) → Type 0
IsPlain words = IsNamed (codes "plain") IsNothing words

abbrev pub IsBreach : List (List ℕ) → Type 0
IsBreach words = IsNamed (codes "breach") IsNothing words

abbrev pub IsDrill : List (List ℕ) → ℕ → Type 0
IsDrill words number = IsNamed (codes "drill") (λ rest. IsOneNumber rest number) words

abbrev pub IsHelp : List (List ℕ) → Type 0
IsHelp words = IsNamed (codes "help") IsNothing words

-- what is told of a session: the source is read
abbrev pub IsShowing : List (List ℕ) → Type 0
IsShowing words = IsLint words ⊎ (IsRun words ⊎ IsTelling words)

-- the commands that read the source
abbrev pub IsReading : List (List ℕ) → Type 0
IsReading words = IsShowing words ⊎ (IsPlain words ⊎ IsBreach words)

-- the commands that do not
abbrev pub IsAnswered : List (List ℕ) → Type 0
IsAnswered words = ((number : ℕ) × IsDrill words number) ⊎ IsHelp words

abbrev pub IsCommand : List (List ℕ) → Type 0
IsCommand words = IsReading words ⊎ IsAnswered words
