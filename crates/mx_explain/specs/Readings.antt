-- Helpers that private contracts cite: what words are read as.
use Rattle.std.specs.Prelude.{◌≡◌, ℕ, ◌≤◌, true, List, map, Option, None, Some, codes}
use Rattle.std.specs.String.{string_bytes}
use Rattle.mx_explain.specs.Commands.{is_order, word_of, IsNothing, IsOneNumber, IsNamed, IsSeed, LineName, AreTwo, IsLint, IsPlain, IsBreach, IsDrill, IsHelp, IsCommand}
use Rattle.mx_explain.specs.declared.words.Turns.{Turns}
use Rattle.mx_explain.specs.declared.words.Turns.TheVariants.{Threads, Chosen, Named}
use Rattle.mx_explain.specs.declared.words.Form.{Form}
use Rattle.mx_explain.specs.declared.words.View.{View}
use Rattle.mx_explain.specs.declared.words.View.TheVariants.{Lint, Run, Outcomes}
use Rattle.mx_explain.specs.declared.words.Reading.{Reading}
use Rattle.mx_explain.specs.declared.words.Reading.TheVariants.{Session, Plain}
use Rattle.mx_explain.specs.declared.words.Command.{Command}
use Rattle.mx_explain.specs.declared.words.Command.TheVariants.{Read, Breach, Drill, Help, Other}

-- the number that words are, or that they are none
abbrev pub IsOneNumberOf : List (List ℕ) → Option ℕ → Type 0
IsOneNumberOf words None = (number : ℕ) → IsOneNumber words number → ⊥
IsOneNumberOf words (Some number) = IsOneNumber words number

abbrev pub IsSeedOf : List (List ℕ) → Option ℕ → Type 0
IsSeedOf words None = (number : ℕ) → IsSeed words number → ⊥
IsSeedOf words (Some number) = IsSeed words number

-- these words ask for such turns
abbrev pub TakesTurns : Turns → List (List ℕ) → Type 0
TakesTurns Threads words = IsNothing words
TakesTurns (Chosen number) words = IsSeed words number
TakesTurns (Named order) words = (map string_bytes order.now ≡ words) × (is_order words ≡ true)

-- these words ask for the outcomes of all lines, or of such two
abbrev pub AsksLines : Option (LineName × LineName) → List (List ℕ) → Type 0
AsksLines None words = IsNothing words
AsksLines (Some two) words = AreTwo words two

-- the form that a name asks for, or that it asks for none
abbrev pub IsFormOf : List ℕ → Option Form → Type 0
IsFormOf name None = (form : Form) → name ≡ word_of form → ⊥
IsFormOf name (Some form) = name ≡ word_of form

-- these words ask for such a view
abbrev pub IsAsked : View → List (List ℕ) → Type 0
IsAsked Lint words = IsLint words
IsAsked (Run form turns) words = IsNamed (word_of form) (TakesTurns turns) words
IsAsked (Outcomes asked) words = IsNamed (codes "outcomes") (AsksLines asked) words

-- these words ask for the source to be read so
abbrev pub IsReadSo : Reading → List (List ℕ) → Type 0
IsReadSo (Session view) words = IsAsked view words
IsReadSo Plain words = IsPlain words

-- what words ask for
abbrev pub IsMeant : List (List ℕ) → Command → Type 0
IsMeant words (Read reading) = IsReadSo reading words
IsMeant words Breach = IsBreach words
IsMeant words (Drill number) = IsDrill words number × (number ≤ 999999)
IsMeant words Help = IsHelp words
IsMeant words Other = IsCommand words → ⊥
