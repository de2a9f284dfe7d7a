-- Helpers: what the words of a command line are read as.
use Rattle.std.specs.Prelude.{ℕ, ◌≤◌, List, Option, None, Some}
use Rattle.mx_run.specs.Commands.{IsRun, IsDrill, IsCheck, IsAccepted}
use Rattle.mx_run.specs.declared.words.Command.{Command}
use Rattle.mx_run.specs.declared.words.Command.TheVariants.{Run, Drill, Check, Other}

-- the drill that words ask for, or that they ask for none
abbrev pub IsDrillOf : List (List ℕ) → Option ℕ → Type 0
IsDrillOf words None = (number : ℕ) → IsDrill words number → ⊥
IsDrillOf words (Some number) = IsDrill words number

abbrev pub IsCommand : List (List ℕ) → Command → Type 0
IsCommand words Run = IsRun words
IsCommand words (Drill number) = IsDrill words number × (number ≤ 999999)
IsCommand words Check = IsCheck words
IsCommand words Other = IsAccepted words → ⊥
