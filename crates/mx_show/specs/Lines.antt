-- The text of `lines`: the lines of a run in order, each under its number and in the session's own spelling, and behind each
-- what is told of it, on lines of their own that begin with four spaces. Lines that a process has left out, since it was logged
-- out, are not shown: one line stands in their place and says which.
use Rattle.std.specs.Prelude.{◌≡◌, ℕ, zero, suc, ◌+◌, ◌-◌, Bool, true, List, [], ◌∷◌, ◌++◌, drop, length, Option, codes, if◌then◌else◌}
use Rattle.std.specs.Fmt.{decimal}
use Rattle.std.specs.List.{flat_map, list_all}
use Rattle.mx_aim.specs.Classes.{PlainClass, class_text, equals, lowest}
use Rattle.mx_io.specs.Bytes.{Appends}
use Rattle.mx_transcript.specs.Parts.{AreLinesOf}
use Rattle.mx_transcript.specs.Scripts.{first_line, lines_of}
use Rattle.mx_transcript.specs.Transcripts.{Step, part}
use Rattle.mx_name.specs.Names.{is_free}
use Rattle.mx_name.specs.Principals.{principal_text}
use Rattle.mx_request.specs.declared.entrants.Entrant.{Entrant}
use Rattle.mx_script.specs.Sessions.{Outline}
use Rattle.mx_script.specs.SessionTexts.{line_text}
use Rattle.mx_script.specs.declared.lines.Line.{Line}
use Rattle.mx_state.specs.declared.journal.Entry as journaled

-- a line as it stands in the session, under its number
abbrev pub head_text : ℕ → Line → List ℕ
head_text number line = codes "line " ++ decimal number ++ codes ": " ++ line_text line ++ codes "\n"

-- words that are told of it
abbrev pub told_line : List ℕ → List ℕ
told_line words = codes "    " ++ words ++ codes "\n"

abbrev pub told_text : List (List ℕ) → List ℕ
told_text told = flat_map told_line told

-- words without a newline
abbrev pub are_lines : List (List ℕ) → Bool
are_lines told = list_all (is_free 10) told

-- what stands in the place of so many lines that were left out, the first of them under this number
abbrev pub left_text : ℕ → ℕ → List ℕ
left_text number zero = []
left_text number (suc zero) = codes "line " ++ decimal number ++ codes " is left out: the process is logged out\n"
left_text number (suc (suc more)) =
    codes "lines " ++ decimal number ++ codes " to " ++ decimal (suc (number + more))
    ++ codes " are left out: the process is logged out\n"

-- This is shown of lines that came to these steps, one after another, where the line of this number comes next: before each
-- which were left out, then the line, and what is told of it.
abbrev pub AreShown : ℕ → List (ℕ × Line) → List Step → List ℕ → Type 0
AreShown next [] [] text = text ≡ []
AreShown next (line ∷ lines) (step ∷ steps) text =
    (told : List (List ℕ)) × (rest : List ℕ) × (are_lines told ≡ true)
    × (text ≡ left_text next (line.0 - next) ++ head_text line.0 line.1 ++ told_text told ++ rest)
    × AreShown (suc line.0) lines steps rest
AreShown next _ _ text = ⊥

-- this is shown of a part, whose script has these lines, the first under this number: of all of them, or of those of a part
-- that was cut after a denied line
pub record IsPartShown (first : ℕ) (lines : List (ℕ × Line)) (steps : List Step) (text : List ℕ) : Type 0 where
  pub ran : List (ℕ × Line)
  pub are : AreLinesOf lines steps ran
  pub shown : AreShown first ran steps text

-- how many processes and journal entries there are, and whose lines come first
abbrev pub counts_text : ℕ → ℕ → List ℕ
counts_text processes entries =
    codes "processes: " ++ decimal processes ++ codes "; journal entries: " ++ decimal entries
    ++ codes "\n\nsetup: Initializer.SysDaemon.z in ring 0\n"

abbrev pub opening_text : Outline → List journaled.Entry → List ℕ
opening_text x journal = counts_text (length x.principals) (length journal)

-- the authorization of a process is told where it is not the lowest
abbrev pub authorization_text : PlainClass → List ℕ
authorization_text class = if equals class lowest then [] else codes " of class " ++ class_text class

-- whose lines come
abbrev pub heading_text : ℕ → Entrant → List ℕ
heading_text p entrant =
    codes "\nprocess " ++ decimal p ++ codes ": " ++ principal_text entrant.who
    ++ (authorization_text entrant.authorization ++ codes ", from ring 4\n")

-- this is shown of the processes behind so many: each heading, and behind it the lines of its part
abbrev pub AreProcessesShown : Outline → ℕ → List Entrant → List (List Step) → List ℕ → Type 0
AreProcessesShown x p [] [] text = text ≡ []
AreProcessesShown x p (entrant ∷ entrants) (steps ∷ transcripts) text =
    (shown : List ℕ) × (rest : List ℕ) × (text ≡ heading_text (suc p) entrant ++ shown ++ rest)
    × IsPartShown (first_line x (suc p)) (lines_of x (suc p)) steps shown
    × AreProcessesShown x (suc p) entrants transcripts rest
AreProcessesShown x p _ _ text = ⊥

-- this is the text of a run of the session: the opening, all lines of the setup, and those of each process
pub record IsLinesText (x : Outline) (journal : List journaled.Entry) (transcripts : List (List Step)) (text : List ℕ) : Type 0 where
  pub setup : List ℕ
  pub processes : List ℕ
  pub text_is : text ≡ opening_text x journal ++ setup ++ processes
  pub setup_shown : AreShown (first_line x 0) (lines_of x 0) (part transcripts 0) setup
  pub processes_shown : AreProcessesShown x 0 x.principals (drop 1 transcripts) processes

-- the sink gained such a text
pub record GainsLines (before after : Option (List ℕ)) (x : Outline) (journal : List journaled.Entry) (transcripts : List (List Step)) : Type 0 where
  pub text : List ℕ
  pub lines : IsLinesText x journal transcripts text
  pub gained : Appends before after text
