-- Helpers of the printer: what is added to a buffer, and what of it goes to the sink.
use Rattle.std.specs.Prelude.{◌≡◌, ℕ, ◌-◌, ◌<◌, ◌≤◌, true, List, [], ◌∷◌, ◌++◌, map, get_or, length, Option}
use Rattle.mx_transcript.specs.Parts.{AreLinesOf}
use Rattle.mx_transcript.specs.Scripts.{lines_of}
use Rattle.mx_transcript.specs.Transcripts.{Step}
use Rattle.mx_request.specs.declared.entrants.Entrant.{Entrant}
use Rattle.mx_script.specs.Sessions.{Outline}
use Rattle.mx_script.specs.declared.lines.Line.{Line}
use Rattle.mx_script.specs.declared.lines.Line.TheVariants.{Fetch}
use Rattle.mx_text.specs.Printing.{IsSent}
use Rattle.mx_show.specs.Lines.{head_text, told_text, are_lines, AreShown, AreProcessesShown}

-- words were added behind what stood there
pub record IsToldBehind (before after : List ℕ) : Type 0 where
  pub told : List (List ℕ)
  pub lines : are_lines told ≡ true
  pub added : after ≡ before ++ told_text told

-- a line was added, and what is told of it
pub record IsLineBehind (number : ℕ) (line : Line) (before after : List ℕ) : Type 0 where
  pub told : List (List ℕ)
  pub lines : are_lines told ≡ true
  pub added : after ≡ before ++ (head_text number line ++ told_text told)

-- lines that came to these steps were added, where the line of this number comes first, and a part of all was sent
pub record PrintsLines (first : ℕ) (lines : List (ℕ × Line)) (steps : List Step) (sink sink' : Option (List ℕ))
    (before rest : List ℕ) : Type 0 where
  pub text : List ℕ
  pub shown : AreShown first lines steps text
  pub is_sent : IsSent sink sink' rest (before ++ text)

-- the processes behind so many were added and a part of all was sent
pub record PrintsProcesses (x : Outline) (p : ℕ) (entrants : List Entrant) (transcripts : List (List Step))
    (sink sink' : Option (List ℕ)) (before rest : List ℕ) : Type 0 where
  pub text : List ℕ
  pub shown : AreProcessesShown x p entrants transcripts text
  pub is_sent : IsSent sink sink' rest (before ++ text)

-- the steps have the numbers of these lines
abbrev pub HaveNumbers : List (ℕ × Line) → List Step → Type 0
HaveNumbers [] [] = Unit {0}
HaveNumbers (line ∷ lines) (step ∷ steps) = (step.0 ≡ line.0) × HaveNumbers lines steps
HaveNumbers _ _ = ⊥

-- each step has the number of a line of the script, whose first line has this one
abbrev pub HaveLines : ℕ → List Line → List Step → Type 0
HaveLines first script [] = Unit {0}
HaveLines first script (step ∷ steps) =
    (first ≤ step.0) × (step.0 - first < length script) × HaveLines first script steps

-- the line of the script that a step has the number of, and the lines of all steps
abbrev pub line_of : ℕ → List Line → Step → ℕ × Line
line_of first script step = (step.0, get_or script (step.0 - first) Fetch)

abbrev pub lines_by : ℕ → List Line → List Step → List (ℕ × Line)
lines_by first script steps = map (line_of first script) steps

-- it is a part of the process: the steps are those of all its lines, or of those of a part that was cut
pub record IsPartOf (x : Outline) (p : ℕ) (steps : List Step) : Type 0 where
  pub ran : List (ℕ × Line)
  pub are : AreLinesOf (lines_of x p) steps ran
  pub numbers : HaveNumbers ran steps

-- Lines were printed up to these: with what is shown of those that are left, this is shown of all.
pub record IsUpTo (first : ℕ) (all : List (ℕ × Line)) (all_steps : List Step) (next : ℕ) (lines : List (ℕ × Line))
    (steps : List Step) (sink sink' : Option (List ℕ)) (before buffer : List ℕ) : Type 0 where
  pub sofar : List ℕ
  pub is_sent : IsSent sink sink' buffer (before ++ sofar)
  pub goes : (rest : List ℕ) → AreShown next lines steps rest → AreShown first all all_steps (sofar ++ rest)

-- The first p processes were printed.
pub record IsThrough (x : Outline) (all : List Entrant) (all_transcripts : List (List Step)) (p : ℕ)
    (entrants : List Entrant) (transcripts : List (List Step)) (sink sink' : Option (List ℕ)) (before buffer : List ℕ)
    : Type 0 where
  pub sofar : List ℕ
  pub is_sent : IsSent sink sink' buffer (before ++ sofar)
  pub goes : (rest : List ℕ) → AreProcessesShown x p entrants transcripts rest
      → AreProcessesShown x 0 all all_transcripts (sofar ++ rest)
